-- The verdict on a request while its tests are made one after the other: it is that of the tests which remain. One that doesn't apply is passed, the first that
-- applies is the refusal, with its number and place, and where none is left the request is accepted. By the definitions. Assumes nothing.
use Prim.Native.Nat.{ℕ}
use native.Mathlib.Omega.{arith}
use mathlib.Core.Path.{◌≡◌, refl, sym, ◌∙◌, subst}
use mathlib.Core.Bool.{Bool, true, false, cond, ◌&&◌, ◌||◌}
use mathlib.Core.List.{List, [], ◌∷◌, map}
use mathlib.Core.Option.{some}
use lib.Dec.{eqb}
use lib.IntN.{pos}
use Rattle.rules.specs.NamedRecord.{is_not_adjustable, status_refusal}
use Rattle.rules.specs.Merge.{first_status_refusal}
use Rattle.rules.specs.Refusal.{Test, any_of, first_place, first_refusal}
use Rattle.rules.specs.declared.Record.{Record}
use Rattle.verdict.specs.Verdict.{verdict_of}
use Rattle.verdict.specs.Verdict.{Verdict}
use Rattle.verdict.specs.Verdict.{Accepted, Refused}

-- A test with the number that a list calls it by. It is the test's own, but of the status test, whose number is 7 or 17.
pub record Listed : Type 0 where
  pub label : ℕ
  pub is : Test

-- The rules' `test`, `test_each`, `status_test` and `status_of_each`, with their parts in sight.
abbrev pub row : ℕ → Bool → Listed
row number applies = record { label = number; is = record { number = number; applies = applies; place = 0 } }

abbrev pub row_each : ℕ → List Bool → Listed
row_each number fails = record { label = number; is = record { number = number; applies = any_of fails; place = first_place fails } }

abbrev pub status_row : Record → Listed
status_row r = record { label = 7; is = record { number = status_refusal r.status; applies = is_not_adjustable r; place = 0 } }

abbrev pub status_row_each : List Record → Listed
status_row_each rs = record { label = 7; is = record { number = first_status_refusal rs; applies = any_of (map is_not_adjustable rs); place = first_place (map is_not_adjustable rs) } }

abbrev pub tests_of : List Listed → List Test
tests_of [] = []
tests_of (t ∷ rest) = t.is ∷ tests_of rest

-- The tests from that with label n on, whatever the order of the labels; none where no test has it.
abbrev pub from_test : ℕ → List Listed → List Test
from_test n [] = []
from_test n (t ∷ rest) = cond (eqb t.label n) (tests_of (t ∷ rest)) (from_test n rest)

abbrev pub verdict_by : List Test → Verdict
verdict_by tests = verdict_of (first_refusal tests)

-- The verdict is that of the tests from here on.
pub record Remaining (whole : Verdict) (tests : List Test) : Type 0 where
  pub is : whole ≡ verdict_by tests

-- the next test doesn't apply
infixl 1 ◌past◌
pub ◌past◌ : {whole : Verdict} {t : Test} {rest : List Test} → Remaining whole (t ∷ rest) → t.applies ≡ false → Remaining whole rest
unfolding first_refusal
m past e = record { is = rw e at m.is }

-- nor does any of a request that is accepted
pub passes : {whole : Verdict} {t : Test} {rest : List Test} → Remaining whole (t ∷ rest) → whole ≡ Accepted → t.applies ≡ false
unfolding first_refusal verdict_of
passes {whole} {t} {rest} m e = go t.applies (sym m.is ∙ e)
  where
    go : (b : Bool) → verdict_of (cond b (some t) (first_refusal rest)) ≡ Accepted → b ≡ false
    go true h = let z : ◌≡◌ {A = ℕ} 0 1 = cc in absurd (omega arith)
    go false h = refl

-- it applies
pub stops : {whole : Verdict} {t : Test} {rest : List Test} → Remaining whole (t ∷ rest) → t.applies ≡ true → Refused (pos t.number) (pos t.place) ≡ whole
unfolding first_refusal verdict_of
stops m e = sym (rw e at m.is)

-- it applies, and its place is known
pub stops_at : {whole : Verdict} {t : Test} {rest : List Test} {i : ℕ}
    → Remaining whole (t ∷ rest) → (t.applies ≡ true) × (t.place ≡ i) → Refused (pos t.number) (pos i) ≡ whole
stops_at {whole} {t} m e = subst (λ (i : ℕ). Refused (pos t.number) (pos i) ≡ whole) e.1 (stops m e.0)

-- no test is left
pub ends : {whole : Verdict} → Remaining whole [] → Accepted ≡ whole
unfolding first_refusal verdict_of
ends m = sym m.is

-- A test beside one that always holds, or never applies.
pub and-true : (b : Bool) → (b && true) ≡ b
and-true true = refl
and-true false = refl

pub or_nothing : (b : Bool) → (b || false) ≡ b
or_nothing true = refl
or_nothing false = refl
