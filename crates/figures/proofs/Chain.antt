-- A chain of tests that code runs one after the other, with `false` at the first that fails: which tests remain.
-- Assumes nothing.
use mathlib.Core.Path.{◌≡◌, refl, sym, ap, ◌∙◌}
use mathlib.Core.Bool.{Bool, true, false, not, ◌&&◌}
use mathlib.Core.List.{List, [], ◌∷◌, ◌++◌}
use Rattle.figures.proofs.Tests.{failed, passed}

-- b && t && .. over the tests, from the left
abbrev pub all_from : Bool → List Bool → Bool
all_from b [] = b
all_from b (t ∷ rest) = all_from (b && t) rest

from_false : (tests : List Bool) → all_from false tests ≡ false
from_false [] = refl
from_false (t ∷ rest) = from_false rest

-- The whole holds where the remaining tests do.
pub record Remaining (whole : Bool) (tests : List Bool) : Type 0 where
  pub is : whole ≡ all_from true tests

module _ {whole r t : Bool} {rest : List Bool} where
  -- the next test's answer is r: past the branch on `!r`
  pub goes_on : Remaining whole (t ∷ rest) → r ≡ t → not r ≡ false → Remaining whole rest
  goes_on m e h = record { is = rw (passed e h) at m.is }

  -- in that branch
  pub stops : Remaining whole (t ∷ rest) → r ≡ t → not r ≡ true → false ≡ whole
  stops m e h =
      let k : whole ≡ all_from false rest = rw (failed e h) at m.is in
      sym (k ∙ from_false rest)

-- the last test's answer
pub ends : {whole r t : Bool} → Remaining whole (t ∷ []) → r ≡ t → r ≡ whole
ends m e = e ∙ sym m.is

and-swap : (b t u : Bool) → (b && t && u) ≡ (b && u && t)
and-swap true true true = refl
and-swap true true false = refl
and-swap true false true = refl
and-swap true false false = refl
and-swap false t u = refl

-- A test may be taken last.
pub taken-last : (b t : Bool) (rest : List Bool) → all_from b (t ∷ rest) ≡ all_from b (rest ++ (t ∷ []))
taken-last b t [] = refl
taken-last b t (u ∷ rest) = ap (λ (c : Bool). all_from c rest) (and-swap b t u) ∙ taken-last (b && u) t rest

-- ---- the chain at a row, call by call

-- the first of some tests, and those after it
abbrev pub first : List Bool → Bool
first [] = true
first (t ∷ rest) = t

abbrev pub others : List Bool → List Bool
others [] = []
others (t ∷ rest) = rest

pub past_first : {whole r : Bool} (tests : List Bool) → Remaining whole tests → r ≡ first tests → not r ≡ false → Remaining whole (others tests)
past_first [] m e h = m
past_first (t ∷ rest) m e h = goes_on m e h

first-fails : {whole r : Bool} (tests : List Bool) → Remaining whole tests → r ≡ first tests → not r ≡ true → false ≡ whole
first-fails [] m e h = sym (m.is ∙ failed e h)
first-fails (t ∷ rest) m e h = stops m e h

-- The tests that remain of a row, of which the first was asked and answered `r`.
pub record Asked {Row : Type 0} (whole : Row → Bool) (tests : Row → List Bool) (r : Bool) : Type 0 where
  pub row : Row
  pub remain : Remaining (whole row) (tests row)
  pub answer : r ≡ first (tests row)

module _ {Row : Type 0} {whole : Row → Bool} {tests : Row → List Bool} {r : Bool} (a : Asked whole tests r) where
  -- it held, and the next one was answered `s`
  abbrev pub asked-next : {s : Bool} → not r ≡ false → s ≡ first (others (tests a.row)) → Asked whole (λ row. others (tests row)) s
  asked-next h e = record { row = a.row; remain = past_first (tests a.row) a.remain a.answer h; answer = e }

  pub asked-fails : not r ≡ true → false ≡ whole a.row
  asked-fails h = first-fails (tests a.row) a.remain a.answer h
