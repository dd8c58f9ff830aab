-- What acceptance says: no test of the list applies. In a plan that books these are its own tests and then those of the booking (13 to 16, and 23 of a step of a give-up).
-- By induction on the tests. Assumes nothing.
use Prim.Native.Nat.{◌+◌, ◌≤◌}
use mathlib.Core.Path.{◌≡◌, refl, sym, ◌∙◌}
use mathlib.Core.Bool.{Bool, true, false, ◌&&◌}
use mathlib.Core.List.{List, [], ◌∷◌, ◌++◌, map}
use mathlib.Core.Logic.{◌⊎◌, inl, inr}
use mathlib.Core.Option.{Option, none, some}
use lib.ListN.{length}
use borrow.Author.Tests.{ltb-false, not-false}
use Rattle.rules.specs.Keyed.{absent_from}
use Rattle.rules.specs.Rows.{position_key, sound_position}
use Rattle.rules.specs.ProcessRows.{process_key}
use Rattle.rules.specs.Refusal.{Test, test, any_of, all_of, first_refusal}
use Rattle.rules.specs.Books.{Books}
use Rattle.rules.specs.Plan.{Effects, booking, suffix_is_above, process_room_test, booking_tests, plan_tests}
use Rattle.rules.specs.declared.ProcessRow.{ProcessRow}
use Rattle.keys.proofs.Split.{split, none-some, and_left, and_right, or-false-left, or-false-right, cond-true, cond-false}
use Rattle.keys.proofs.Clauses.{all_of-intro, all_of-head, all_of-tail}

-- ---- lists of tests

-- No test of the list applies: one part for each test.
abbrev pub Passed : List Test → Type 0
Passed [] = Unit {0}
Passed (t ∷ rest) = (t.applies ≡ false) × Passed rest

pub passed : (tests : List Test) → first_refusal tests ≡ none → Passed tests
unfolding first_refusal
passed [] h = tt
passed (t ∷ rest) h = go (passed rest) (split t.applies)
  where
    go : (first_refusal rest ≡ none → Passed rest) → (t.applies ≡ true) ⊎ (t.applies ≡ false) → (t.applies ≡ false) × Passed rest
    go again (inl e) = none-some h (cond-true (some t) (first_refusal rest) e)
    go again (inr e) = (e, again (sym (cond-false (some t) (first_refusal rest) e) ∙ h))

-- The other way round.
pub all-passed : (tests : List Test) → Passed tests → first_refusal tests ≡ none
unfolding first_refusal
all-passed [] h = refl
all-passed (t ∷ rest) h = cond-false (some t) (first_refusal rest) h.0 ∙ all-passed rest h.1

pub passed_first : (xs ys : List Test) → Passed (xs ++ ys) → Passed xs
passed_first [] ys h = tt
passed_first (t ∷ rest) ys h = (h.0, passed_first rest ys h.1)

pub passed_then : (xs ys : List Test) → Passed (xs ++ ys) → Passed ys
passed_then [] ys h = h
passed_then (t ∷ rest) ys h = passed_then rest ys h.1

-- ---- tests of several figures, and over a list of rows

pub both : (a b : Bool) → (a && b) ≡ true → (a ≡ true) × (b ≡ true)
both a b h = (and_left a b h, and_right a b h)

pub any_of-head : (b : Bool) (rest : List Bool) → any_of (b ∷ rest) ≡ false → b ≡ false
unfolding any_of
any_of-head b rest h = or-false-left b (any_of rest) h

pub any_of-tail : (b : Bool) (rest : List Bool) → any_of (b ∷ rest) ≡ false → any_of rest ≡ false
unfolding any_of
any_of-tail b rest h = or-false-right b (any_of rest) h

pub any_of-first : {A : Type 0} (p : A → Bool) (xs ys : List A) → any_of (map p (xs ++ ys)) ≡ false → any_of (map p xs) ≡ false
unfolding any_of
any_of-first p [] ys h = refl
any_of-first p (x ∷ rest) ys h =
    let h₀ : p x ≡ false = any_of-head (p x) (map p (rest ++ ys)) h in
    let h₁ : any_of (map p rest) ≡ false = any_of-first p rest ys (any_of-tail (p x) (map p (rest ++ ys)) h) in
    rw (h₀, h₁)

pub all_of-append : {A : Type 0} (p : A → Bool) (xs ys : List A) → all_of (map p xs) ≡ true → all_of (map p ys) ≡ true → all_of (map p (xs ++ ys)) ≡ true
all_of-append p [] ys h k = k
all_of-append p (x ∷ rest) ys h k =
    all_of-intro (p x) (map p (rest ++ ys)) (all_of-head (p x) (map p rest) h) (all_of-append p rest ys (all_of-tail (p x) (map p rest) h) k)

-- ---- plans that book

-- What test 23 says: there is room for the process row of a step, where there is one.
abbrev pub ProcessRoom : Books → Option ProcessRow → Type 0
ProcessRoom b none = Unit {0}
ProcessRoom b (some p) = length b.processes + absent_from process_key b.processes (p ∷ []) ≤ b.processes_room

process-room : (b : Books) (o : Option ProcessRow) → Passed (process_room_test b o) → ProcessRoom b o
unfolding process_room_test test
process-room b none h = tt
process-room b (some p) h = ltb-false b.processes_room (length b.processes + absent_from process_key b.processes (p ∷ [])) h.0

-- What tests 13 to 16 and 23 say where none of them applies.
pub record BookingPassed (b : Books) (e : Effects) : Type 0 where
  pub suffixes : any_of (map suffix_is_above e.added) ≡ false
  pub records-room : length b.records + length e.added ≤ b.records_room
  pub positions-room : length b.positions + absent_from position_key b.positions e.positions ≤ b.positions_room
  pub positions-sound : all_of (map sound_position e.positions) ≡ true
  pub process-room : ProcessRoom b e.process

-- Of an accepted plan that books: its own tests, and those of the booking.
pub own-passed : (b : Books) (tests : List Test) (e : Effects) → first_refusal (plan_tests b (booking tests e)) ≡ none → Passed tests
unfolding plan_tests
own-passed b tests e h = passed_first tests (booking_tests b e) (passed (tests ++ booking_tests b e) h)

pub booking-passed : (b : Books) (tests : List Test) (e : Effects) → first_refusal (plan_tests b (booking tests e)) ≡ none → BookingPassed b e
unfolding plan_tests booking_tests test
booking-passed b tests e h =
    let p : Passed (booking_tests b e) = passed_then tests (booking_tests b e) (passed (tests ++ booking_tests b e) h) in
    record {
      suffixes = p.0;
      records-room = ltb-false b.records_room (length b.records + length e.added) p.1.0;
      positions-room = ltb-false b.positions_room (length b.positions + absent_from position_key b.positions e.positions) p.1.1.0;
      positions-sound = not-false (all_of (map sound_position e.positions)) p.1.1.1.0;
      process-room = process-room b e.process p.1.1.1.1;
    }
