-- A record moved to another account, as an account transfer and the step that completes a give-up do it: tests 12 to 16 in the shape in which code meets them, and what it
-- puts. The types of the two new rows change no test. By the definitions. Assumes nothing.
use Prim.Native.Nat.{ℕ, ◌+◌}
use mathlib.Core.Path.{◌≡◌, refl, ap}
use mathlib.Core.Bool.{not, ◌&&◌}
use mathlib.Core.List.{List, [], ◌∷◌, ◌++◌}
use mathlib.Core.Option.{some}
use lib.Dec.{ltb}
use lib.IntN.{ℤ, pos, neg_ℤ, ◌+ℤ◌}
use lib.ListN.{length}
use lib.Signed.{lt_z, ◌≤ℤ◌}
use Rattle.integers.proofs.Linear.{zarith, +-lin}
use Rattle.rules.specs.Figures.{transfer_kind, greatest_of_suffixes}
use Rattle.rules.specs.Rows.{adjusted_record, inverse_record, adjustable_record, moved, sound_position}
use Rattle.rules.specs.Refusal.{test, any_of, all_of, first_refusal}
use Rattle.rules.specs.Plan.{booking_tests, process_room_test, suffix_is_above, with_process_row}
use Rattle.rules.specs.Transfer.{in_long, in_short, in_side, holds_too_little}
use Rattle.rules.specs.Layout.{room_of, rows_of}
use Rattle.rules.specs.Tables.{all_tables, tables_of, books_of, records_layout, positions_layout}
use Rattle.rules.specs.declared.Record.{Record}
use Rattle.rules.specs.declared.Position.{Position}
use Rattle.rules.specs.declared.ProcessRow.{ProcessRow}
use Rattle.soundness.proofs.NamedRecord.{next_of}
use Rattle.verdict.specs.Verdict.{verdict_of, absent_position}
use Rattle.verdict.specs.Moving.{moving_effects, moving_verdict}
use Rattle.verdict.proofs.Remaining.{Listed, row, tests_of, from_test, Remaining, and-true, or_nothing}
use Rattle.verdict.proofs.Room.{position_read, absent-moved, absent-one}
use Rattle.verdict.proofs.Suffixes.{above-later}

-- The rows that come out of the record, of these types, from its id's next suffix on; and all that are put.
abbrev pub moving_inverse : (inverse_kind today : ℤ) → Record → ℤ → Record
moving_inverse inverse_kind today r next = inverse_record today r next inverse_kind (in_long r.side (neg_ℤ r.quantity)) (in_short r.side (neg_ℤ r.quantity)) (pos 0)

abbrev pub moving_arrived : (new_kind today : ℤ) → Record → ℤ → ℤ → Record
moving_arrived new_kind today r next to = adjustable_record today r (next +ℤ pos 1) new_kind to r.quantity (in_long r.side r.quantity) (in_short r.side r.quantity)

abbrev pub moving_rows : (inverse_kind new_kind today : ℤ) → Record → ℤ → ℤ → List Record
moving_rows inverse_kind new_kind today r next to = adjusted_record r ∷ moving_inverse inverse_kind today r next ∷ moving_arrived new_kind today r next to ∷ []

-- The positions that it leaves: the old account's and the new one's.
abbrev pub moving_old : List ℤ → Record → ℤ → ℤ → Position
moving_old ps r from series = moved (position_read ps from series) (in_side r.side (neg_ℤ r.quantity) r.price)

abbrev pub moving_new : List ℤ → Record → ℤ → ℤ → Position
moving_new ps r to series = moved (position_read ps to series) (in_side r.side r.quantity r.price)

module _ (rs ps : List ℤ) (id from to series : ℤ) (r : Record) where
  abbrev next : ℤ
  next = next_of (rows_of records_layout rs) id

  abbrev pub moving_tests : List Listed
  moving_tests =
      row 12 (holds_too_little r (position_read ps from series))
      ∷ row 13 (lt_z greatest_of_suffixes (next +ℤ pos 1))
      ∷ row 14 (ltb (room_of records_layout rs) (length (rows_of records_layout rs) + 2))
      ∷ row 15 (ltb (room_of positions_layout ps) (length (rows_of positions_layout ps) + (absent_position ps from series + absent_position ps to series)))
      ∷ row 16 (not (sound_position (moving_old ps r from series) && sound_position (moving_new ps r to series)))
      ∷ []

  -- The verdict is that of the tests from number n on.
  abbrev pub MovingFrom : ℕ → Type 0
  MovingFrom n = Remaining (moving_verdict rs ps r id from to series) (from_test n moving_tests)

  pub moving-first : first_refusal (test 12 (holds_too_little r (position_read ps from series)) ∷ booking_tests (books_of (tables_of rs ps)) (moving_effects transfer_kind transfer_kind rs ps r id from to series))
      ≡ first_refusal (tests_of moving_tests)
  unfolding books_of booking_tests process_room_test suffix_is_above inverse_record adjustable_record any_of all_of first_refusal test
  moving-first =
      let later : next ≤ℤ (next +ℤ pos 1) = omega (zarith, +-lin next (pos 1)) in
      rw (or_nothing, above-later greatest_of_suffixes next (next +ℤ pos 1) later, absent-moved, absent-one, and-true)

  pub moving-tests : MovingFrom 12
  unfolding moving_verdict
  moving-tests = record { is = ap verdict_of moving-first }

  -- ---- of any types

  module _ (inverse_kind new_kind : ℤ) where
    pub moving-types : booking_tests (books_of (tables_of rs ps)) (moving_effects inverse_kind new_kind rs ps r id from to series)
        ≡ booking_tests (books_of (tables_of rs ps)) (moving_effects transfer_kind transfer_kind rs ps r id from to series)
    unfolding booking_tests suffix_is_above inverse_record adjustable_record
    moving-types = refl

    -- With the row of a process, on all tables: test 23 is the last.
    pub moving-step : (processes : List ℤ) (p : ProcessRow)
        → booking_tests (books_of (all_tables rs ps processes)) (with_process_row p (moving_effects inverse_kind new_kind rs ps r id from to series))
        ≡ booking_tests (books_of (tables_of rs ps)) (moving_effects transfer_kind transfer_kind rs ps r id from to series) ++ process_room_test (books_of (all_tables rs ps processes)) (some p)
    unfolding books_of booking_tests process_room_test suffix_is_above inverse_record adjustable_record
    moving-step processes p = refl
