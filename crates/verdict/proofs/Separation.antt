-- The tests of a separation in the shape in which code meets them, and the tables and answer of an accepted one. On a sound positions table 15 and 16 never apply,
-- since no position moves. By the definitions. Assumes nothing.
use Prim.Native.Nat.{ℕ, suc, ◌+◌}
use native.Mathlib.Omega.{arith}
use mathlib.Core.Path.{◌≡◌}
use mathlib.Core.Bool.{true, not}
use mathlib.Core.List.{List, [], ◌∷◌}
use mathlib.Core.Option.{Option, some}
use lib.Dec.{ltb}
use lib.IntN.{ℤ, pos, ◌+ℤ◌}
use lib.ListN.{length}
use lib.Signed.{lt_z}
use Rattle.integers.specs.Order.{eq_z}
use Rattle.rules.specs.Figures.{separation_kind, greatest_of_suffixes}
use Rattle.rules.specs.Keyed.{find, is_some, upsert_all, absent_from}
use Rattle.rules.specs.Rows.{key_of, record_key, adjusted_record, inverse_record}
use Rattle.rules.specs.NamedRecord.{the_record, is_elsewhere, status_test}
use Rattle.rules.specs.Refusal.{test, any_of, all_of, first_refusal}
use Rattle.rules.specs.Request.{separate}
use Rattle.rules.specs.Books.{view_of}
use Rattle.rules.specs.Plan.{plan_tests, booking_tests, process_room_test, suffix_is_above, booked, plan_reply}
use Rattle.rules.specs.Separation.{sum_of, separation_figures, part_records, separation_plan}
use Rattle.rules.specs.Layout.{room_of, rows_of, write}
use Rattle.rules.specs.Tables.{current_day, books_of, write_books, records_layout, positions_layout, sound_positions}
use Rattle.rules.specs.Handle.{plan_of, plan_tables, written_by, answered}
use Rattle.rules.specs.declared.Record.{Record}
use Rattle.rules.specs.declared.Reply.TheVariants.{Booked}
use Rattle.cells.proofs.RowCells.{positions-lawful}
use Rattle.cells.proofs.Write.{write-own}
use Rattle.cells.proofs.SoundCells.{positions-known}
use Rattle.soundness.proofs.NamedRecord.{next_of}
use Rattle.verdict.specs.Verdict.{verdict_on, accepted_on}
use Rattle.verdict.proofs.Remaining.{Listed, row, status_row, from_test, Remaining}
use Rattle.verdict.proofs.Room.{room-for-none}
use Rattle.verdict.proofs.Suffixes.{above-parts, parts-count}

-- The rows that a separation puts, from the named record and its id's next suffix.
abbrev pub separation_inverse : (today : ℤ) → Record → ℤ → Record
separation_inverse today r next = inverse_record today r next separation_kind (pos 0) (pos 0) (pos 0)

abbrev pub separation_rows : (today : ℤ) → Record → ℤ → List ℤ → List Record
separation_rows today r next parts = adjusted_record r ∷ separation_inverse today r next ∷ part_records today r (next +ℤ pos 1) parts

module _ (rs ps : List ℤ) (id suffix account series : ℤ) (parts : List ℤ) where
  abbrev next : ℤ
  next = next_of (rows_of records_layout rs) id

  abbrev named : Option Record
  named = find record_key (key_of id suffix) (rows_of records_layout rs)

  -- ---- the verdict

  -- The tests of a separation that names the record r.
  abbrev separation_tests : Record → List Listed
  separation_tests r =
      row 3 (not (separation_figures id suffix account series parts))
      ∷ row 5 (not (is_some named))
      ∷ row 6 (is_elsewhere account series r)
      ∷ status_row r
      ∷ row 11 (not (eq_z (sum_of parts) r.quantity))
      ∷ row 13 (lt_z greatest_of_suffixes (next +ℤ pos (length parts)))
      ∷ row 14 (ltb (room_of records_layout rs) (length (rows_of records_layout rs) + (length parts + 1)))
      ∷ []

  -- The verdict is that of the tests from number n on.
  abbrev pub SeparationFrom : ℕ → Record → Type 0
  SeparationFrom n r = Remaining (verdict_on rs ps (separate id suffix account series parts)) (from_test n (separation_tests r))

  pub separation-tests : sound_positions ps ≡ true → (r : Record) → the_record named ≡ r → SeparationFrom 3 r
  unfolding verdict_on plan_of separation_plan view_of books_of plan_tests booking_tests process_room_test status_test suffix_is_above inverse_record any_of all_of absent_from first_refusal test
  separation-tests positions-sound r e =
      let added : suc (length (part_records (current_day rs) (the_record named) (next +ℤ pos 1) parts)) ≡ length parts + 1 = omega (arith, parts-count (current_day rs) (the_record named) (next +ℤ pos 1) parts) in
      record { is = rw (← e, above-parts, added, room-for-none ps positions-sound) }

  -- ---- the booking

  module _ (positions-sound : sound_positions ps ≡ true) (r : Record) (e : named ≡ some r) where
    pub separation-booked : accepted_on rs ps (separate id suffix account series parts)
        ≡ answered (Booked (pos (length parts) +ℤ pos 1) (pos 0))
        (write records_layout rs (upsert_all record_key (separation_rows (current_day rs) r next parts) (rows_of records_layout rs))) ps
    unfolding accepted_on plan_of separation_plan view_of books_of plan_reply plan_tables written_by write_books booked upsert_all the_record
    separation-booked = λ i. answered (Booked (pos (length parts) +ℤ pos 1) (pos 0))
        (write records_layout rs (upsert_all record_key (separation_rows (current_day rs) (the_record (e i)) next parts) (rows_of records_layout rs)))
        (write-own positions_layout positions-lawful ps (positions-known ps positions-sound).count-sound i)
