-- The tests of a merge in the shape in which code meets them. By the definitions. Assumes nothing.
use Prim.Native.Nat.{ℕ, ◌+◌, ◌/◌}
use native.Mathlib.Omega.{arith}
use mathlib.Core.Path.{◌≡◌}
use mathlib.Core.Bool.{not}
use mathlib.Core.List.{List, [], ◌∷◌, ◌++◌, map}
use lib.Dec.{ltb}
use lib.IntN.{ℤ, pos}
use lib.ListN.{length, length-append}
use lib.Signed.{lt_z}
use Rattle.rules.specs.Figures.{most_quantity}
use Rattle.rules.specs.Keyed.{greatest, is_some}
use Rattle.rules.specs.Rows.{record_key, by_residual, moved, sound_position}
use Rattle.rules.specs.NamedRecord.{is_elsewhere}
use Rattle.rules.specs.Refusal.{test, test_each, any_of, all_of}
use Rattle.rules.specs.Request.{merge}
use Rattle.rules.specs.Books.{view_of}
use Rattle.rules.specs.Plan.{plan_tests, booking_tests, process_room_test, suffix_is_above}
use Rattle.rules.specs.Merge.{pairs_of, merge_figures, is_missing, status_of_each, closes, first_of, side_differs, sum_of_quantities, merge_inverses, merged_record, merge_residual, merge_plan}
use Rattle.rules.specs.Layout.{room_of, rows_of}
use Rattle.rules.specs.Tables.{current_day, books_of, records_layout, positions_layout}
use Rattle.rules.specs.Handle.{plan_of}
use Rattle.rules.specs.declared.Record.{Record}
use Rattle.rules.specs.declared.Position.{Position}
use Rattle.verdict.specs.Verdict.{verdict_on, absent_position}
use Rattle.verdict.proofs.Remaining.{Listed, row, row_each, status_row_each, from_test, Remaining, and-true}
use Rattle.verdict.proofs.Room.{position_read, absent-one}
use Rattle.merge_sources.specs.Sources.{sources_in, source_records}
use Rattle.merge_sources.specs.Pairs.{repeats_from}
use Rattle.merge_sources.proofs.SourceList.{source-count, sources-in-books}
use Rattle.merge_sources.proofs.Earlier.{sources-stood-earlier}
use Rattle.merge_sources.proofs.Inverses.{inverse-count, suffixes-above}

-- The position that a merge leaves.
abbrev pub merge_position : List ℤ → ℤ → ℤ → List Record → Position
merge_position ps account series rs = moved (position_read ps account series) (by_residual (merge_residual rs))

module _ (rs ps : List ℤ) (id account series : ℤ) (pairs : List ℤ) where
  abbrev the_records : List Record
  the_records = source_records rs pairs

  abbrev merge_tests : List Listed
  merge_tests =
      row 3 (not (merge_figures id account series pairs))
      ∷ row 4 (is_some (greatest record_key id (rows_of records_layout rs)))
      ∷ row_each 5 (map is_missing (sources_in rs pairs))
      ∷ row_each 6 (map (is_elsewhere account series) the_records)
      ∷ status_row_each the_records
      ∷ row_each 8 (map closes the_records)
      ∷ row_each 9 (repeats_from [] (pairs_of pairs))
      ∷ row_each 10 (map (side_differs (first_of the_records)) the_records)
      ∷ row 11 (lt_z (pos most_quantity) (sum_of_quantities the_records))
      ∷ row 13 (any_of (map suffix_is_above (merge_inverses (pos 0) (pos 0) [] (sources_in rs pairs))))
      ∷ row 14 (ltb (room_of records_layout rs) (length (rows_of records_layout rs) + (length pairs / 2 + 1)))
      ∷ row 15 (ltb (room_of positions_layout ps) (length (rows_of positions_layout ps) + absent_position ps account series))
      ∷ row 16 (not (sound_position (merge_position ps account series the_records)))
      ∷ []

  -- The verdict is that of the tests from number n on.
  abbrev pub MergeFrom : ℕ → Type 0
  MergeFrom n = Remaining (verdict_on rs ps (merge id account series pairs)) (from_test n merge_tests)

  added-count : length (merge_inverses (current_day rs) id [] (sources_in rs pairs) ++ (merged_record (current_day rs) id the_records ∷ [])) ≡ length pairs / 2 + 1
  added-count =
      omega
      (arith, length-append (merge_inverses (current_day rs) id [] (sources_in rs pairs)) (merged_record (current_day rs) id the_records ∷ []), inverse-count (current_day rs) id [] (sources_in rs pairs), source-count rs pairs)

  pub merge-tests : MergeFrom 3
  unfolding verdict_on plan_of merge_plan view_of books_of plan_tests booking_tests process_room_test status_of_each all_of test test_each
  merge-tests = record { is = rw (← sources-in-books rs pairs ps, sources-stood-earlier, suffixes-above (current_day rs) id the_records (sources_in rs pairs), added-count, absent-one, and-true) }
