-- The tests of an opening's record and room, one after the other; where all have passed, the record may take status 3, and the process table has room for a row more. By the definitions. Assumes
-- nothing.
use Prim.Native.Nat.{◌+◌, ◌<◌, ◌≤◌}
use native.Mathlib.Omega.{arith}
use mathlib.Core.Path.{◌≡◌, refl, ap}
use mathlib.Core.Bool.{true, false, not}
use mathlib.Core.List.{List, [], ◌∷◌}
use mathlib.Core.Option.{some}
use lib.Dec.{ltb}
use lib.IntN.{ℤ}
use lib.ListN.{length}
use borrow.Author.Tests.{ltb-false}
use Rattle.integers.specs.Order.{eq_z}
use Rattle.rules.specs.Figures.{adjustable, is_to_close, under_give_up}
use Rattle.rules.specs.Keyed.{find}
use Rattle.rules.specs.Rows.{key_of, record_key, with_status, sound_record}
use Rattle.rules.specs.NamedRecord.{is_elsewhere, is_not_adjustable, status_test}
use Rattle.rules.specs.Refusal.{Test, test}
use Rattle.rules.specs.Layout.{room_of, rows_of}
use Rattle.rules.specs.Tables.{records_layout, processes_layout, sound_record_rows}
use Rattle.rules.specs.declared.Record.{Record}
use Rattle.soundness.proofs.SoundRows.{adjustable-open, under-give-up-sound}
use Rattle.verdict.specs.Verdict.{Accepted}
use Rattle.verdict.proofs.Remaining.{verdict_by, Remaining, ◌past◌, passes}
use Rattle.verdict.proofs.SoundReads.{found-record, status-adjustable}
use Rattle.give_up_steps.specs.StepTests.{opening_tests}

module _ (qs : List ℤ) (r : Record) (giving series : ℤ) where
  -- The verdict is that of these tests.
  abbrev pub Judged : List Test → Type 0
  Judged tests = Remaining (verdict_by (opening_tests qs r giving series)) tests

  abbrev pub room_test : Test
  room_test = test 23 (ltb (room_of processes_layout qs) (length (rows_of processes_layout qs) + 1))

  pub at-6 : Judged (opening_tests qs r giving series)
  at-6 = record { is = refl }

  pub at_7 : is_elsewhere giving series r ≡ false → Judged (status_test r ∷ test 8 (is_to_close r.side) ∷ room_test ∷ [])
  unfolding test
  at_7 here = at-6 past here

  pub at_8 : is_elsewhere giving series r ≡ false → eq_z r.status adjustable ≡ true → Judged (test 8 (is_to_close r.side) ∷ room_test ∷ [])
  unfolding test status_test is_not_adjustable
  at_8 here zero-status = at_7 here past ap not zero-status

  pub at-23 : is_elsewhere giving series r ≡ false → eq_z r.status adjustable ≡ true → is_to_close r.side ≡ false → Judged (room_test ∷ [])
  unfolding test
  at-23 here zero-status to-open = at_8 here zero-status past to-open

  module _ (accepted : verdict_by (opening_tests qs r giving series) ≡ Accepted) where
    past-6 : Judged (status_test r ∷ test 8 (is_to_close r.side) ∷ room_test ∷ [])
    past-6 = at-6 past passes at-6 accepted

    past-7 : Judged (test 8 (is_to_close r.side) ∷ room_test ∷ [])
    past-7 = past-6 past passes past-6 accepted

    past-8 : Judged (room_test ∷ [])
    past-8 = past-7 past passes past-7 accepted

    -- Test 7 has passed.
    pub accepted-restated : (rs : List ℤ) → sound_record_rows rs ≡ true → (id suffix : ℤ) → find record_key (key_of id suffix) (rows_of records_layout rs) ≡ some r
        → sound_record (with_status under_give_up r) ≡ true
    unfolding test status_test
    accepted-restated rs sound id suffix named =
        under-give-up-sound r (found-record rs sound id suffix r named).sound (adjustable-open r.status (status-adjustable r (passes past-6 accepted)))

    -- And test 23.
    pub accepted-room : length (rows_of processes_layout qs) < room_of processes_layout qs
    unfolding test
    accepted-room =
        let fits : length (rows_of processes_layout qs) + 1 ≤ room_of processes_layout qs =
        ltb-false (room_of processes_layout qs) (length (rows_of processes_layout qs) + 1) (passes past-8 accepted) in
        omega arith
