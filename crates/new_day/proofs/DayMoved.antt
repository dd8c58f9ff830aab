-- A new day on sound records beside any other tables: refused 3, or cell 1 written; and the records are sound again, since a later day is one too. Assumes nothing.
use Prim.Native.Nat.{◌<◌, ◌≤◌}
use native.Mathlib.Omega.{arith}
use mathlib.Core.Path.{◌≡◌, refl, sym, ◌∙◌}
use mathlib.Core.Bool.{true, false, not, ◌&&◌}
use mathlib.Core.List.{List, [], ◌∷◌}
use lib.IntN.{ℤ, pos}
use lib.ListN.{length, set}
use lib.Signed.{lt_z}
use Rattle.rules.specs.Books.{view_of}
use Rattle.rules.specs.Day.{day_plan}
use Rattle.rules.specs.Figures.{valid_day}
use Rattle.rules.specs.Layout.{rows_of}
use Rattle.rules.specs.Plan.{plan_tests, plan_reply}
use Rattle.rules.specs.Refusal.{Test, test, first_refusal}
use Rattle.rules.specs.Reply.{refused_by}
use Rattle.rules.specs.Request.{new_day}
use Rattle.rules.specs.Tables.{all_tables, tables_of, no_processes, records_layout, current_day, sound_record_rows, sound_records, day_written, books_of}
use Rattle.rules.specs.Handle.{answer, answered, answered_by, handle, plan_of, plan_tables, refusals, soundness_tests}
use Rattle.rules.specs.declared.Reply.TheVariants.{Booked, Refused}
use Rattle.cells.specs.SoundTable.{SoundRecords}
use Rattle.cells.proofs.DayCells.{written-day, day-written-rows}
use Rattle.cells.proofs.SoundCells.{record-rows-sound, days-sound, records-sound, records-known, day-written-sound}
use Rattle.soundness.proofs.Days.{days-later}
use Rattle.new_day.specs.DayHandled.{DayHandled}

-- Cell 1 set is another day written.
pub day-set : (day : ℤ) (cells : List ℤ) → records_layout.header ≤ length cells → set cells 1 day ≡ day_written day cells
unfolding day_written
day-set day [] h = absurd (omega arith)
day-set day (c ∷ []) h = absurd (omega arith)
day-set day (c ∷ d ∷ rest) h = refl

-- Cell 1 is there in a sound table.
pub headed : (cells : List ℤ) → sound_records cells ≡ true → 1 < length cells
headed cells h = (records-known cells (record-rows-sound cells h)).header-within

module _ (rs : List ℤ) (day : ℤ) where
  abbrev day_tests : List Test
  day_tests = test 1 (not (sound_records rs)) ∷ test 3 (not (valid_day day && lt_z (current_day rs) day)) ∷ []

  handle-day : (ps qs : List ℤ)
      → handle (all_tables rs ps qs) (new_day day) ≡ answer (first_refusal day_tests) (all_tables rs ps qs) (answered_by (Booked (pos 0) (pos 0)) (all_tables (day_written day rs) ps qs))
  unfolding handle plan_of day_plan view_of books_of refusals soundness_tests plan_tests plan_reply plan_tables
  handle-day ps qs = refl

  pub unsound : sound_records rs ≡ false → answered (Refused (pos 1) (pos 0)) rs [] ≡ handle (tables_of rs []) (new_day day)
  unfolding answer first_refusal test refused_by
  unsound h = sym (handle-day [] no_processes ∙ rw h)

  module _ (sound : sound_records rs ≡ true) where
    pub out_of_range : valid_day day ≡ false → DayHandled rs day (Refused (pos 3) (pos 0)) rs
    unfolding answer first_refusal test refused_by
    out_of_range h = record { handled = λ ps qs. sym (handle-day ps qs ∙ rw (sound, h)); records-sound = sound }

    module _ (valid : valid_day day ≡ true) where
      pub not-later : lt_z (current_day rs) day ≡ false → DayHandled rs day (Refused (pos 3) (pos 0)) rs
      unfolding answer first_refusal test refused_by
      not-later h = record { handled = λ ps qs. sym (handle-day ps qs ∙ rw (sound, valid, h)); records-sound = sound }

      later-sound : lt_z (current_day rs) day ≡ true → sound_records (day_written day rs) ≡ true
      later-sound h =
          let rows : sound_record_rows rs ≡ true = record-rows-sound rs sound in
          let known : SoundRecords rs = records-known rs rows in
          records-sound (day_written day rs) (day-written-sound day rs rows)
          (rw (written-day day rs known.header-within, day-written-rows day rs known.header-within)
          (days-later (current_day rs) day (rows_of records_layout rs) valid h (days-sound rs sound)))

      pub later : lt_z (current_day rs) day ≡ true → (after : List ℤ) → after ≡ day_written day rs → DayHandled rs day (Booked (pos 0) (pos 0)) after
      unfolding answer first_refusal test
      later h after e = record {
        handled = λ ps qs. (λ i. answered_by (Booked (pos 0) (pos 0)) (all_tables (e i) ps qs)) ∙ sym (handle-day ps qs ∙ rw (sound, valid, h));
        records-sound = rw e (later-sound h);
      }
