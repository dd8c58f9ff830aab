-- What sound books and acceptance say of the rows that a plan puts. From these facts alone follow the growth of the tables and that they stay sound;
-- a new kind of request brings such a record. Assumes nothing.
use mathlib.Core.Path.{◌≡◌}
use mathlib.Core.Bool.{true}
use mathlib.Core.List.{List, map}
use lib.IntN.{pos}
use lib.ListN.{length}
use lib.Signed.{lt_z}
use mathlib.Core.Option.{Option, none, some}
use Rattle.rules.specs.Keyed.{rising, upsert}
use Rattle.rules.specs.Rows.{record_key, position_key, sound_record}
use Rattle.rules.specs.ProcessRows.{process_key, process_number, sound_process}
use Rattle.rules.specs.Refusal.{all_of}
use Rattle.rules.specs.Books.{Books}
use Rattle.rules.specs.Plan.{Effects, Plan, booking, question, day_move}
use Rattle.rules.specs.Tables.{day_within}
use Rattle.rules.specs.Figures.{valid_day}
use Rattle.rules.specs.declared.ProcessRow.{ProcessRow}
use Rattle.keys.proofs.Counts.{distinct, has_all, lacks_all}
use Rattle.soundness.specs.RowsAnswered.{rows_answered}

-- The process row of a step is sound, and the rows with it rise by their process ids.
abbrev pub ProcessFacts : List ProcessRow → Option ProcessRow → Type 0
ProcessFacts rows none = Unit {0}
ProcessFacts rows (some p) = (sound_process p ≡ true) × (rising process_number (upsert process_key p rows) ≡ true)

pub record BookingFacts (b : Books) (e : Effects) : Type 0 where
  pub changed-present : has_all record_key b.records e.changed ≡ true
  pub changed-sound : all_of (map sound_record e.changed) ≡ true
  pub changed-days : all_of (map (day_within b.day) e.changed) ≡ true
  pub added-absent : lacks_all record_key b.records e.added ≡ true
  pub added-distinct : distinct record_key e.added ≡ true
  pub added-sound : all_of (map sound_record e.added) ≡ true
  pub added-days : all_of (map (day_within b.day) e.added) ≡ true
  pub positions-distinct : distinct position_key e.positions ≡ true
  pub process-kept : ProcessFacts b.processes e.process
  pub answered : rows_answered e.reply ≡ pos (length e.added)

-- Of a plan: the facts where it books; a question answers no rows; a new day is valid and later than the current one.
abbrev pub PlanFacts : Books → Plan → Type 0
PlanFacts b (booking tests e) = BookingFacts b e
PlanFacts b (question tests reply) = rows_answered reply ≡ pos 0
PlanFacts b (day_move tests day) = (valid_day day ≡ true) × (lt_z b.day day ≡ true)
