-- Sound books: what tests 1, 2 and 19 say of the tables, as rows. And requests on them, before any cell is thought of.
use Rattle.std.specs.Prelude.{◌≤◌, ◌≡◌, true, map, length}
use Rattle.std.proofs.Math.Option.{none}
use Rattle.rules.specs.Keyed.{rising}
use Rattle.rules.specs.Rows.{record_key, position_key, sound_record, sound_position}
use Rattle.rules.specs.ProcessRows.{process_number, sound_process}
use Rattle.rules.specs.Refusal.{all_of, first_refusal}
use Rattle.rules.specs.Request.{Request}
use Rattle.rules.specs.Books.{Books, view_of}
use Rattle.rules.specs.Plan.{Plan, plan_tests, plan_books}
use Rattle.rules.specs.Tables.{sound_days}
use Rattle.rules.specs.Handle.{plan_of}

pub record SoundBooks (b : Books) : Type 0 where
  pub records-rise : rising record_key b.records ≡ true
  pub records-sound : all_of (map sound_record b.records) ≡ true
  pub records-fit : length b.records ≤ b.records_room
  pub days-sound : sound_days b.day b.records ≡ true
  pub positions-rise : rising position_key b.positions ≡ true
  pub positions-sound : all_of (map sound_position b.positions) ≡ true
  pub positions-fit : length b.positions ≤ b.positions_room
  pub processes-rise : rising process_number b.processes ≡ true
  pub processes-sound : all_of (map sound_process b.processes) ≡ true
  pub processes-fit : length b.processes ≤ b.processes_room

-- The plan of a request on these books.
abbrev pub plan_on : Books → Request → Plan
plan_on b r = plan_of (view_of b) r

-- No refusal from 3 on applies.
abbrev pub Accepts : Books → Request → Type 0
Accepts b r = first_refusal (plan_tests b (plan_on b r)) ≡ none

-- The books after an accepted request.
abbrev pub after : Books → Request → Books
after b r = plan_books (plan_on b r) b
