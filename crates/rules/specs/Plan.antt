-- What a request asks of the books and would change in them, and the refusals that come from the change itself.
use Rattle.std.specs.Prelude.{◌+◌, Bool, not, List, [], ◌∷◌, ◌++◌, map, ltb, ℤ, pos, length}
use Rattle.std.proofs.Math.Option.{Option, none, some}
use Rattle.std.specs.Int.Signed.{lt_z}
use Rattle.rules.specs.Figures.{greatest_of_suffixes}
use Rattle.rules.specs.Keyed.{upsert, upsert_all, absent_from}
use Rattle.rules.specs.Rows.{record_key, position_key, sound_position}
use Rattle.rules.specs.ProcessRows.{process_key}
use Rattle.rules.specs.Refusal.{Test, test, any_of, all_of}
use Rattle.rules.specs.Books.{Books, with_day}
use Rattle.rules.specs.declared.Record.{Record}
use Rattle.rules.specs.declared.Position.{Position}
use Rattle.rules.specs.declared.ProcessRow.{ProcessRow}
use Rattle.rules.specs.declared.Reply.{Reply}
use Rattle.rules.specs.declared.Reply.TheVariants.{Booked}

-- What an accepted request does: named records in their new status, new rows, the position rows that it needs as they will stand, the process row of a step of a give-up,
-- and its answer.
pub record Effects : Type 0 where
  pub changed : List Record
  pub added : List Record
  pub positions : List Position
  pub process : Option ProcessRow
  pub reply : Reply

-- The same effects with the row of a process.
abbrev pub with_process_row : ProcessRow → Effects → Effects
with_process_row p e = record { changed = e.changed; added = e.added; positions = e.positions; process = some p; reply = e.reply }

-- A request that books has its own tests (3 to 12, and 18) and its effects; a question has its own tests and its answer; a request for a new day (document 02, K8) has its own tests and
-- that day.
pub data Plan : Type 0 where
  booking : List Test → Effects → Plan
  question : List Test → Reply → Plan
  day_move : List Test → (day : ℤ) → Plan

unfoldable pub suffix_is_above : Record → Bool
suffix_is_above r = lt_z greatest_of_suffixes r.suffix

-- 23: the process table has room for the row of a step of a give-up; "its own room last". No other request has this test.
unfoldable pub process_room_test : Books → Option ProcessRow → List Test
process_room_test b none = []
process_room_test b (some p) = test 23 (ltb b.processes_room (length b.processes + absent_from process_key b.processes (p ∷ []))) ∷ []

-- 13: "an id would need a suffix above 65,535"
-- 14: "row count plus the request's new rows exceeds the records room"
-- 15: "row count plus the needed absent rows exceeds the positions room"
-- 16: "long, short or cash would leave its range"; document 02, K7, of the totals: "tested after the whole request"; "beyond is 16"
unfoldable pub booking_tests : Books → Effects → List Test
booking_tests b e =
    test 13 (any_of (map suffix_is_above e.added))
    ∷ test 14 (ltb b.records_room (length b.records + length e.added))
    ∷ test 15 (ltb b.positions_room (length b.positions + absent_from position_key b.positions e.positions))
    ∷ test 16 (not (all_of (map sound_position e.positions)))
    ∷ process_room_test b e.process

-- The refusals from 3 on, in the order of document 01's table.
unfoldable pub plan_tests : Books → Plan → List Test
plan_tests b (booking tests effects) = tests ++ booking_tests b effects
plan_tests b (question tests reply) = tests
plan_tests b (day_move tests day) = tests

-- The process row of a step replaces the one with its key, or goes where its key belongs; other requests have none.
unfoldable pub put_process : Option ProcessRow → List ProcessRow → List ProcessRow
put_process none rows = rows
put_process (some p) rows = upsert process_key p rows

-- The books after the effects: each row replaces the one with its key, or goes where its key belongs.
unfoldable pub booked : Effects → Books → Books
booked e b = record {
  records = upsert_all record_key (e.changed ++ e.added) b.records;
  positions = upsert_all position_key e.positions b.positions;
  processes = put_process e.process b.processes;
  records_room = b.records_room;
  positions_room = b.positions_room;
  processes_room = b.processes_room;
  day = b.day;
}

-- The books and the answer where no refusal applies. A question never writes; a new day leaves every row.
unfoldable pub plan_books : Plan → Books → Books
plan_books (booking tests effects) b = booked effects b
plan_books (question tests reply) b = b
plan_books (day_move tests day) b = with_day day b

unfoldable pub plan_reply : Plan → Reply
plan_reply (booking tests effects) = effects.reply
plan_reply (question tests reply) = reply
plan_reply (day_move tests day) = Booked (pos 0) (pos 0)
