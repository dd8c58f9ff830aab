-- The books as rows, and what a request sees of them.
use Rattle.std.specs.Prelude.{ℕ, List, ℤ}
use Rattle.std.proofs.Math.Option.{Option}
use Rattle.rules.specs.Keyed.{find, greatest}
use Rattle.rules.specs.Rows.{key_of, record_key, position_key, or_zeros}
use Rattle.rules.specs.ProcessRows.{process_key}
use Rattle.rules.specs.declared.Record.{Record}
use Rattle.rules.specs.declared.Position.{Position}
use Rattle.rules.specs.declared.ProcessRow.{ProcessRow}

-- The rows of the three tables, how many rows each has room for, and the current day (document 02, K8).
pub record Books : Type 0 where
  pub records : List Record
  pub positions : List Position
  pub processes : List ProcessRow
  pub records_room : ℕ
  pub positions_room : ℕ
  pub processes_room : ℕ
  pub day : ℤ

-- The only ways in which a request looks at the books: the record of an id and suffix, the greatest suffix of an id, the position of an account and series; and a step
-- of a give-up also at the process of a process id and transaction id, and at the transaction id that a process id is used for. New rows take the current day.
pub record View : Type 0 where
  pub record_at : ℤ → ℤ → Option Record
  pub greatest_suffix : ℤ → Option ℤ
  pub position_at : ℤ → ℤ → Position
  pub process_at : ℤ → ℤ → Option ProcessRow
  pub transaction_of : ℤ → Option ℤ
  pub day : ℤ

unfoldable pub view_of : Books → View
view_of b = record {
  record_at = λ id suffix. find record_key (key_of id suffix) b.records;
  greatest_suffix = λ id. greatest record_key id b.records;
  position_at = λ account series. or_zeros account series (find position_key (key_of account series) b.positions);
  process_at = λ process id. find process_key (key_of process id) b.processes;
  transaction_of = λ process. greatest process_key process b.processes;
  day = b.day;
}

-- Books of another day, and nothing else changed.
abbrev pub with_day : ℤ → Books → Books
with_day day b = record {
  records = b.records;
  positions = b.positions;
  processes = b.processes;
  records_room = b.records_room;
  positions_room = b.positions_room;
  processes_room = b.processes_room;
  day = day;
}
