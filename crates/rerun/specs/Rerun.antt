-- Document 02, K5: "Replay into empty tables of the same room gives the rows that a day begun on empty tables ended with."
use Rattle.std.specs.Prelude.{ℕ, ◌≡◌, List, pos}
use Rattle.rules.specs.Layout.{rows_of}
use Rattle.rules.specs.Tables.{Tables, records_layout, positions_layout, processes_layout, current_day}
use Rattle.rules.specs.Handle.{Answer}
use Rattle.rules.specs.declared.Reply.TheVariants.{Replayed}
use Rattle.lines.specs.LineNumbers.{newlines}
use Rattle.history.specs.EmptyTables.{SameRoom}

-- What the replay of this journal answered and left, beside the tables that the day ended with: every line is booked, and the rows of all three tables, the current day and the rooms are the same.
pub record Rerun (journal : List ℕ) (replayed : Answer) (ended : Tables) : Type 0 where
  pub every-line : replayed.reply ≡ Replayed (pos (newlines journal))
  pub records : rows_of records_layout replayed.tables.records ≡ rows_of records_layout ended.records
  pub positions : rows_of positions_layout replayed.tables.positions ≡ rows_of positions_layout ended.positions
  pub processes : rows_of processes_layout replayed.tables.processes ≡ rows_of processes_layout ended.processes
  pub day : current_day replayed.tables.records ≡ current_day ended.records
  pub rooms : SameRoom replayed.tables ended
