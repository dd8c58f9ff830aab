-- The lent tables as cells: their layouts, when they are sound, and their rows.
use Rattle.std.specs.Prelude.{ℕ, ◌+◌, Bool, ◌&&◌, List, [], ◌∷◌, ◌++◌, map, ℤ, pos, get_or, take, drop}
use Rattle.integers.specs.Order.{in_range}
use Rattle.rules.specs.Figures.{last_day}
use Rattle.rules.specs.Keyed.{Key, rising}
use Rattle.rules.specs.Rows.{record_key, position_key, sound_record, sound_position}
use Rattle.rules.specs.ProcessRows.{process_number, sound_process}
use Rattle.rules.specs.Refusal.{all_of}
use Rattle.rules.specs.Books.{Books}
use Rattle.rules.specs.Layout.{Layout, room_of, rows_of, count_is_sound, write}
use Rattle.rules.specs.declared.Record.{Record}
use Rattle.rules.specs.declared.Position.{Position}
use Rattle.rules.specs.declared.ProcessRow.{ProcessRow}

-- "each row has 13 cells: id, suffix, parent, type, status, account, series, side code, quantity, price, long booked, short booked, into"; document 02, K8: "Records gain a last cell, the day of
-- booking"
abbrev pub record_at : List ℤ → ℕ → Record
record_at cells at = record {
  id = get_or cells at (pos 0);
  suffix = get_or cells (at + 1) (pos 0);
  parent = get_or cells (at + 2) (pos 0);
  kind = get_or cells (at + 3) (pos 0);
  status = get_or cells (at + 4) (pos 0);
  account = get_or cells (at + 5) (pos 0);
  series = get_or cells (at + 6) (pos 0);
  side = get_or cells (at + 7) (pos 0);
  quantity = get_or cells (at + 8) (pos 0);
  price = get_or cells (at + 9) (pos 0);
  long = get_or cells (at + 10) (pos 0);
  short = get_or cells (at + 11) (pos 0);
  into = get_or cells (at + 12) (pos 0);
  day = get_or cells (at + 13) (pos 0);
}

unfoldable pub record_cells : Record → List ℤ
record_cells r =
    r.id ∷ r.suffix ∷ r.parent ∷ r.kind ∷ r.status ∷ r.account ∷ r.series
    ∷ r.side ∷ r.quantity ∷ r.price ∷ r.long ∷ r.short ∷ r.into ∷ r.day ∷ []

-- The cell of a row that has the status.
abbrev pub status_cell : ℕ
status_cell = 4

-- "each row has 5 cells: account, series, long, short, cash"; document 02, K7: "Give each position row two cells more: the signed quantity and signed quantity times price"
abbrev pub position_at : List ℤ → ℕ → Position
position_at cells at = record {
  account = get_or cells at (pos 0);
  series = get_or cells (at + 1) (pos 0);
  long = get_or cells (at + 2) (pos 0);
  short = get_or cells (at + 3) (pos 0);
  cash = get_or cells (at + 4) (pos 0);
  quantity = get_or cells (at + 5) (pos 0);
  value = get_or cells (at + 6) (pos 0);
}

unfoldable pub position_cells : Position → List ℤ
position_cells p = p.account ∷ p.series ∷ p.long ∷ p.short ∷ p.cash ∷ p.quantity ∷ p.value ∷ []

-- Document 02, K3: "A row's nine cells: process id, id, suffix, giving and taking account, series, the two clearing approvals, and a stage"; "the giver's approval is the seventh cell"
abbrev pub process_at : List ℤ → ℕ → ProcessRow
process_at cells at = record {
  process = get_or cells at (pos 0);
  id = get_or cells (at + 1) (pos 0);
  suffix = get_or cells (at + 2) (pos 0);
  giving = get_or cells (at + 3) (pos 0);
  taking = get_or cells (at + 4) (pos 0);
  series = get_or cells (at + 5) (pos 0);
  giver = get_or cells (at + 6) (pos 0);
  taker = get_or cells (at + 7) (pos 0);
  stage = get_or cells (at + 8) (pos 0);
}

unfoldable pub process_cells : ProcessRow → List ℤ
process_cells p =
    p.process ∷ p.id ∷ p.suffix ∷ p.giving ∷ p.taking ∷ p.series ∷ p.giver ∷ p.taker ∷ p.stage ∷ []

-- "Room ... at most 4,096"; for positions "Room likewise, at most 1,024". Document 02, K8: "the records table's header gains the current day as cell 1, the rows following it"
abbrev pub records_layout : Layout Record
records_layout = record { header = 2; width = 14; most = 4096; get = record_at; put = record_cells }

abbrev pub positions_layout : Layout Position
positions_layout = record { header = 1; width = 7; most = 1024; get = position_at; put = position_cells }

-- "cell 0 the count, room at most 1,024"
abbrev pub processes_layout : Layout ProcessRow
processes_layout = record { header = 1; width = 9; most = 1024; get = process_at; put = process_cells }

-- "the slice has a cell 0, the count lies between 0 and the room, rows strictly rise", each row sound
unfoldable pub sound_table : {Row : Type 0} → Layout Row → (Row → Key) → (Row → Bool) → List ℤ → Bool
sound_table l key sound_row cells =
    count_is_sound l cells && rising key (rows_of l cells) && all_of (map sound_row (rows_of l cells))

-- Document 01's sentence, of the records: "rows strictly rise by id and then suffix, all figures are in range"
unfoldable pub sound_record_rows : List ℤ → Bool
sound_record_rows cells = sound_table records_layout record_key sound_record cells

-- "the current day as cell 1"
abbrev pub current_day : List ℤ → ℤ
current_day cells = get_or cells 1 (pos 0)

-- Document 02, K8: "sound tables have a header day from 0 to 99,999 and row days from 0 to it"
unfoldable pub day_within : (today : ℤ) → Record → Bool
day_within today r = in_range (pos 0) today r.day

unfoldable pub sound_days : (today : ℤ) → List Record → Bool
sound_days today rows = in_range (pos 0) (pos last_day) today && all_of (map (day_within today) rows)

unfoldable pub sound_records : List ℤ → Bool
sound_records cells = sound_record_rows cells && sound_days (current_day cells) (rows_of records_layout cells)

unfoldable pub sound_positions : List ℤ → Bool
sound_positions cells = sound_table positions_layout position_key sound_position cells

-- "process ids ... strictly rising, figures in range, approvals 0 or 1, a stage below"
unfoldable pub sound_processes : List ℤ → Bool
sound_processes cells = sound_table processes_layout process_number sound_process cells

-- The lent tables.
pub record Tables : Type 0 where
  pub records : List ℤ
  pub positions : List ℤ
  pub processes : List ℤ

abbrev pub all_tables : (records positions processes : List ℤ) → Tables
all_tables records positions processes = record { records = records; positions = positions; processes = processes }

-- A process table without rows. It stands for the table where none is lent: requests other than the steps of a give-up neither read nor change it.
abbrev pub no_processes : List ℤ
no_processes = pos 0 ∷ []

-- The two tables that such a request is lent. Its call promises the answer beside a process table without rows; that this is the answer beside any is `apart-promised` (history/proofs/ProcessesApart), of a batch
-- `batch-promised` (BatchApart).
abbrev pub tables_of : (records positions : List ℤ) → Tables
tables_of records positions = all_tables records positions no_processes

-- Tables with another process table.
abbrev pub with_processes : List ℤ → Tables → Tables
with_processes processes t = all_tables t.records t.positions processes

-- Tables with another current day: cell 1 of the records, and no other cell changed.
unfoldable pub day_written : ℤ → List ℤ → List ℤ
day_written day cells = take 1 cells ++ (day ∷ drop 2 cells)

abbrev pub with_current_day : ℤ → Tables → Tables
with_current_day day t = all_tables (day_written day t.records) t.positions t.processes

-- Their rows and rooms, and the current day.
unfoldable pub books_of : Tables → Books
books_of t = record {
  records = rows_of records_layout t.records;
  positions = rows_of positions_layout t.positions;
  processes = rows_of processes_layout t.processes;
  records_room = room_of records_layout t.records;
  positions_room = room_of positions_layout t.positions;
  processes_room = room_of processes_layout t.processes;
  day = current_day t.records;
}

-- The rows written; the day is written by a new day alone (`with_current_day`).
unfoldable pub write_books : Tables → Books → Tables
write_books t b = record {
  records = write records_layout t.records b.records;
  positions = write positions_layout t.positions b.positions;
  processes = write processes_layout t.processes b.processes;
}
