-- Tables without rows, and two sets of tables with the same room.
use Rattle.std.specs.Prelude.{◌≤◌, ◌≡◌, List, ℤ, pos, length}
use Rattle.rules.specs.Layout.{Layout, count_of, room_of}
use Rattle.rules.specs.Tables.{Tables, records_layout, positions_layout, processes_layout, current_day}

-- "empty tables": each has its header, and no row; document 02, K8: "Empty tables start at day 0".
pub record EmptyTable {Row : Type 0} (l : Layout Row) (cells : List ℤ) : Type 0 where
  pub header-within : l.header ≤ length cells
  pub no_row : count_of cells ≡ pos 0

pub record EmptyTables (t : Tables) : Type 0 where
  pub records : EmptyTable records_layout t.records
  pub positions : EmptyTable positions_layout t.positions
  pub processes : EmptyTable processes_layout t.processes
  pub day : current_day t.records ≡ pos 0

-- "of the same room"
pub record SameRoom (t u : Tables) : Type 0 where
  pub records : room_of records_layout t.records ≡ room_of records_layout u.records
  pub positions : room_of positions_layout t.positions ≡ room_of positions_layout u.positions
  pub processes : room_of processes_layout t.processes ≡ room_of processes_layout u.processes
