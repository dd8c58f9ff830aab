-- Books that can be written into the tables: each table has its header, the books' rooms and day are the tables', and the rows are within the rooms.
use Rattle.std.specs.Prelude.{◌≤◌, ◌≡◌, length}
use Rattle.rules.specs.Books.{Books}
use Rattle.rules.specs.Tables.{Tables, records_layout, positions_layout, processes_layout, books_of}

-- Books with the rooms of others.
pub record SameRooms (b c : Books) : Type 0 where
  pub records : b.records_room ≡ c.records_room
  pub positions : b.positions_room ≡ c.positions_room
  pub processes : b.processes_room ≡ c.processes_room

-- The rows of books are within their rooms.
pub record WithinRooms (b : Books) : Type 0 where
  pub records : length b.records ≤ b.records_room
  pub positions : length b.positions ≤ b.positions_room
  pub processes : length b.processes ≤ b.processes_room

-- Each table has its header.
pub record Headers (t : Tables) : Type 0 where
  pub records : records_layout.header ≤ length t.records
  pub positions : positions_layout.header ≤ length t.positions
  pub processes : processes_layout.header ≤ length t.processes

pub record Fitting (t : Tables) (b : Books) : Type 0 where
  pub headers : Headers t
  pub rooms : SameRooms b (books_of t)
  pub within : WithinRooms b
  pub day : b.day ≡ (books_of t).day
