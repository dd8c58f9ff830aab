-- How rows lie in a lent table, for any row: document 01, "The two tables". No rule of booking stands here.
use Rattle.std.specs.Prelude.{ℕ, zero, suc, ◌+◌, ◌-◌, ◌*◌, ◌/◌, min, Bool, ◌&&◌, List, [], ◌∷◌, ◌++◌, leb, ℤ, pos, nat_abs, length, get_or, take, drop}
use Rattle.integers.specs.Order.{in_range}

-- Cells before the first row, cells a row, the greatest room, a row read at a cell, and a row's cells.
pub record Layout (Row : Type 0) : Type 0 where
  pub header : ℕ
  pub width : ℕ
  pub most : ℕ
  pub get : List ℤ → ℕ → Row
  pub put : Row → List ℤ

-- "cell 0 is the row count"
abbrev pub count_of : List ℤ → ℤ
count_of cells = get_or cells 0 (pos 0)

-- The cells of a header after the count.
abbrev pub after_count : ℕ → List ℤ → List ℤ
after_count header cells = take (header - 1) (drop 1 cells)

-- "Room is the whole rows that fit after cell 0, at most" the greatest: of so many cells.
unfoldable pub room_for : (header width most cells : ℕ) → ℕ
room_for header width most cells = min most ((cells - header) / width)

module _ {Row : Type 0} where
  -- So many rows, the first at this cell.
  abbrev pub decode : (List ℤ → ℕ → Row) → ℕ → ℕ → ℕ → List ℤ → List Row
  decode get width zero at cells = []
  decode get width (suc n) at cells = get cells at ∷ decode get width n (at + width) cells

  unfoldable pub encode : (Row → List ℤ) → List Row → List ℤ
  encode put [] = []
  encode put (r ∷ rest) = put r ++ encode put rest

  -- The cell where a row begins, rows counted from 0, and the row that lies there.
  abbrev pub start_of : Layout Row → ℕ → ℕ
  start_of l row = l.header + row * l.width

  abbrev pub row_at : Layout Row → List ℤ → ℕ → Row
  row_at l cells row = l.get cells (start_of l row)

  unfoldable pub room_of : Layout Row → List ℤ → ℕ
  room_of l cells = room_for l.header l.width l.most (length cells)

  -- The rows that the count names.
  unfoldable pub rows_of : Layout Row → List ℤ → List Row
  rows_of l cells = decode l.get l.width (nat_abs (count_of cells)) l.header cells

  -- "the slice has a cell 0, the count lies between 0 and the room"
  unfoldable pub count_is_sound : Layout Row → List ℤ → Bool
  count_is_sound l cells = leb l.header (length cells) && in_range (pos 0) (pos (room_of l cells)) (count_of cells)

  -- The table with these rows: the count, the rows' cells, and all other cells as they were, those of the header and those past the last row.
  unfoldable pub write : Layout Row → List ℤ → List Row → List ℤ
  write l cells rows = pos (length rows) ∷ (after_count l.header cells ++ (encode l.put rows ++ drop (start_of l (length rows)) cells))
