-- What a layout must satisfy for the laws of tables to hold of it.
use Rattle.std.specs.Prelude.{ℕ, ◌+◌, ◌<◌, ◌≤◌, ◌≡◌, List, ◌++◌, ℤ, length, take, drop}
use Rattle.rules.specs.Layout.{Layout}

pub record Lawful {Row : Type 0} (l : Layout Row) : Type 0 where
  -- A row has at least one cell.
  pub wide : 0 < l.width
  -- The header has a cell for the count.
  pub counted : 1 ≤ l.header
  -- A row's cells are as many as the width says.
  pub put-length : (r : Row) → length (l.put r) ≡ l.width
  -- The cells of the row that is read are the cells that it was read from.
  pub put-get : (xs : List ℤ) (at : ℕ) → at + l.width ≤ length xs → l.put (l.get xs at) ≡ take l.width (drop at xs)
  -- A row that was put is read again.
  pub get-put : (p q : List ℤ) (r : Row) → l.get (p ++ (l.put r ++ q)) (length p) ≡ r
