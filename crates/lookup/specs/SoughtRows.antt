-- What the lookup's two answers say of a table's rows (document 02, K2), in the rules' words: over any layout.
use Rattle.std.specs.Prelude.{ℕ, ◌<◌, ◌≡◌, List, ℤ, pos, ◌+ℤ◌, length}
use Rattle.std.proofs.Math.Option.{none, some}
use Rattle.rules.specs.Keyed.{Key, find, greatest}
use Rattle.rules.specs.Rows.{key_of}
use Rattle.rules.specs.Layout.{Layout, row_at, rows_of}
use Rattle.lookup.specs.Lookup.{greatest_found, found_in, place_in}
use Rattle.lookup.specs.Found as Found
use Rattle.lookup.specs.Greatest.{Greatest}

module _ {A : Type 0} (l : Layout A) (key : A → Key) (cells : List ℤ) (k : Key) where
  -- A key that is there: its row, the greatest suffix of its id, and the row where the id's next suffix belongs.
  pub record PresentAt (row : ℕ) (g : ℤ) (next : ℕ) : Type 0 where
    pub row_within : row < length (rows_of l cells)
    pub found : find key k (rows_of l cells) ≡ some (row_at l cells row)
    pub key-is : key (row_at l cells row) ≡ k
    pub found-is : found_in l k cells ≡ Found.Row row
    pub greatest-is : greatest key k.major (rows_of l cells) ≡ some g
    pub next-is : next ≡ place_in l (key_of k.major (g +ℤ pos 1)) cells

  -- A key that is not: the row where it belongs, and the greatest suffix of its id or that it has none.
  pub record AbsentAt (place : ℕ) (g : Greatest) : Type 0 where
    pub absent : find key k (rows_of l cells) ≡ none
    pub place_is : place ≡ place_in l k cells
    pub greatest-is : greatest_found (greatest key k.major (rows_of l cells)) ≡ g
