-- What a search finds in a lent table: the keys of its rows, the row with a key, the place where a key belongs, the greatest suffix of an id; and what the lookup says
-- of a key, which is all of these.
use Rattle.std.specs.Prelude.{ℕ, ◌+◌, ◌*◌, ◌≤◌, ◌≡◌, Bool, true, cond, List, [], ◌∷◌, ℤ, pos, nat_abs, length, get_or}
use Rattle.std.proofs.Math.Option.{Option, none, some}
use Rattle.rules.specs.Keyed.{Key, below, same, rising, greatest}
use Rattle.rules.specs.Rows.{key_of}
use Rattle.rules.specs.NamedRecord.{next_suffix}
use Rattle.rules.specs.Layout.{Layout, decode, count_of}
use Rattle.rules.specs.Tables.{records_layout, positions_layout}
use Rattle.lookup.specs.Found.{Found}
use Rattle.lookup.specs.Greatest.{Greatest}
use Rattle.lookup.specs.Greatest.{Suffix, Nothing}
use Rattle.lookup.specs.Sought.{Sought}

-- A row's key is its first two cells, in every table.
abbrev pub key_at : List ℤ → ℕ → Key
key_at cells at = key_of (get_or cells at (pos 0)) (get_or cells (at + 1) (pos 0))

-- The number of the first row with this key, counted from `row` on.
unfoldable pub row_from : ℕ → Key → List Key → Option ℕ
row_from row k [] = none
row_from row k (e ∷ rest) = cond (same e k) (some row) (row_from (row + 1) k rest)

-- The row where a key belongs: how many rows stand before the first whose key is above this one, counted from `row` on.
unfoldable pub place_from : ℕ → Key → List Key → ℕ
place_from row k [] = row
place_from row k (e ∷ rest) = cond (below k e) row (place_from (row + 1) k rest)

-- The row with a key, or the row where it belongs.
unfoldable pub found_or : Option ℕ → ℕ → Found
found_or (some row) place = Found.Row row
found_or none place = Found.Absent place

abbrev pub found_among : Key → List Key → Found
found_among k keys = found_or (row_from 0 k keys) (place_from 0 k keys)

unfoldable pub greatest_found : Option ℤ → Greatest
greatest_found none = Nothing
greatest_found (some suffix) = Suffix suffix

-- The greatest suffix of an id that has one; otherwise the value is of no account.
unfoldable pub the_greatest : Option ℤ → ℤ
the_greatest none = pos 0
the_greatest (some suffix) = suffix

-- "the lookup shall also say, when absent, the row where that key belongs, and always the greatest suffix the id has, or none" (document 02, K2). A key that is there has
-- its row; the row where its id's next suffix belongs is said besides.
unfoldable pub sought_as : (row : Option ℕ) (place : ℕ) (greatest : Option ℤ) (next : ℕ) → Sought
sought_as (some row) place greatest next = Sought.Present row (the_greatest greatest) next
sought_as none place greatest next = Sought.Absent place (greatest_found greatest)

abbrev pub sought_among : Key → List Key → Sought
sought_among k keys =
    let suffixes : Option ℤ = greatest (λ e. e) k.major keys in
    sought_as (row_from 0 k keys) (place_from 0 k keys) suffixes (place_from 0 (key_of k.major (next_suffix suffixes)) keys)

-- The same, of a table with so many cells before its rows, of a width, and so many rows.
abbrev pub row_found : (header width : ℕ) → Key → (count : ℕ) → List ℤ → Found
row_found header width k count cells = found_among k (decode key_at width count header cells)

abbrev pub row_place : (header width : ℕ) → Key → (count : ℕ) → List ℤ → ℕ
row_place header width k count cells = place_from 0 k (decode key_at width count header cells)

abbrev pub row_sought : (header width : ℕ) → Key → (count : ℕ) → List ℤ → Sought
row_sought header width k count cells = sought_among k (decode key_at width count header cells)

-- The rows' keys rise.
abbrev pub keys_rise : (header width count : ℕ) → List ℤ → Bool
keys_rise header width count cells = rising (λ k. k) (decode key_at width count header cells)

-- "Room is the whole rows that fit after cell 0, at most 4,096": no sound table has more rows.
abbrev pub most_rows : ℕ
most_rows = 4096

-- What a search asks of a table: a row has its key's two cells, there are no more rows than a table may have, they lie within the cells, and their keys rise.
pub record Searchable (header width count : ℕ) (cells : List ℤ) : Type 0 where
  pub key-within : 2 ≤ width
  pub few-rows : count ≤ most_rows
  pub rows-within : header + count * width ≤ length cells
  pub keys-rise : keys_rise header width count cells ≡ true

-- Of any table, as its layout and its count say.
module _ {A : Type 0} (l : Layout A) where
  abbrev pub found_in : Key → List ℤ → Found
  found_in k cells = row_found l.header l.width k (nat_abs (count_of cells)) cells

  abbrev pub place_in : Key → List ℤ → ℕ
  place_in k cells = row_place l.header l.width k (nat_abs (count_of cells)) cells

  abbrev pub sought_in : Key → List ℤ → Sought
  sought_in k cells = row_sought l.header l.width k (nat_abs (count_of cells)) cells

-- A record, and a position.
abbrev pub record_sought : List ℤ → ℤ → ℤ → Sought
record_sought cells id suffix = sought_in records_layout (key_of id suffix) cells

abbrev pub position_found : List ℤ → ℤ → ℤ → Found
position_found cells account series = found_in positions_layout (key_of account series) cells
