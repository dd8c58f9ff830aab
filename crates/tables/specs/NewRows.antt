-- The rows that come out of a record together: its inverse, then one row a quantity with the suffixes that follow; and what is asked before they are inserted.
use Rattle.std.specs.Prelude.{ℕ, suc, ◌+◌, ◌≤◌, ◌≡◌, true, List, [], ◌∷◌, ℤ, pos, ◌+ℤ◌, length, ◌≤ℤ◌}
use Rattle.rules.specs.Figures.{greatest_of_suffixes}
use Rattle.rules.specs.Keyed.{greatest}
use Rattle.rules.specs.Rows.{key_of, record_key}
use Rattle.rules.specs.NamedRecord.{next_suffix}
use Rattle.rules.specs.Layout.{room_of, rows_of}
use Rattle.rules.specs.Tables.{records_layout, sound_record_rows}
use Rattle.rules.specs.declared.Record.{Record}
use Rattle.lookup.specs.Lookup.{place_in}

-- A record with another suffix and another quantity, and nothing else changed.
abbrev pub numbered_as : Record → ℤ → ℤ → Record
numbered_as r suffix quantity = record {
  id = r.id;
  suffix = suffix;
  parent = r.parent;
  kind = r.kind;
  status = r.status;
  account = r.account;
  series = r.series;
  side = r.side;
  quantity = quantity;
  price = r.price;
  long = r.long;
  short = r.short;
  into = r.into;
  day = r.day;
}

-- One row a quantity, with successive suffixes from this one on, all else as in the first.
unfoldable pub rows_like : Record → ℤ → List ℤ → List Record
rows_like first suffix [] = []
rows_like first suffix (q ∷ rest) = numbered_as first suffix q ∷ rows_like first (suffix +ℤ pos 1) rest

abbrev pub new_rows : Record → Record → List ℤ → List Record
new_rows inverse first quantities = inverse ∷ rows_like first first.suffix quantities

-- The inverse has the id's next suffix and goes to the place where that belongs; the first of the other rows follows it; there are rooms and suffixes for all.
pub record NewRowsReady (cells : List ℤ) (place : ℕ) (inverse first : Record) (quantities : List ℤ) : Type 0 where
  pub sound : sound_record_rows cells ≡ true
  pub next-suffix : inverse.suffix ≡ next_suffix (greatest record_key inverse.id (rows_of records_layout cells))
  pub place_is : place ≡ place_in records_layout (record_key inverse) cells
  pub follows : record_key first ≡ key_of inverse.id (inverse.suffix +ℤ pos 1)
  pub room : length (rows_of records_layout cells) + suc (length quantities) ≤ room_of records_layout cells
  pub low : pos 0 ≤ℤ inverse.suffix
  pub high : (inverse.suffix +ℤ pos (length quantities)) ≤ℤ greatest_of_suffixes
