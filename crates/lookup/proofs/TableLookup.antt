-- The answers of the lookup on a table of cells, in the rules' words: over any layout whose rows begin with their key, then for records and positions.
-- The keys that the lookup reads are the keys of the table's rows. Assumes nothing.
use Prim.Native.Nat.{ℕ, zero, suc, ◌+◌, ◌≤◌, ◌<◌}
use mathlib.Core.Path.{◌≡◌, refl, sym, ap, ap₂, ◌∙◌}
use native.Mathlib.Omega.{arith}
use mathlib.Core.Bool.{Bool, true}
use mathlib.Core.List.{List, ◌∷◌, ◌++◌, map}
use mathlib.Core.Option.{Option, none, some}
use lib.IntN.{ℤ, nat_abs}
use lib.ListN.{length, get_or, take, drop}
use Rattle.rules.specs.Keyed.{Key, rising, find, upsert}
use Rattle.rules.specs.Rows.{key_of, record_key, position_key, zero_position, or_zeros}
use Rattle.rules.specs.Layout.{Layout, count_of, decode, row_at, rows_of}
use Rattle.rules.specs.Tables.{records_layout, positions_layout}
use Rattle.cells.specs.SoundTable.{SoundTable}
use Rattle.cells.proofs.Count.{room_most}
use Rattle.cells.proofs.Decode.{length-decode, get_or-decode}
use Rattle.lookup.specs.Lookup.{key_at, row_from, keys_rise, most_rows, Searchable, found_in, place_in, position_found}
use Rattle.lookup.specs.Found as Found
use Rattle.lookup.proofs.RowFound.{row_told, absent-told, found-find, found-key, absent-find}
use Rattle.lookup.proofs.RowPlaced.{place-within, upsert-placed, upsert-replaced}
use Rattle.lookup.proofs.RisingKeys.{rising-map}

-- The keys read from the cells are the keys of the rows read from them.
pub decode-keys : {A : Type 0} (get : List ℤ → ℕ → A) (key : A → Key) → ((cells : List ℤ) (at : ℕ) → key (get cells at) ≡ key_at cells at)
    → (width n at : ℕ) (cells : List ℤ) → decode key_at width n at cells ≡ map key (decode get width n at cells)
decode-keys get key first width zero at cells = refl
decode-keys get key first width (suc n) at cells = ap₂ ◌∷◌ (sym (first cells at)) (decode-keys get key first width n (at + width) cells)

-- Each row of a layout begins with its key, and there is room for no more rows than may be searched.
pub record KeyFirst {A : Type 0} (l : Layout A) (key : A → Key) : Type 0 where
  pub key-within : 2 ≤ l.width
  pub few-rows : l.most ≤ most_rows
  pub key-first : (cells : List ℤ) (at : ℕ) → key (l.get cells at) ≡ key_at cells at

module _ {A : Type 0} (l : Layout A) (key : A → Key) (lawful : KeyFirst l key) (cells : List ℤ) where
  rows-decode : rows_of l cells ≡ decode l.get l.width (nat_abs (count_of cells)) l.header cells
  unfolding rows_of
  rows-decode = refl

  pub table-keys : decode key_at l.width (nat_abs (count_of cells)) l.header cells ≡ map key (rows_of l cells)
  table-keys = decode-keys l.get key lawful.key-first l.width (nat_abs (count_of cells)) l.header cells ∙ ap (map key) (sym rows-decode)

  table-length : length (rows_of l cells) ≡ nat_abs (count_of cells)
  table-length = ap length rows-decode ∙ length-decode l.get l.width (nat_abs (count_of cells)) l.header cells

  -- The keys rise where the rows do.
  table-rises : rising key (rows_of l cells) ≡ true → (n : ℕ) → n ≡ length (rows_of l cells) → keys_rise l.header l.width n cells ≡ true
  table-rises rises n e =
      ap (λ (count : ℕ). keys_rise l.header l.width count cells) (e ∙ table-length)
      ∙ ap (rising (λ k. k)) table-keys
      ∙ rising-map key (rows_of l cells)
      ∙ rises

  -- A sound table can be searched, over as many rows as it has.
  pub table-searchable : (sound_row : A → Bool) → SoundTable l key sound_row cells → (n : ℕ) → n ≡ length (rows_of l cells) → Searchable l.header l.width n cells
  table-searchable sound_row table n e = record {
    key-within = lawful.key-within;
    few-rows = omega (arith, table.rows_fit, room_most l cells, lawful.few-rows);
    rows-within = rw e table.rows-within;
    keys-rise = table-rises table.rows-rise n e;
  }

  -- Row i, from 0, is read at its cells.
  pub table-row : (i : ℕ) (other : A) → i < length (rows_of l cells) → get_or (rows_of l cells) i other ≡ row_at l cells i
  table-row i other h =
      ap (λ (rows : List A). get_or rows i other) rows-decode
      ∙ get_or-decode l.get l.width (nat_abs (count_of cells)) l.header cells i other (rw table-length at h)

  -- The row with a key, of the rows' keys.
  pub as_row : (k : Key) (o : Option ℕ) → row_from 0 k (decode key_at l.width (nat_abs (count_of cells)) l.header cells) ≡ o → row_from 0 k (map key (rows_of l cells)) ≡ o
  as_row k o h = ap (row_from 0 k) (sym table-keys) ∙ h

  pub row-told-of : (k : Key) (i : ℕ) → row_from 0 k (map key (rows_of l cells)) ≡ some i
      → (i < length (rows_of l cells)) × (find key k (rows_of l cells) ≡ some (row_at l cells i)) × (key (row_at l cells i) ≡ k)
  row-told-of k i f =
      let b : i < length (rows_of l cells) = (found-find key k (rows_of l cells) i f).0 in
      let e : get_or (rows_of l cells) i (row_at l cells i) ≡ row_at l cells i = table-row i (row_at l cells i) b in (
        b,
        (found-find key k (rows_of l cells) i f).1 (row_at l cells i) ∙ ap some e,
        sym (ap key e) ∙ found-key key k (rows_of l cells) i (row_at l cells i) f,
      )

  found-row : (k : Key) (i : ℕ) → found_in l k cells ≡ Found.Row i → row_from 0 k (map key (rows_of l cells)) ≡ some i
  found-row k i h = as_row k (some i) (row_told _ (place_in l k cells) i h)

  pub table-found : (k : Key) (i : ℕ) → found_in l k cells ≡ Found.Row i
      → (i < length (rows_of l cells)) × (find key k (rows_of l cells) ≡ some (row_at l cells i)) × (key (row_at l cells i) ≡ k)
  table-found k i h = row-told-of k i (found-row k i h)

  pub table-absent : (k : Key) (place : ℕ) → found_in l k cells ≡ Found.Absent place → (find key k (rows_of l cells) ≡ none) × (place ≡ place_in l k cells)
  table-absent k place h =
      let w : (row_from 0 k (decode key_at l.width (nat_abs (count_of cells)) l.header cells) ≡ none) × (place_in l k cells ≡ place) = absent-told _ (place_in l k cells) place h in
      (absent-find key k (rows_of l cells) (as_row k none w.0), sym w.1)

  -- A new row at its place, and a row in place of the one with its key.
  pub table-place : (k : Key) → place_in l k cells ≤ length (rows_of l cells)
  table-place k = rw table-keys (place-within key k (rows_of l cells))

  pub table-inserted : (new : A) → find key (key new) (rows_of l cells) ≡ none
      → upsert key new (rows_of l cells)
      ≡ take (place_in l (key new) cells) (rows_of l cells)
      ++ (new ∷ drop (place_in l (key new) cells) (rows_of l cells))
  table-inserted new h = rw table-keys (upsert-placed key new (rows_of l cells) h)

  pub table-replaced : (new : A) (i : ℕ) → rising key (rows_of l cells) ≡ true → found_in l (key new) cells ≡ Found.Row i
      → upsert key new (rows_of l cells) ≡ take i (rows_of l cells) ++ (new ∷ drop (suc i) (rows_of l cells))
  table-replaced new i r h = upsert-replaced key new (rows_of l cells) i r (found-row (key new) i h)

-- ---- the two tables

pub records-first : KeyFirst records_layout record_key
records-first = record { key-within = omega arith; few-rows = omega arith; key-first = λ cells at. refl }

pub positions-first : KeyFirst positions_layout position_key
positions-first = record { key-within = omega arith; few-rows = omega arith; key-first = λ cells at. refl }

module _ (cells : List ℤ) (account series : ℤ) where
  pub position-found : (row : ℕ) → position_found cells account series ≡ Found.Row row
      → (row < length (rows_of positions_layout cells))
      × (find position_key (key_of account series) (rows_of positions_layout cells) ≡ some (row_at positions_layout cells row))
      × (position_key (row_at positions_layout cells row) ≡ key_of account series)
  position-found row h = table-found positions_layout position_key positions-first cells (key_of account series) row h

  pub position_absent : (place : ℕ) → position_found cells account series ≡ Found.Absent place → find position_key (key_of account series) (rows_of positions_layout cells) ≡ none
  position_absent place h = (table-absent positions_layout position_key positions-first cells (key_of account series) place h).0

  -- "an absent row reads as zeros"
  pub position-read : (row : ℕ) → position_found cells account series ≡ Found.Row row
      → or_zeros account series (find position_key (key_of account series) (rows_of positions_layout cells)) ≡ row_at positions_layout cells row
  unfolding or_zeros
  position-read row h = ap (or_zeros account series) (position-found row h).1

  pub position-zeros : (place : ℕ) → position_found cells account series ≡ Found.Absent place
      → or_zeros account series (find position_key (key_of account series) (rows_of positions_layout cells)) ≡ zero_position account series
  unfolding or_zeros
  position-zeros place h = ap (or_zeros account series) (position_absent place h)
