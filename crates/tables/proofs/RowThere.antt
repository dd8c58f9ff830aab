-- In a rising table a row is found by its key: the lookup of the key of row i answers row i. So a row of a sound table is sound. By the law of keys that rise. Assumes nothing.
use Prim.Native.Nat.{ℕ, zero, suc, ◌<◌}
use mathlib.Core.Path.{◌≡◌, refl, sym, ap, ◌∙◌}
use mathlib.Core.Bool.{Bool, true}
use mathlib.Core.List.{List, [], ◌∷◌, map}
use mathlib.Core.Option.{Option, some}
use lib.IntN.{ℤ, nat_abs}
use lib.ListN.{length, get_or, length-map}
use Rattle.rules.specs.Keyed.{Key, rising}
use Rattle.rules.specs.Layout.{Layout, count_of, decode, row_at, rows_of}
use Rattle.cells.specs.SoundTable.{SoundTable}
use Rattle.keys.proofs.Lookup.{find-all}
use Rattle.lookup.specs.Lookup.{key_at, row_from, found_or, found_in, place_in}
use Rattle.lookup.specs.Found.{Row}
use Rattle.lookup.proofs.RisingKeys.{rising-map, found-there}
use Rattle.lookup.proofs.TableLookup.{KeyFirst, table-keys, table-row, table-found}

key-of-row : {A : Type 0} (key : A → Key) (rows : List A) (i : ℕ) (other : A) → get_or (map key rows) i (key other) ≡ key (get_or rows i other)
key-of-row key [] i other = refl
key-of-row key (r ∷ rest) zero other = refl
key-of-row key (r ∷ rest) (suc i) other = key-of-row key rest i other

rising-found : {A : Type 0} (key : A → Key) (rows : List A) (i : ℕ) (other : A) → rising key rows ≡ true → i < length rows
    → row_from 0 (key (get_or rows i other)) (map key rows) ≡ some i
rising-found key rows i other rises h =
    ap (λ (k : Key). row_from 0 k (map key rows)) (sym (key-of-row key rows i other))
    ∙ found-there (map key rows) i (key other) (rising-map key rows ∙ rises) (rw (length-map rows key) h)

module _ {A : Type 0} (l : Layout A) (key : A → Key) (first : KeyFirst l key) (cells : List ℤ) where
  pub row-there : (i : ℕ) → rising key (rows_of l cells) ≡ true → i < length (rows_of l cells)
      → found_in l (key (row_at l cells i)) cells ≡ Row i
  unfolding found_or
  row-there i rises h =
      let here : A = row_at l cells i in
      let row : row_from 0 (key here) (decode key_at l.width (nat_abs (count_of cells)) l.header cells) ≡ some i =
      ap (row_from 0 (key here)) (table-keys l key first cells)
      ∙ ap (λ (r : A). row_from 0 (key r) (map key (rows_of l cells))) (sym (table-row l key first cells i here h))
      ∙ rising-found key (rows_of l cells) i here rises h in
      ap (λ (o : Option ℕ). found_or o (place_in l (key here) cells)) row

  pub row-is-sound : (sound_row : A → Bool) → SoundTable l key sound_row cells → (i : ℕ) → i < length (rows_of l cells) → sound_row (row_at l cells i) ≡ true
  row-is-sound sound_row table i h =
      find-all key sound_row (key (row_at l cells i)) (rows_of l cells) (row_at l cells i) table.rows-sound
      (table-found l key first cells (key (row_at l cells i)) i (row-there i table.rows-rise h)).1
