-- A row written over the one with its key leaves the table's keys as they stood: whatever is found or placed afterwards is what it was, and so are the greatest second
-- figures and the number of rows. Over any lawful layout.
-- Assumes nothing.
use mathlib.Core.Path.{◌≡◌, sym, ap, ◌∙◌}
use mathlib.Core.Bool.{Bool}
use mathlib.Core.List.{List, map}
use mathlib.Core.Option.{some}
use native.Mathlib.Omega.{arith}
use lib.IntN.{ℤ, nat_abs}
use lib.ListN.{length, length-map}
use Rattle.rules.specs.Keyed.{Key, find, greatest, upsert}
use Rattle.rules.specs.Layout.{Layout, count_of, decode, room_of, rows_of, write}
use Rattle.cells.specs.Lawful.{Lawful}
use Rattle.cells.specs.SoundTable.{SoundTable}
use Rattle.cells.proofs.Write.{rows_write, room-write}
use Rattle.keys.proofs.Rising.{upsert-keys, upsert-replaces}
use Rattle.lookup.specs.Lookup.{key_at, found_among, place_from, found_in, place_in}
use Rattle.lookup.proofs.RowFound.{greatest-map}
use Rattle.lookup.proofs.TableLookup.{KeyFirst, table-keys}

module _ {A : Type 0} (l : Layout A) (lawful : Lawful l) (key : A → Key) (first : KeyFirst l key) (sound_row : A → Bool)
    (cells : List ℤ) (table : SoundTable l key sound_row cells) (new x : A) (there : find key (key new) (rows_of l cells) ≡ some x)
    (out : List ℤ) (put : out ≡ write l cells (upsert key new (rows_of l cells))) where
  rows-keys : map key (rows_of l out) ≡ map key (rows_of l cells)
  rows-keys =
      ap (λ (c : List ℤ). map key (rows_of l c)) put
      ∙ ap (map key) (rows_write l lawful cells (upsert key new (rows_of l cells)) table.header-within)
      ∙ upsert-keys key new x (rows_of l cells) table.rows-rise there

  keys_kept : decode key_at l.width (nat_abs (count_of out)) l.header out ≡ decode key_at l.width (nat_abs (count_of cells)) l.header cells
  keys_kept = table-keys l key first out ∙ rows-keys ∙ sym (table-keys l key first cells)

  pub found-kept : (k : Key) → found_in l k out ≡ found_in l k cells
  found-kept k = ap (found_among k) keys_kept

  pub place_kept : (k : Key) → place_in l k out ≡ place_in l k cells
  place_kept k = ap (place_from 0 k) keys_kept

  pub greatest-kept : (m : ℤ) → greatest key m (rows_of l out) ≡ greatest key m (rows_of l cells)
  greatest-kept m = sym (greatest-map key m (rows_of l out)) ∙ ap (greatest (λ e. e) m) rows-keys ∙ greatest-map key m (rows_of l cells)

  pub length-kept : length (rows_of l out) ≡ length (rows_of l cells)
  length-kept = sym (length-map (rows_of l out) key) ∙ ap length rows-keys ∙ length-map (rows_of l cells) key

  pub room-kept : room_of l out ≡ room_of l cells
  room-kept =
      ap (room_of l) put
      ∙ room-write l lawful cells (upsert key new (rows_of l cells)) table.header-within
      (omega (arith, upsert-replaces key new x (rows_of l cells) table.rows-rise there, table.rows_fit))
