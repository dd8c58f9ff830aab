-- A row put into a sound table, as cells: inserted at the place of its key, or written over the row with its key, it is the table with the row put among its rows.
-- A table with a sound row put is sound, where it has the room. Over any lawful layout. Assumes nothing.
use Prim.Native.Nat.{ℕ, ◌≤◌, ◌<◌}
use native.Mathlib.Omega.{arith}
use mathlib.Core.Path.{◌≡◌, sym, ap, ◌∙◌}
use mathlib.Core.Bool.{Bool, true}
use mathlib.Core.List.{List}
use mathlib.Core.Option.{none, some}
use lib.IntN.{ℤ}
use lib.ListN.{length}
use Rattle.rules.specs.Keyed.{Key, find, upsert}
use Rattle.rules.specs.Layout.{Layout, row_at, room_of, rows_of, write}
use Rattle.rules.specs.Tables.{sound_table}
use Rattle.cells.specs.Lawful.{Lawful}
use Rattle.cells.specs.SoundTable.{SoundTable}
use Rattle.cells.proofs.Sound.{sound-write}
use Rattle.keys.proofs.Lookup.{all-upsert}
use Rattle.keys.proofs.Rising.{upsert-rises, upsert-adds, upsert-replaces}
use Rattle.lookup.specs.Lookup.{found_in, place_in}
use Rattle.lookup.specs.Found.{Row}
use Rattle.lookup.proofs.TableLookup.{KeyFirst, table-found, table-place, table-inserted, table-replaced}
use Rattle.shifter.specs.Insertion.{inserted, replaced}
use Rattle.shifter.proofs.Written.{inserted-written, replaced-written}

module _ {A : Type 0} (l : Layout A) (lawful : Lawful l) (key : A → Key) (first : KeyFirst l key) (sound_row : A → Bool)
    (cells : List ℤ) (table : SoundTable l key sound_row cells) (new : A) (sound : sound_row new ≡ true) (n : ℕ) (count : n ≡ length (rows_of l cells))
    (row : List ℤ) (Cells-of : row ≡ l.put new) (out : List ℤ) where
  put-sound : out ≡ write l cells (upsert key new (rows_of l cells)) → length (upsert key new (rows_of l cells)) ≤ room_of l cells → sound_table l key sound_row out ≡ true
  put-sound e fits =
      rw e
      (sound-write l lawful key sound_row cells (upsert key new (rows_of l cells)) table.header-within fits
      (upsert-rises key new (rows_of l cells) table.rows-rise)
      (all-upsert key sound_row new (rows_of l cells) sound table.rows-sound))

  pub put-inserted : find key (key new) (rows_of l cells) ≡ none → length (rows_of l cells) < room_of l cells
      → (place : ℕ) → place ≡ place_in l (key new) cells → out ≡ inserted l.header (length row) row 1 n place cells
      → (out ≡ write l cells (upsert key new (rows_of l cells))) × (sound_table l key sound_row out ≡ true)
  put-inserted absent room place at e = (written, put-sound written (omega (arith, upsert-adds key new (rows_of l cells) absent)))
    where
      wide : length row ≡ l.width
      wide = ap length Cells-of ∙ lawful.put-length new

      written : out ≡ write l cells (upsert key new (rows_of l cells))
      written =
          e
          ∙ ap (λ (w : ℕ). inserted l.header w row 1 n place cells) wide
          ∙ ap (λ (c : List ℤ). inserted l.header l.width c 1 n place cells) Cells-of
          ∙ ap (λ (m : ℕ). inserted l.header l.width (l.put new) 1 m place cells) count
          ∙ ap (λ (m : ℕ). inserted l.header l.width (l.put new) 1 (length (rows_of l cells)) m cells) at
          ∙ inserted-written l lawful cells table.count-sound (place_in l (key new) cells) new (table-place l key first cells (key new))
          ∙ ap (write l cells) (sym (table-inserted l key first cells new absent))

  pub put-replaced : (at : ℕ) → Row at ≡ found_in l (key new) cells → out ≡ replaced l.header row at cells
      → (out ≡ write l cells (upsert key new (rows_of l cells))) × (sound_table l key sound_row out ≡ true)
  put-replaced at f e = (written, put-sound written (omega (arith, same_count, table.rows_fit)))
    where
      known : (at < length (rows_of l cells)) × (find key (key new) (rows_of l cells) ≡ some (row_at l cells at)) × (key (row_at l cells at) ≡ key new)
      known = table-found l key first cells (key new) at (sym f)

      same_count : length (upsert key new (rows_of l cells)) ≡ length (rows_of l cells)
      same_count = upsert-replaces key new (row_at l cells at) (rows_of l cells) table.rows-rise known.1

      written : out ≡ write l cells (upsert key new (rows_of l cells))
      written =
          e
          ∙ ap (λ (c : List ℤ). replaced l.header c at cells) Cells-of
          ∙ replaced-written l lawful cells table.count-sound at new known.0
          ∙ ap (write l cells) (sym (table-replaced l key first cells new at table.rows-rise (sym f)))
