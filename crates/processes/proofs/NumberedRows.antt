-- A sound table whose rows rise by the first figure of their key alone: it is a sound table by the key too, so that the laws of lookups and puts hold of it; and a row put into
-- it, new or in place of the one with its key, leaves it sound. Over any lawful layout. Assumes nothing.
use Prim.Native.Nat.{ℕ, ◌≤◌, ◌<◌}
use native.Mathlib.Omega.{arith}
use mathlib.Core.Path.{◌≡◌, refl, sym}
use mathlib.Core.Bool.{Bool, true}
use mathlib.Core.List.{List}
use mathlib.Core.Option.{none, some}
use lib.IntN.{ℤ}
use lib.ListN.{length}
use Rattle.rules.specs.Keyed.{Key, rising, find, greatest, upsert}
use Rattle.rules.specs.Layout.{Layout, row_at, room_of, rows_of, write}
use Rattle.rules.specs.Tables.{sound_table}
use Rattle.cells.specs.Lawful.{Lawful}
use Rattle.cells.specs.SoundTable.{SoundTable}
use Rattle.cells.proofs.Sound.{sound-write}
use Rattle.keys.proofs.FirstFigures.{first_figure, rises-by-key, new-rises, same-rises}
use Rattle.keys.proofs.Greatest.{greatest-none}
use Rattle.keys.proofs.Lookup.{all-upsert}
use Rattle.keys.proofs.Rising.{upsert-adds, upsert-replaces}
use Rattle.lookup.specs.Lookup.{found_in, place_in}
use Rattle.lookup.specs.Found.{Row}
use Rattle.lookup.proofs.TableLookup.{KeyFirst, table-found}
use Rattle.shifter.specs.Insertion.{inserted, replaced}
use Rattle.tables.proofs.RowPut.{put-inserted, put-replaced}

module _ {A : Type 0} (l : Layout A) (key : A → Key) (sound_row : A → Bool) (cells : List ℤ) (table : SoundTable l (first_figure key) sound_row cells) where
  pub by_key : SoundTable l key sound_row cells
  by_key = record {
    count-sound = table.count-sound;
    header-within = table.header-within;
    count = table.count;
    rows_fit = table.rows_fit;
    rows-within = table.rows-within;
    rows-rise = rises-by-key key (rows_of l cells) table.rows-rise;
    rows-sound = table.rows-sound;
  }

module _ {A : Type 0} (l : Layout A) (lawful : Lawful l) (key : A → Key) (first : KeyFirst l key) (sound_row : A → Bool)
    (cells : List ℤ) (table : SoundTable l (first_figure key) sound_row cells) (new : A) (sound : sound_row new ≡ true)
    (row : List ℤ) (Cells-of : row ≡ l.put new) (out : List ℤ) where
  rises-sound : out ≡ write l cells (upsert key new (rows_of l cells)) → length (upsert key new (rows_of l cells)) ≤ room_of l cells
      → rising (first_figure key) (upsert key new (rows_of l cells)) ≡ true → sound_table l (first_figure key) sound_row out ≡ true
  rises-sound e fits rises =
      rw e
      (sound-write l lawful (first_figure key) sound_row cells (upsert key new (rows_of l cells)) table.header-within fits rises
      (all-upsert key sound_row new (rows_of l cells) sound table.rows-sound))

  -- No row has its first figure.
  pub number-inserted : greatest key (key new).major (rows_of l cells) ≡ none → length (rows_of l cells) < room_of l cells
      → (n : ℕ) → n ≡ length (rows_of l cells) → (place : ℕ) → place ≡ place_in l (key new) cells → out ≡ inserted l.header (length row) row 1 n place cells
      → (out ≡ write l cells (upsert key new (rows_of l cells))) × (sound_table l (first_figure key) sound_row out ≡ true)
  number-inserted unused room n count place at e = (written, rises-sound written (omega (arith, upsert-adds key new (rows_of l cells) absent)) (new-rises key new (rows_of l cells) table.rows-rise unused))
    where
      absent : find key (key new) (rows_of l cells) ≡ none
      absent = greatest-none key (key new).major (key new).minor (rows_of l cells) unused

      written : out ≡ write l cells (upsert key new (rows_of l cells))
      written = (put-inserted l lawful key first sound_row cells (by_key l key sound_row cells table) new sound n count row Cells-of out absent room place at e).0

  -- It takes the place of the row with its key.
  pub number-replaced : (at : ℕ) → Row at ≡ found_in l (key new) cells → out ≡ replaced l.header row at cells
      → (out ≡ write l cells (upsert key new (rows_of l cells))) × (sound_table l (first_figure key) sound_row out ≡ true)
  number-replaced at f e = (written, rises-sound written (omega (arith, same_count, table.rows_fit)) (same-rises key new (row_at l cells at) (rows_of l cells) table.rows-rise there))
    where
      there : find key (key new) (rows_of l cells) ≡ some (row_at l cells at)
      there = (table-found l key first cells (key new) at (sym f)).1

      same_count : length (upsert key new (rows_of l cells)) ≡ length (rows_of l cells)
      same_count = upsert-replaces key new (row_at l cells at) (rows_of l cells) (rises-by-key key (rows_of l cells) table.rows-rise) there

      written : out ≡ write l cells (upsert key new (rows_of l cells))
      written = (put-replaced l lawful key first sound_row cells (by_key l key sound_row cells table) new sound (length (rows_of l cells)) refl row Cells-of out at f e).0
