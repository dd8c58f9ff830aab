-- A search among the first rows of a sound table, past a row whose key is not below the one sought: what it finds is what the whole table has. By the laws of the place.
-- Assumes nothing.
use Prim.Native.Nat.{ℕ, ◌+◌, ◌≤◌, ◌<◌}
use mathlib.Core.Path.{◌≡◌, sym, ap, ◌∙◌}
use mathlib.Core.Bool.{Bool, false}
use mathlib.Core.List.{List}
use native.Mathlib.Omega.{arith}
use lib.IntN.{ℤ, nat_abs}
use lib.ListN.{length}
use Rattle.rules.specs.Keyed.{Key, below}
use Rattle.rules.specs.Layout.{Layout, count_of, start_of, row_at, rows_of}
use Rattle.cells.specs.SoundTable.{SoundTable}
use Rattle.cells.proofs.Count.{length-rows_of}
use Rattle.lookup.specs.Lookup.{Searchable, key_at, row_found, found_in, place_in}
use Rattle.lookup.specs.Found.{Found}
use Rattle.lookup.proofs.Halving.{place-just-past}
use Rattle.lookup.proofs.LookedUp.{front-searchable, found_front}
use Rattle.lookup.proofs.TableLookup.{KeyFirst, table-searchable}

module _ {A : Type 0} (l : Layout A) (key : A → Key) (first : KeyFirst l key) (sound_row : A → Bool) (cells : List ℤ) (table : SoundTable l key sound_row cells)
    (end : ℕ) (within : end ≤ length (rows_of l cells)) where
  searchable : Searchable l.header l.width (nat_abs (count_of cells)) cells
  searchable = table-searchable l key first cells sound_row table (nat_abs (count_of cells)) (sym (length-rows_of l cells))

  counted : end ≤ nat_abs (count_of cells)
  counted = omega (arith, length-rows_of l cells)

  pub first-searchable : Searchable l.header l.width end cells
  first-searchable = front-searchable l.header l.width (nat_abs (count_of cells)) end cells counted searchable

  pub found_first : (row : ℕ) → row < end → (k : Key) → below (key (row_at l cells row)) k ≡ false
      → (f : Found) → f ≡ row_found l.header l.width k end cells → f ≡ found_in l k cells
  found_first row h k s f e =
      let tested : below (key_at cells (start_of l row)) k ≡ false = ap (λ (own : Key). below own k) (sym (first.key-first cells (start_of l row))) ∙ s in
      let belongs : place_in l k cells ≤ row + 1 = place-just-past cells l.header l.width (nat_abs (count_of cells)) k row (omega (arith, counted)) searchable.keys-rise tested in
      found_front cells l.header l.width (nat_abs (count_of cells)) end counted searchable k (omega (arith, belongs)) f e
