-- The cells of a row of a sound table are there; and what the shifter asks before a row is put into it: the place is one of the table's, and the cells are there. Over any lawful layout. Assumes nothing.
use Prim.Native.Nat.{ℕ, suc, ◌+◌, ◌*◌, ◌≤◌, ◌<◌}
use native.Mathlib.Nat.{mul-le-mul_right}
use native.Mathlib.Omega.{arith}
use mathlib.Core.Path.{◌≡◌, sym, ap, subst, ◌∙◌}
use mathlib.Core.Bool.{Bool}
use mathlib.Core.List.{List, [], ◌∷◌}
use mathlib.Core.Option.{none}
use lib.IntN.{ℤ}
use lib.ListN.{length}
use Rattle.rules.specs.Keyed.{Key, find, absent_from}
use Rattle.rules.specs.Layout.{Layout, start_of, room_of, rows_of}
use Rattle.cells.specs.Lawful.{Lawful}
use Rattle.cells.specs.SoundTable.{SoundTable}
use Rattle.cells.proofs.Count.{room_most, fits-cells}
use Rattle.keys.proofs.Clauses.{absent_from-nil, absent_from-new}
use Rattle.lookup.specs.Lookup.{found_in, place_in}
use Rattle.lookup.specs.Found.{Row}
use Rattle.lookup.proofs.TableLookup.{KeyFirst, table-found, table-place}

-- Room for the rows and an absent one.
pub room-for-one : {A : Type 0} (key : A → Key) (new : A) (rows : List A) {room : ℕ} → find key (key new) rows ≡ none
    → length rows + absent_from key rows (new ∷ []) ≤ room → length rows < room
room-for-one key new rows absent fits = omega (arith, absent_from-new key rows new [] absent, absent_from-nil key rows)

pub row-cells-within : {A : Type 0} (l : Layout A) (key : A → Key) (sound_row : A → Bool) (cells : List ℤ) → SoundTable l key sound_row cells
    → (row : ℕ) → row < length (rows_of l cells) → start_of l (suc row) ≤ length cells
row-cells-within l key sound_row cells table row within = omega (arith, table.rows-within, mul-le-mul_right l.width within)

module _ {A : Type 0} (l : Layout A) (lawful : Lawful l) (key : A → Key) (first : KeyFirst l key) (sound_row : A → Bool)
    (cells : List ℤ) (table : SoundTable l key sound_row cells) (n : ℕ) (count : n ≡ length (rows_of l cells)) (k : Key)
    (row : List ℤ) (new : A) (Cells-of : row ≡ l.put new) where
  wide : l.width ≡ length row
  wide = sym (ap length Cells-of ∙ lawful.put-length new)

  pub insertion-fits : l.most ≤ 4096 → length (rows_of l cells) < room_of l cells → (place : ℕ) → place ≡ place_in l k cells
      → (1 ≤ l.header) × (place ≤ n) × (l.header + suc n * length row ≤ length cells) × (n < 4096)
  insertion-fits small room place at =
      let more : suc n ≤ room_of l cells = omega arith in (
        lawful.counted,
        omega (arith, table-place l key first cells k),
        subst (λ (w : ℕ). l.header + suc n * w ≤ length cells) wide (fits-cells l lawful cells (suc n) table.header-within more),
        omega (arith, room_most l cells),
      )

  pub replacement-fits : (at : ℕ) → Row at ≡ found_in l k cells → l.header + suc at * length row ≤ length cells
  replacement-fits at f =
      let below : at < length (rows_of l cells) = (table-found l key first cells k at (sym f)).0 in
      subst (λ (w : ℕ). l.header + suc at * w ≤ length cells) wide (omega (arith, table.rows-within, mul-le-mul_right l.width below))
