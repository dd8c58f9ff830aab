-- Rows inserted, or a row replaced, among a table's cells: the table written with them among its rows. Over any lawful layout. Assumes nothing.
use Prim.Native.Nat.{ℕ, suc, ◌≤◌, ◌<◌}
use mathlib.Core.Path.{◌≡◌, sym, ap, ◌∙◌}
use mathlib.Core.Bool.{true}
use mathlib.Core.List.{List, [], ◌∷◌, ◌++◌, append-nil}
use lib.IntN.{ℤ}
use lib.ListN.{length, take, drop}
use Rattle.rules.specs.Layout.{Layout, encode, rows_of, count_is_sound, write}
use Rattle.cells.specs.Lawful.{Lawful}
use Rattle.cells.proofs.Encode.{encode-nil, encode-cons}
use Rattle.cells.proofs.Shift.{insert-rows, replace-row}
use Rattle.shifter.specs.Insertion.{inserted, replaced}

module _ {Row : Type 0} (l : Layout Row) (lawful : Lawful l) (cells : List ℤ) (sound : count_is_sound l cells ≡ true) where
  pub rows_written : (place : ℕ) (news : List Row) → place ≤ length (rows_of l cells)
      → inserted l.header l.width (encode l.put news) (length news) (length (rows_of l cells)) place cells
      ≡ write l cells (take place (rows_of l cells) ++ (news ++ drop place (rows_of l cells)))
  unfolding inserted
  rows_written place news h = sym (insert-rows l lawful cells sound place news h)

  pub inserted-written : (place : ℕ) (new : Row) → place ≤ length (rows_of l cells)
      → inserted l.header l.width (l.put new) 1 (length (rows_of l cells)) place cells ≡ write l cells (take place (rows_of l cells) ++ (new ∷ drop place (rows_of l cells)))
  inserted-written place new h =
      let one : encode l.put (new ∷ []) ≡ l.put new =
      encode-cons l.put new [] ∙ ap (λ (c : List ℤ). l.put new ++ c) (encode-nil l.put) ∙ append-nil (l.put new) in
      ap (λ (c : List ℤ). inserted l.header l.width c 1 (length (rows_of l cells)) place cells) (sym one) ∙ rows_written place (new ∷ []) h

  pub replaced-written : (place : ℕ) (new : Row) → place < length (rows_of l cells)
      → replaced l.header (l.put new) place cells ≡ write l cells (take place (rows_of l cells) ++ (new ∷ drop (suc place) (rows_of l cells)))
  unfolding replaced
  replaced-written place new h = rw (lawful.put-length new) (sym (replace-row l lawful cells sound place new h))
