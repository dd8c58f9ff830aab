-- The part of a table from a row on is lent to the shifter and handed back: what the whole table is then. Assumes nothing.
use mathlib.Core.Path.{◌≡◌, refl, sym, ap, ◌∙◌}
use mathlib.Core.List.{List, [], ◌∷◌, ◌++◌, append-nil, append_assoc}
use Prim.Native.Nat.{ℕ, suc, ◌+◌, ◌-◌, ◌*◌, ◌≤◌}
use native.Mathlib.Omega.{arith}
use lib.IntN.{ℤ, pos}
use lib.ListN.{length, take, drop, set, length-drop, drop_of_length-le}
use mir.Facts.{to_z_pos}
use mir.Syntax.{w64}
use mir.Val.{to_z}
use lib.Seq.{take_all, drop_at, drop-drop, length-take-le}
use borrow.Rule.Slice.PartMut.{mid_of, put_mid}
use Rattle.rules.specs.Layout.{after_count}
use Rattle.cells.proofs.Count.{header-then}
use Rattle.shifter.specs.Insertion.{inserted, replaced}

-- A row of a table with `count` rows, and the cells before and after it, as numbers of cells.
pub rows_split : (width count place : ℕ) → place ≤ count → count * width ≡ place * width + (count - place) * width
rows_split width count place below = let e : count ≡ place + (count - place) = omega arith in omega (arith, ap (λ x. x * width) e)

module _ {A : Type 0} where
  -- Moved up by a row, then the row written over the first cells.
  pub shifted : (tail moved out row : List A) (used : ℕ) → used + length row ≤ length tail
      → moved ≡ take (length row) tail ++ (take used tail ++ drop (used + length row) tail)
      → out ≡ row ++ drop (length row) moved
      → out ≡ row ++ (take used tail ++ drop (used + length row) tail)
  shifted tail moved out row used fits m o =
      o ∙ ap (λ (x : List A). row ++ drop (length row) x) m ∙ ap (λ (x : List A). row ++ x) (drop_at (take (length row) tail) _ (length row) (length-take-le (length row) tail (omega arith)))

  -- A part up to the end of the table.
  to_the_end : (at : ℕ) (cells : List A) → mid_of at (length cells - at) cells ≡ drop at cells
  to_the_end at cells = take_all (length cells - at) (drop at cells) (simp length-drop (omega arith))

  handed-back : (at : ℕ) (cells part : List A) → put_mid at (length cells - at) cells part ≡ take at cells ++ part
  handed-back at cells part =
      let past : length (drop at cells) ≤ length cells - at = simp length-drop (omega arith) in
      let none : drop (length cells - at) (drop at cells) ≡ [] = drop_of_length-le (drop at cells) past in
      rw (none, append-nil) refl

-- The count set, of a table whose first cells are as they were.
set-count : (header n : ℕ) (cells rest : List ℤ) (count : ℤ) → 1 ≤ header → header ≤ length cells
    → set (take (header + n) cells ++ rest) 0 count ≡ count ∷ (after_count header cells ++ (take n (drop header cells) ++ rest))
set-count header n cells rest count one some =
    ap (λ (c : List ℤ). set (c ++ rest) 0 count) (sym (header-then header cells n one some))
    ∙ ap (λ (c : List ℤ). count ∷ c) (append_assoc (after_count header cells) (take n (drop header cells)) rest)

-- The count as a cell.
pub raised-cell : (count added : ℕ) → count + added ≤ 4096 → to_z w64 (count + added) ≡ pos (count + added)
raised-cell count added below = to_z_pos w64 (omega arith)

-- The part from row `place` on with its rows moved up and the new ones before them, and the count set: the rows are inserted.
pub insertion : (header width : ℕ) (cells new part : List ℤ) (added count place : ℕ) (raised : ℤ) → raised ≡ pos (count + added) → 1 ≤ header → place ≤ count
    → length new ≡ added * width → header + (count + added) * width ≤ length cells
    → part ≡ new ++ (take ((count - place) * width) (mid_of (header + place * width) (length cells - (header + place * width)) cells)
    ++ drop ((count - place) * width + length new) (mid_of (header + place * width) (length cells - (header + place * width)) cells))
    → set (put_mid (header + place * width) (length cells - (header + place * width)) cells part) 0 raised ≡ inserted header width new added count place cells
unfolding inserted
insertion header width cells new part added count place raised counted one below size fits e =
    let at : ℕ = header + place * width in
    let past : at + ((count - place) * width + length new) ≡ header + (count + added) * width = omega (arith, rows_split width count place below) in
    rw (
      counted,
      handed-back at cells part,
      set-count header (place * width) cells part (pos (count + added)) one (omega arith),
      e,
      to_the_end at cells,
      drop-drop,
      past,
    ) refl

-- `overwrite` on the part from row `place` on: the row is replaced.
pub replacement : (header : ℕ) (cells row part : List ℤ) (place : ℕ) → header + suc place * length row ≤ length cells
    → part ≡ row ++ drop (length row) (mid_of (header + place * length row) (length cells - (header + place * length row)) cells)
    → put_mid (header + place * length row) (length cells - (header + place * length row)) cells part ≡ replaced header row place cells
unfolding replaced
replacement header cells row part place fits e =
    let at : ℕ = header + place * length row in
    let past : at + length row ≡ header + suc place * length row = omega arith in
    rw (handed-back at cells part, e, to_the_end at cells, drop-drop, past) refl
