-- Rows written one after the other over the cells of a table or of a part of it; and rows moved up with the new ones written before them. By the lengths of the parts of
-- a list. Over any lawful layout. Assumes nothing.
use Prim.Native.Nat.{ℕ, suc, ◌+◌, ◌*◌, ◌≤◌}
use native.Mathlib.Nat.{add-mul, suc-mul}
use native.Mathlib.Omega.{arith}
use mathlib.Core.Path.{◌≡◌, sym, ap, ◌∙◌}
use mathlib.Core.List.{List, ◌∷◌, ◌++◌, append_assoc}
use lib.IntN.{ℤ}
use lib.ListN.{length, take, drop, length-append}
use lib.Seq.{take_at, drop_at, drop-drop, length-take-le}
use Rattle.rules.specs.Layout.{Layout, encode}
use Rattle.cells.specs.Lawful.{Lawful}
use Rattle.cells.proofs.Encode.{encode-cons}
use Rattle.shifter.specs.Insertion.{replaced, filled, raised}
use Rattle.shifter.proofs.Placed.{shifted}

-- A list with others written over it from a place on: two of them at once, or the second where the first ends.
abbrev over_from : List ℤ → ℕ → List ℤ → List ℤ
over_from xs at cells = take at cells ++ (xs ++ drop (at + length xs) cells)

over : (xs ys : List ℤ) (at : ℕ) (cells : List ℤ) → at ≤ length cells → over_from (xs ++ ys) at cells ≡ over_from ys (at + length xs) (over_from xs at cells)
over xs ys at cells h =
    let head : List ℤ = take at cells ++ xs in
    let tail : List ℤ = drop (at + length xs) cells in
    let size : length head ≡ at + length xs = length-append (take at cells) xs ∙ ap (λ (n : ℕ). n + length xs) (length-take-le at cells h) in
    let whole : over_from xs at cells ≡ head ++ tail = sym (append_assoc (take at cells) xs tail) in
    let end : at + length (xs ++ ys) ≡ at + length xs + length ys = omega (arith, length-append xs ys) in
    let front : take (at + length xs) (head ++ tail) ≡ head = take_at head tail (at + length xs) size in
    let back : drop (at + length xs + length ys) (head ++ tail) ≡ drop (at + length xs + length ys) cells =
    sym (drop-drop (length ys) (at + length xs) (head ++ tail))
    ∙ ap (drop (length ys)) (drop_at head tail (at + length xs) size)
    ∙ drop-drop (length ys) (at + length xs) cells in
    let joined : over_from (xs ++ ys) at cells ≡ head ++ (ys ++ drop (at + length xs + length ys) cells) = rw end (simp append_assoc) in
    joined
    ∙ ap (λ (c : List ℤ). head ++ (ys ++ c)) (sym back)
    ∙ ap (λ (c : List ℤ). c ++ (ys ++ drop (at + length xs + length ys) (head ++ tail))) (sym front)
    ∙ ap (over_from ys (at + length xs)) (sym whole)

module _ (header width : ℕ) (run : List ℤ) (place : ℕ) (cells : List ℤ) where
  -- One row's cells take the place of a row.
  pub filled_row : length run ≡ width → filled header width run place cells ≡ replaced header run place cells
  unfolding filled replaced
  filled_row size =
      let past : header + place * width + length run ≡ header + suc place * length run = omega (arith, suc-mul place width, ap (λ (w : ℕ). suc place * w) size) in
      ap (λ (j : ℕ). take (header + place * width) cells ++ (run ++ drop j cells)) past
      ∙ ap (λ (w : ℕ). take (header + place * w) cells ++ (run ++ drop (header + suc place * length run) cells)) (sym size)

  -- Of a longer run the first row is written, then the others from the next row on.
  pub filled_next : (more : List ℤ) → length run ≡ width → header + place * width ≤ length cells
      → filled header width (run ++ more) place cells ≡ filled header width more (place + 1) (replaced header run place cells)
  unfolding filled
  filled_next more size fits =
      let at : ℕ = header + place * width in
      let next : at + length run ≡ header + (place + 1) * width = omega (arith, add-mul place 1 width) in
      over run more at cells fits
      ∙ ap (λ (j : ℕ). over_from more j (take at cells ++ (run ++ drop (at + length run) cells))) next
      ∙ ap (filled header width more (place + 1)) (filled_row size)

-- From the first row on.
from_first : (width : ℕ) (new cells : List ℤ) → filled 0 width new 0 cells ≡ new ++ drop (length new) cells
unfolding filled
from_first width new cells =
    let none : 0 + 0 * width ≡ 0 = omega arith in
    let all : 0 + 0 * width + length new ≡ length new = omega arith in
    ap (λ (n : ℕ). take n cells ++ (new ++ drop (0 + 0 * width + length new) cells)) none ∙ ap (λ (n : ℕ). new ++ drop n cells) all

module _ {Row : Type 0} (l : Layout Row) (lawful : Lawful l) where
  -- Rows written one by one, with so many cells before the rows.
  pub rows_next : (header : ℕ) (new : Row) (more : List Row) (place : ℕ) (cells : List ℤ) → header + place * l.width ≤ length cells
      → filled header l.width (encode l.put (new ∷ more)) place cells
      ≡ filled header l.width (encode l.put more) (place + 1) (replaced header (l.put new) place cells)
  rows_next header new more place cells fits =
      ap (λ (c : List ℤ). filled header l.width c place cells) (encode-cons l.put new more)
      ∙ filled_next header l.width (l.put new) place cells (encode l.put more) (lawful.put-length new) fits

  -- A part moved up by the cells of some rows, then the first of them and the others written.
  pub rows-shifted : (new : Row) (more : List Row) (used : ℕ) (part up one out : List ℤ) → used + length (encode l.put (new ∷ more)) ≤ length part
      → up ≡ raised (length (encode l.put (new ∷ more))) used part → one ≡ replaced 0 (l.put new) 0 up → out ≡ filled 0 l.width (encode l.put more) 1 one
      → out ≡ encode l.put (new ∷ more) ++ (take used part ++ drop (used + length (encode l.put (new ∷ more))) part)
  rows-shifted new more used part up one out fits u o e =
      shifted part up out (encode l.put (new ∷ more)) used fits u
      (e ∙ ap (filled 0 l.width (encode l.put more) 1) o ∙ sym (rows_next 0 new more 0 up (omega arith)) ∙ from_first l.width (encode l.put (new ∷ more)) up)
