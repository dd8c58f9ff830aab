-- Room, count and rows of a table, over any lawful layout: what a sound count says, and how rows within the room lie within the cells.
-- Assumes nothing.
use Prim.Native.Nat.{ℕ, zero, suc, ◌+◌, ◌-◌, ◌*◌, ◌/◌, ◌≤◌}
use native.Mathlib.Nat.{suc-add, le-div_iff_mul-le, min-le_right, min-le_left, le_trans, le-min}
use native.Mathlib.Omega.{arith}
use mathlib.Core.Path.{◌≡◌, refl, sym, ap, ◌∙◌}
use mathlib.Core.Bool.{true}
use mathlib.Core.List.{List, [], ◌∷◌, ◌++◌}
use lib.Dec.{leb}
use lib.IntN.{ℤ, pos, negsuc, nat_abs}
use lib.ListN.{length, take, drop, length-drop, take-append-drop}
use lib.Seq.{take-add, length-take-le}
use borrow.Author.Tests.{leb-true, le-leb}
use Rattle.integers.specs.Order.{in_range}
use Rattle.rules.specs.Layout.{Layout, count_of, after_count, room_for, decode, start_of, room_of, rows_of, count_is_sound}
use Rattle.keys.proofs.Split.{and_intro, and_left, and_right}
use Rattle.cells.specs.Lawful.{Lawful}
use Rattle.cells.proofs.Decode.{length-decode}

-- A number from 0 to a room, by its sign.
within : (z : ℤ) (room : ℕ) → in_range (pos 0) (pos room) z ≡ true → (z ≡ pos (nat_abs z)) × (nat_abs z ≤ room)
unfolding in_range
within (pos n) room e = (refl, leb-true n room (and_right (leb 0 n) (leb n room) e))
within (negsuc n) room e = let z : ◌≡◌ {A = ℕ} 0 1 = cc in absurd (omega arith)

pub pos-within : (n room : ℕ) → n ≤ room → in_range (pos 0) (pos room) (pos n) ≡ true
unfolding in_range
pos-within n room h = and_intro (le-leb 0 n (omega arith)) (le-leb n room h)

one_less : (h : ℕ) → suc h - 1 ≡ h
one_less h = omega arith

-- The count, the header's other cells and m cells after them are the first cells of the table.
pub header-then : (header : ℕ) (cells : List ℤ) (m : ℕ) → 1 ≤ header → header ≤ length cells →
    count_of cells ∷ (after_count header cells ++ take m (drop header cells)) ≡ take (header + m) cells
header-then header [] m h long = absurd (omega arith)
header-then zero (c ∷ rest) m h long = absurd (omega arith)
header-then (suc h) (c ∷ rest) m _ long =
    ap (λ (j : ℕ). c ∷ (take j rest ++ take m (drop h rest))) (one_less h)
    ∙ ap (λ (ys : List ℤ). c ∷ ys) (sym (take-add h m rest))
    ∙ ap (λ (j : ℕ). take j (c ∷ rest)) (sym (suc-add h m))

pub header-around : (header : ℕ) (cells : List ℤ) → 1 ≤ header → header ≤ length cells → count_of cells ∷ (after_count header cells ++ drop header cells) ≡ cells
header-around header [] h long = absurd (omega arith)
header-around zero (c ∷ rest) h long = absurd (omega arith)
header-around (suc h) (c ∷ rest) _ long =
    ap (λ (j : ℕ). c ∷ (take j rest ++ drop h rest)) (one_less h) ∙ ap (λ (ys : List ℤ). c ∷ ys) (take-append-drop h rest)

pub length-after_count : (header : ℕ) (cells : List ℤ) → 1 ≤ header → header ≤ length cells → length (after_count header cells) ≡ header - 1
length-after_count header cells h long = length-take-le (header - 1) (drop 1 cells) (omega (arith, length-drop 1 cells))

module _ {Row : Type 0} (l : Layout Row) where
  -- Room depends on the number of cells alone.
  pub room-by-length : (xs ys : List ℤ) → length xs ≡ length ys → room_of l xs ≡ room_of l ys
  unfolding room_of
  room-by-length xs ys e = ap (λ (n : ℕ). room_for l.header l.width l.most n) e

  pub room_most : (cells : List ℤ) → room_of l cells ≤ l.most
  unfolding room_of room_for
  room_most cells = min-le_left l.most ((length cells - l.header) / l.width)

  pub length-rows_of : (cells : List ℤ) → length (rows_of l cells) ≡ nat_abs (count_of cells)
  unfolding rows_of
  length-rows_of cells = length-decode l.get l.width (nat_abs (count_of cells)) l.header cells

  -- The rows, by the count and by their number.
  pub rows_of-count : (cells : List ℤ) → rows_of l cells ≡ decode l.get l.width (nat_abs (count_of cells)) l.header cells
  unfolding rows_of
  rows_of-count cells = refl

  pub rows_of-decode : (cells : List ℤ) → rows_of l cells ≡ decode l.get l.width (length (rows_of l cells)) l.header cells
  rows_of-decode cells = rows_of-count cells ∙ ap (λ (n : ℕ). decode l.get l.width n l.header cells) (sym (length-rows_of cells))

module _ {Row : Type 0} (l : Layout Row) (lawful : Lawful l) where
  -- So many rows within the room lie within the cells, and the other way round.
  pub fits-cells : (cells : List ℤ) (n : ℕ) → l.header ≤ length cells → n ≤ room_of l cells → start_of l n ≤ length cells
  unfolding room_of room_for
  fits-cells cells n h room =
      let u : n ≤ (length cells - l.header) / l.width = le_trans room (min-le_right l.most ((length cells - l.header) / l.width)) in
      let v : n * l.width ≤ length cells - l.header = (le-div_iff_mul-le lawful.wide).0 u in
      omega arith

  pub cells_fit : (cells : List ℤ) (n : ℕ) → n ≤ l.most → start_of l n ≤ length cells → n ≤ room_of l cells
  unfolding room_of room_for
  cells_fit cells n most h =
      let v : n * l.width ≤ length cells - l.header = omega arith in
      le-min most ((le-div_iff_mul-le lawful.wide).1 v)

  -- A count within the room is sound.
  pub count-sound : (cells : List ℤ) (n : ℕ) → l.header ≤ length cells → count_of cells ≡ pos n → n ≤ room_of l cells → count_is_sound l cells ≡ true
  unfolding count_is_sound
  count-sound cells n h e room =
      and_intro (le-leb l.header (length cells) h)
      (rw e (pos-within n (room_of l cells) room))

  -- What a sound count says.
  module _ (cells : List ℤ) (sound : count_is_sound l cells ≡ true) where
    pub sound-header : l.header ≤ length cells
    unfolding count_is_sound
    sound-header = leb-true l.header (length cells) (and_left (leb l.header (length cells)) (in_range (pos 0) (pos (room_of l cells)) (count_of cells)) sound)

    range : in_range (pos 0) (pos (room_of l cells)) (count_of cells) ≡ true
    unfolding count_is_sound
    range = and_right (leb l.header (length cells)) (in_range (pos 0) (pos (room_of l cells)) (count_of cells)) sound

    pub sound-count : count_of cells ≡ pos (length (rows_of l cells))
    sound-count = (within (count_of cells) (room_of l cells) range).0 ∙ ap pos (sym (length-rows_of l cells))

    pub sound-rows-fit : length (rows_of l cells) ≤ room_of l cells
    sound-rows-fit = rw (length-rows_of l cells) (within (count_of cells) (room_of l cells) range).1

    pub sound-rows-cells : start_of l (length (rows_of l cells)) ≤ length cells
    sound-rows-cells = fits-cells cells (length (rows_of l cells)) sound-header sound-rows-fit
