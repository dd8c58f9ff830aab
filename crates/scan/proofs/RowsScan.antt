-- One pass over the rows of a table, over any layout with its key and the test of a row: whether the rows rise and each is sound, from the first row to the rest;
-- and what holds before each turn of the loop that tests them.
-- Assumes nothing.
use Prim.Native.Nat.{ℕ, ◌+◌, ◌-◌, ◌≤◌, ◌<◌}
use native.Mathlib.Nat.{add-mul, sub-zero}
use native.Mathlib.Omega.{arith}
use mathlib.Core.Path.{◌≡◌, refl, sym, ◌∙◌}
use mathlib.Core.Bool.{Bool, true, false, ◌&&◌}
use mathlib.Core.List.{List, [], ◌∷◌, map}
use lib.IntN.{ℤ}
use Rattle.rules.specs.Keyed.{Key, below, rising}
use Rattle.rules.specs.Refusal.{all_of}
use Rattle.rules.specs.Layout.{Layout, decode, start_of, row_at}
use Rattle.cells.proofs.Decode.{decode-step}
use Rattle.scan.specs.Scan.{rows_rise_sound}

false-last : (a : Bool) → (a && false) ≡ false
false-last true = refl
false-last false = refl

true-last : (a : Bool) → (a && true) ≡ a
true-last true = refl
true-last false = refl

module _ {Row : Type 0} (key : Row → Key) (sound_row : Row → Bool) where
  -- these rows rise, and each is sound
  abbrev rise_sound : List Row → Bool
  rise_sound rows = rising key rows && all_of (map sound_row rows)

  rows-unsound : (r : Row) (rest : List Row) → sound_row r ≡ false → rise_sound (r ∷ rest) ≡ false
  unfolding all_of
  rows-unsound r rest e = rw e (false-last (rising key (r ∷ rest)))

  rows-not-rising : (r s : Row) (rest : List Row) → below (key r) (key s) ≡ false → rise_sound (r ∷ s ∷ rest) ≡ false
  unfolding rising
  rows-not-rising r s rest e = rw e

  one-row : (r : Row) → rise_sound (r ∷ []) ≡ sound_row r
  unfolding rising all_of
  one-row r = true-last (sound_row r)

  first-row : (r s : Row) (rest : List Row) → sound_row r ≡ true → below (key r) (key s) ≡ true → rise_sound (r ∷ s ∷ rest) ≡ rise_sound (s ∷ rest)
  unfolding rising all_of
  first-row r s rest e b = rw (e, b)

  -- ---- read from cells: `left` rows, the first at cell `at`

  module _ (get : List ℤ → ℕ → Row) (width : ℕ) where
    abbrev rows_sound : ℕ → ℕ → List ℤ → Bool
    rows_sound left at cells = rise_sound (decode get width left at cells)

    no_row : (left at : ℕ) (cells : List ℤ) → left ≤ 0 → true ≡ rows_sound left at cells
    unfolding rising all_of
    no_row left at cells h =
        let e : left ≡ 0 = omega arith in
        rw e

    unsound-row : (left at : ℕ) (cells : List ℤ) → 0 < left → sound_row (get cells at) ≡ false → rows_sound left at cells ≡ false
    unsound-row left at cells h e = rw (decode-step get width left at cells h) (rows-unsound _ _ e)

    not-rising-row : (left at : ℕ) (cells : List ℤ) → 1 < left → below (key (get cells at)) (key (get cells (at + width))) ≡ false → rows_sound left at cells ≡ false
    not-rising-row left at cells h e =
        rw (decode-step get width left at cells (omega arith)) (rw (decode-step get width (left - 1) (at + width) cells (omega arith)) (rows-not-rising _ _ _ e))

    next_row : (left at : ℕ) (cells : List ℤ) → 1 < left → sound_row (get cells at) ≡ true
        → below (key (get cells at)) (key (get cells (at + width))) ≡ true
        → rows_sound left at cells ≡ rows_sound (left - 1) (at + width) cells
    next_row left at cells h e b =
        rw (decode-step get width left at cells (omega arith), decode-step get width (left - 1) (at + width) cells (omega arith)) (first-row _ _ _ e b)

    last_row : (left at : ℕ) (cells : List ℤ) → left ≡ 1 → rows_sound left at cells ≡ sound_row (get cells at)
    last_row left at cells e = rw e (one-row (get cells at))

-- ---- the loop over the rows of a layout

-- The rows before this one rise and are sound, and it comes after them: the answer on the rows from it on is the answer on all of them.
pub record RowsPassed {Row : Type 0} (l : Layout Row) (key : Row → Key) (sound_row : Row → Bool) (cells : List ℤ) (count row : ℕ) : Type 0 where
  pub answer : rows_sound key sound_row l.get l.width (count - row) (start_of l row) cells ≡ rows_rise_sound l key sound_row count cells

module _ {Row : Type 0} {l : Layout Row} {key : Row → Key} {sound_row : Row → Bool} {cells : List ℤ} {count : ℕ} where
  pub none_passed : RowsPassed l key sound_row cells count 0
  none_passed =
      let first : start_of l 0 ≡ l.header = omega arith in
      record { answer = rw (sub-zero, first) refl }

  module _ {row : ℕ} (passed : RowsPassed l key sound_row cells count row) where
    -- there is none
    pub all_passed : count ≤ row → true ≡ rows_rise_sound l key sound_row count cells
    all_passed h = no_row key sound_row l.get l.width (count - row) (start_of l row) cells (omega arith) ∙ passed.answer

    -- it is sound, and the last
    pub last_passes : count ≡ row + 1 → sound_row (row_at l cells row) ≡ true → true ≡ rows_rise_sound l key sound_row count cells
    last_passes h e = sym (last_row key sound_row l.get l.width (count - row) (start_of l row) cells (omega arith) ∙ e) ∙ passed.answer

    -- it is not sound
    pub row-fails : row < count → sound_row (row_at l cells row) ≡ false → false ≡ rows_rise_sound l key sound_row count cells
    row-fails h e = sym (unsound-row key sound_row l.get l.width (count - row) (start_of l row) cells (omega arith) e) ∙ passed.answer

    next : start_of l row + l.width ≡ start_of l (row + 1)
    next = omega (arith, add-mul row 1 l.width)

    -- it does not come before the next one
    pub not-rising : row + 1 < count → below (key (row_at l cells row)) (key (row_at l cells (row + 1))) ≡ false → false ≡ rows_rise_sound l key sound_row count cells
    not-rising h e = sym (not-rising-row key sound_row l.get l.width (count - row) (start_of l row) cells (omega arith) (rw next e)) ∙ passed.answer

    -- it is sound, and comes before the next one
    pub row-passes : row + 1 < count → sound_row (row_at l cells row) ≡ true → below (key (row_at l cells row)) (key (row_at l cells (row + 1))) ≡ true
        → RowsPassed l key sound_row cells count (row + 1)
    row-passes h e b =
        let left : count - row - 1 ≡ count - (row + 1) = omega arith in
        record {
          answer = rw (← left, ← next) (sym (next_row key sound_row l.get l.width (count - row) (start_of l row) cells (omega arith) e (rw next b)) ∙ passed.answer);
        }
