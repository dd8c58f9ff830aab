-- Rows read from cells: how many they are, the first of them, and the rows read as two runs. Nothing is asked of how one row is read.
-- Each by recursion on the number of rows. Assumes nothing.
use Prim.Native.Nat.{ℕ, zero, suc, ◌+◌, ◌-◌, ◌*◌, ◌≤◌, ◌<◌}
use native.Mathlib.Nat.{zero-add, suc-add, add-zero, zero-mul, suc-mul, le_of_suc-le-suc}
use native.Mathlib.Omega.{arith}
use mathlib.Core.Path.{◌≡◌, refl, ap, ◌∙◌}
use mathlib.Core.List.{List, [], ◌∷◌, ◌++◌}
use lib.IntN.{ℤ}
use lib.ListN.{length, take, drop, get_or}
use lib.Seq.{take_at, drop_at}
use Rattle.rules.specs.Layout.{decode}

module _ {Row : Type 0} (get : List ℤ → ℕ → Row) (width : ℕ) where
  pub length-decode : (n at : ℕ) (xs : List ℤ) → length (decode get width n at xs) ≡ n
  length-decode zero at xs = refl
  length-decode (suc n) at xs = ap suc (length-decode n (at + width) xs)

  -- The first row, and the rest.
  pub decode-step : (n at : ℕ) (xs : List ℤ) → 0 < n → decode get width n at xs ≡ get xs at ∷ decode get width (n - 1) (at + width) xs
  decode-step zero at xs h = absurd (omega arith)
  decode-step (suc n) at xs h =
      let e : n ≡ suc n - 1 = omega arith in
      ap (λ (m : ℕ). get xs at ∷ decode get width m (at + width) xs) e

  -- The first k rows, and the m after them.
  pub decode-add : (k m at : ℕ) (xs : List ℤ) → decode get width (k + m) at xs ≡ decode get width k at xs ++ decode get width m (at + k * width) xs
  decode-add zero m at xs = rw (zero-add, zero-mul, add-zero)
  decode-add (suc k) m at xs =
      let e : (at + width) + k * width ≡ at + suc k * width = omega (arith, suc-mul k width) in
      ap (λ (j : ℕ). decode get width j at xs) (suc-add k m)
      ∙ ap (λ (rows : List Row). get xs at ∷ rows) (decode-add k m (at + width) xs)
      ∙ ap (λ (j : ℕ). get xs at ∷ (decode get width k (at + width) xs ++ decode get width m j xs)) e

  -- The first k of n rows, and the rest.
  pub decode-split : (k n at : ℕ) (xs : List ℤ) → k ≤ n → decode get width n at xs ≡ decode get width k at xs ++ decode get width (n - k) (at + k * width) xs
  decode-split k n at xs h =
      let e : n ≡ k + (n - k) = omega arith in
      ap (λ (j : ℕ). decode get width j at xs) e ∙ decode-add k (n - k) at xs

  pub take-decode : (k n at : ℕ) (xs : List ℤ) → k ≤ n → take k (decode get width n at xs) ≡ decode get width k at xs
  take-decode k n at xs h =
      ap (λ (rows : List Row). take k rows) (decode-split k n at xs h)
      ∙ take_at (decode get width k at xs) (decode get width (n - k) (at + k * width) xs) k (length-decode k at xs)

  pub drop-decode : (k n at : ℕ) (xs : List ℤ) → k ≤ n → drop k (decode get width n at xs) ≡ decode get width (n - k) (at + k * width) xs
  drop-decode k n at xs h =
      ap (λ (rows : List Row). drop k rows) (decode-split k n at xs h)
      ∙ drop_at (decode get width k at xs) (decode get width (n - k) (at + k * width) xs) k (length-decode k at xs)

  -- The row at a place of the list.
  pub get_or-decode : (n at : ℕ) (xs : List ℤ) (i : ℕ) (other : Row) → i < n → get_or (decode get width n at xs) i other ≡ get xs (at + i * width)
  get_or-decode zero at xs i other h = absurd (omega arith)
  get_or-decode (suc n) at xs zero other h = rw (zero-mul, add-zero)
  get_or-decode (suc n) at xs (suc i) other h =
      let e : (at + width) + i * width ≡ at + suc i * width = omega (arith, suc-mul i width) in
      get_or-decode n (at + width) xs i other (le_of_suc-le-suc h) ∙ ap (λ (j : ℕ). get xs j) e

  -- The last row, and those before it.
  pub decode-last : (n at : ℕ) (xs : List ℤ) → decode get width (suc n) at xs ≡ decode get width n at xs ++ (get xs (at + n * width) ∷ [])
  decode-last n at xs =
      let e : suc n ≡ n + 1 = omega arith in
      ap (λ (j : ℕ). decode get width j at xs) e ∙ decode-add n 1 at xs
