-- A list as what stands before a part of it, the part, and what stands after. Assumes nothing.
use Prim.Native.Nat.{ℕ, suc, ◌+◌, ◌-◌, ◌≤◌, ◌<◌}
use native.Mathlib.Omega.{arith}
use mathlib.Core.Path.{◌≡◌, sym, ap, ◌∙◌}
use mathlib.Core.List.{List, ◌∷◌, ◌++◌}
use lib.ListN.{length, take, drop, length-append, length-take, length-drop, take-append-drop}
use lib.Seq.{drop-drop, drop-append-add, length-take-le}

module _ {ℓ} {A : Type ℓ} where
  -- n cells from a place on, with what is around them.
  pub around : (xs : List A) (at n : ℕ) → take at xs ++ (take n (drop at xs) ++ drop (at + n) xs) ≡ xs
  around xs at n =
      ap (λ (ys : List A). take at xs ++ (take n (drop at xs) ++ ys)) (sym (drop-drop n at xs))
      ∙ ap (λ (ys : List A). take at xs ++ ys) (take-append-drop n (drop at xs))
      ∙ take-append-drop at xs

  -- n cells from a place on are n, where the list reaches so far.
  pub length_part : (xs : List A) (at n : ℕ) → at + n ≤ length xs → length (take n (drop at xs)) ≡ n
  length_part xs at n h = simp (length-take, length-drop) (omega arith)

  -- Past the end of a first list, what is dropped of the second.
  pub drop_past : (xs ys : List A) (n m : ℕ) → length xs ≡ n → n ≤ m → drop m (xs ++ ys) ≡ drop (m - n) ys
  drop_past xs ys n m e h =
      let u : m ≡ length xs + (m - n) = omega arith in
      ap (λ (j : ℕ). drop j (xs ++ ys)) u ∙ drop-append-add xs ys (m - n)

  -- The length after one item goes in the place of another.
  pub length-replaced : (rows : List A) (k : ℕ) (new : A) → k < length rows → length (take k rows ++ (new ∷ drop (suc k) rows)) ≡ length rows
  length-replaced rows k new h =
      length-append (take k rows) (new ∷ drop (suc k) rows) ∙ omega (arith, length-take-le k rows (omega arith), length-drop (suc k) rows)
