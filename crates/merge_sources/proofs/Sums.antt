-- Sums over a list, read from the front: the sum of the first i rows and one more. The two sums of a merge are such sums. By induction on the list.
-- Assumes nothing.
use Prim.Native.Nat.{ℕ, zero, suc, ◌+◌, ◌≤◌, ◌<◌}
use native.Mathlib.Numerals.{add-one}
use native.Mathlib.Omega.{arith}
use mathlib.Core.Path.{◌≡◌, refl, sym, ◌∙◌, ap}
use mathlib.Core.List.{List, [], ◌∷◌}
use lib.IntN.{ℤ, pos, ◌+ℤ◌, ◌*ℤ◌}
use lib.ListN.{length, get_or, take}
use lib.Seq.{take_all}
use Rattle.integers.proofs.Linear.{zarith, +-lin}
use Rattle.rules.specs.Merge.{sum_of_quantities, sum_of_values}
use Rattle.rules.specs.declared.Record.{Record}

module _ {A : Type 0} (f : A → ℤ) where
  unfoldable pub sum_over : List A → ℤ
  sum_over [] = pos 0
  sum_over (x ∷ rest) = f x +ℤ sum_over rest

  pub sum-nil : sum_over [] ≡ pos 0
  unfolding sum_over
  sum-nil = refl

  pub sum-cons : (x : A) (rest : List A) → sum_over (x ∷ rest) ≡ f x +ℤ sum_over rest
  unfolding sum_over
  sum-cons x rest = refl

  pub sum-at-first : (xs : List A) → sum_over (take 0 xs) ≡ pos 0
  sum-at-first xs = sum-nil

  one_more : (xs : List A) (i : ℕ) (d : A) → i < length xs → sum_over (take (suc i) xs) ≡ sum_over (take i xs) +ℤ f (get_or xs i d)
  one_more [] i d h = absurd (omega arith)
  one_more (x ∷ rest) zero d h =
      let z : ℤ = f x in
      simp (sum-cons, sum-nil) (omega (zarith, +-lin z (pos 0), +-lin (pos 0) z))
  one_more (x ∷ rest) (suc i) d h =
      let z : ℤ = f x in
      let s : ℤ = sum_over (take i rest) in
      let y : ℤ = f (get_or rest i d) in
      let again : sum_over (take (suc i) rest) ≡ s +ℤ y = one_more rest i d (omega arith) in
      sum-cons x (take (suc i) rest) ∙ ap (λ (t : ℤ). z +ℤ t) again
      ∙ omega (zarith, +-lin z (s +ℤ y), +-lin s y, +-lin (z +ℤ s) y, +-lin z s)
      ∙ ap (λ (t : ℤ). t +ℤ y) (sym (sum-cons x (take i rest)))

  pub sum-next : (xs : List A) (i : ℕ) (d : A) → i < length xs → sum_over (take (i + 1) xs) ≡ sum_over (take i xs) +ℤ f (get_or xs i d)
  sum-next xs i d h = ap (λ (n : ℕ). sum_over (take n xs)) (add-one i) ∙ one_more xs i d h

  pub sum-at-last : (xs : List A) (i : ℕ) → length xs ≤ i → sum_over (take i xs) ≡ sum_over xs
  sum-at-last xs i h = ap sum_over (take_all i xs h)

-- Q and V.
abbrev pub quantity_of : Record → ℤ
quantity_of r = r.quantity

abbrev pub value_of : Record → ℤ
value_of r = r.quantity *ℤ r.price

pub quantities-sum : (rs : List Record) → sum_of_quantities rs ≡ sum_over quantity_of rs
unfolding sum_of_quantities sum_over
quantities-sum [] = refl
quantities-sum (r ∷ rest) = ap (λ (z : ℤ). r.quantity +ℤ z) (quantities-sum rest)

pub values-sum : (rs : List Record) → sum_of_values rs ≡ sum_over value_of rs
unfolding sum_of_values sum_over
values-sum [] = refl
values-sum (r ∷ rest) = ap (λ (z : ℤ). (r.quantity *ℤ r.price) +ℤ z) (values-sum rest)
