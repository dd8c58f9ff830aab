-- A property of every row of a list, and of the first so many. By induction on the list. Assumes nothing.
use Prim.Native.Nat.{ℕ, zero, suc, ◌<◌}
use native.Mathlib.Omega.{arith}
use mathlib.Core.List.{List, [], ◌∷◌}
use lib.ListN.{length, get_or, take}

abbrev pub Each : {A : Type 0} → (A → Type 0) → List A → Type 0
Each P [] = Unit {0}
Each P (x ∷ rest) = P x × Each P rest

module _ {A : Type 0} (P : A → Type 0) where
  pub each_take : (xs : List A) (i : ℕ) → Each P xs → Each P (take i xs)
  each_take [] zero e = tt
  each_take [] (suc i) e = tt
  each_take (x ∷ rest) zero e = tt
  each_take (x ∷ rest) (suc i) e = (e.0, each_take rest i e.1)

  pub each_at : (xs : List A) (d : A) → ((i : ℕ) → i < length xs → P (get_or xs i d)) → Each P xs
  each_at [] d h = tt
  each_at (x ∷ rest) d h = (h 0 (omega arith), each_at rest d (λ i k. h (suc i) (omega arith)))

  pub at_each : (xs : List A) (d : A) → Each P xs → (i : ℕ) → i < length xs → P (get_or xs i d)
  at_each [] d e i h = absurd (omega arith)
  at_each (x ∷ rest) d e zero h = e.0
  at_each (x ∷ rest) d e (suc i) h = at_each rest d e.1 i (omega arith)
