-- Lists in which each element is made from one of a list and from what stood earlier in it, the nearest first: its element at a place. By induction on
-- the list. Assumes nothing.
use Prim.Native.Nat.{ℕ, zero, suc, ◌<◌}
use native.Mathlib.Omega.{arith}
use mathlib.Core.Path.{◌≡◌, refl, sym, ◌∙◌, ap}
use mathlib.Core.List.{List, [], ◌∷◌}
use lib.ListN.{length, get_or}

module _ {A B E : Type 0} (make : List E → A → B) (kept : A → E) where
  abbrev pub threaded : List E → List A → List B
  threaded earlier [] = []
  threaded earlier (x ∷ rest) = make earlier x ∷ threaded (kept x ∷ earlier) rest

  pub length-threaded : (earlier : List E) (xs : List A) → length (threaded earlier xs) ≡ length xs
  length-threaded earlier [] = refl
  length-threaded earlier (x ∷ rest) = ap suc (length-threaded (kept x ∷ earlier) rest)

  -- What stood before each place is given, place by place.
  pub threaded-at : (xs : List A) (before : ℕ → List E) (i : ℕ) (a : A) (b : B) →
      ((j : ℕ) → j < length xs → before (suc j) ≡ kept (get_or xs j a) ∷ before j) →
      i < length xs → get_or (threaded (before 0) xs) i b ≡ make (before i) (get_or xs i a)
  threaded-at [] before i a b step h = absurd (omega arith)
  threaded-at (x ∷ rest) before zero a b step h = refl
  threaded-at (x ∷ rest) before (suc i) a b step h =
      ap (λ (l : List E). get_or (threaded l rest) i b) (sym (step 0 (omega arith)))
      ∙ threaded-at rest (λ (n : ℕ). before (suc n)) i a b (λ j k. step (suc j) (omega arith)) (omega arith)
