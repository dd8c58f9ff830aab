-- Places in a list when one item is taken out, and: a map of the first n places into themselves that takes no two to one place reaches every place.
-- By induction. Assumes nothing.
use Prim.Native.Nat.{ℕ, zero, suc, pred, ◌<◌, ◌≤◌}
use mathlib.Core.Path.{◌≡◌, refl, sym, ◌∙◌, ap}
use mathlib.Core.Bool.{true, false, cond}
use mathlib.Core.List.{List, [], ◌∷◌}
use mathlib.Core.Logic.{◌⊎◌, inl, inr}
use mathlib.Core.Option.{some, none-ne-some}
use lib.Dec.{ltb, eqb}
use lib.ListN.{length, get_elem?}
use native.Mathlib.Omega.{arith}
use borrow.Author.Tests.{ltb-true, ltb-false, eqb-true, eqb-false}
use Rattle.keys.proofs.Split.{split, cond-true, cond-false}

-- The place of an item after the item at place p is taken out.
unfoldable pub closer : ℕ → ℕ → ℕ
closer p x = cond (ltb x p) x (pred x)

-- Another place lies before p or past it.
pub data Side (p x : ℕ) : Type 0 where
  before : x < p → closer p x ≡ x → Side p x
  past : p < x → closer p x ≡ pred x → Side p x

pub side : (p x : ℕ) → (x ≡ p → ⊥) → Side p x
unfolding closer
side p x d = go (split (ltb x p))
  where
    go : (ltb x p ≡ true) ⊎ (ltb x p ≡ false) → Side p x
    go (inl h) = before (ltb-true x p h) (cond-true x (pred x) h)
    go (inr h) = past (let l : p ≤ x = ltb-false x p h in omega arith) (cond-false x (pred x) h)

pub closer-within : (p x n : ℕ) → (x ≡ p → ⊥) → x < suc n → p < suc n → closer p x < n
closer-within p x n d h k = go (side p x d)
  where
    go : Side p x → closer p x < n
    go (before l e) = omega arith
    go (past l e) = omega arith

pub closer-once : (p x y : ℕ) → (x ≡ p → ⊥) → (y ≡ p → ⊥) → closer p x ≡ closer p y → x ≡ y
closer-once p x y d w h = go (side p x d) (side p y w)
  where
    go : Side p x → Side p y → x ≡ y
    go (before l e) (before m f) = omega arith
    go (before l e) (past m f) = omega arith
    go (past l e) (before m f) = omega arith
    go (past l e) (past m f) = omega arith

pub closer-order : (p x y : ℕ) → (x ≡ p → ⊥) → (y ≡ p → ⊥) → x < y → closer p x < closer p y
closer-order p x y d w h = go (side p x d) (side p y w)
  where
    go : Side p x → Side p y → closer p x < closer p y
    go (before l e) (before m f) = omega arith
    go (before l e) (past m f) = omega arith
    go (past l e) (before m f) = omega arith
    go (past l e) (past m f) = omega arith

-- Every place is reached.
pub reached : (n : ℕ) (f : ℕ → ℕ) → ((j : ℕ) → j < n → f j < n) → ((i j : ℕ) → i < n → j < n → f i ≡ f j → i ≡ j) →
    (q : ℕ) → q < n → (j : ℕ) × (j < n) × (f j ≡ q)
reached zero f w o q h = let z : ⊥ = omega arith in absurd z
reached (suc n) f w o q h = go (reached n g inside apart) (split (eqb (f 0) q))
  where
    other : (j : ℕ) → j < n → f (suc j) ≡ f 0 → ⊥
    other j l e = let z : suc j ≡ 0 = o (suc j) 0 (omega arith) (omega arith) e in omega arith

    g : ℕ → ℕ
    g j = closer (f 0) (f (suc j))

    inside : (j : ℕ) → j < n → g j < n
    inside j l = closer-within (f 0) (f (suc j)) n (other j l) (w (suc j) (omega arith)) (w 0 (omega arith))

    apart : (i j : ℕ) → i < n → j < n → g i ≡ g j → i ≡ j
    apart i j k l e =
        let z : suc i ≡ suc j = o (suc i) (suc j) (omega arith) (omega arith) (closer-once (f 0) (f (suc i)) (f (suc j)) (other i k) (other j l) e) in
        omega arith

    go : ((k : ℕ) → k < n → (j : ℕ) × (j < n) × (g j ≡ k)) → (eqb (f 0) q ≡ true) ⊎ (eqb (f 0) q ≡ false) → (j : ℕ) × (j < suc n) × (f j ≡ q)
    go again (inl e) = (0, omega arith, eqb-true (f 0) q e)
    go again (inr e) =
        let d : q ≡ f 0 → ⊥ = λ z. eqb-false (f 0) q e (sym z) in
        let r : (j : ℕ) × (j < n) × (g j ≡ closer (f 0) q) = again (closer (f 0) q) (closer-within (f 0) q n d h (w 0 (omega arith))) in
        (suc r.0, omega (arith, r.1), closer-once (f 0) (f (suc r.0)) q (other r.0 r.1) d r.2)

module _ {Item : Type 0} where
  -- A list with the item at a place taken out.
  unfoldable pub without : ℕ → List Item → List Item
  without p [] = []
  without zero (x ∷ rest) = rest
  without (suc p) (x ∷ rest) = x ∷ without p rest

  pub length_without : (p : ℕ) (l : List Item) → p < length l → suc (length (without p l)) ≡ length l
  unfolding without
  length_without p [] h = let z : ⊥ = omega arith in absurd z
  length_without zero (x ∷ rest) h = refl
  length_without (suc p) (x ∷ rest) h = ap suc (length_without p rest (omega arith))

  before-without : (p x : ℕ) (l : List Item) → x < p → get_elem? (without p l) x ≡ get_elem? l x
  unfolding without
  before-without p x [] h = refl
  before-without zero x (y ∷ rest) h = let z : ⊥ = omega arith in absurd z
  before-without (suc p) zero (y ∷ rest) h = refl
  before-without (suc p) (suc x) (y ∷ rest) h = before-without p x rest (omega arith)

  past-without : (p x : ℕ) (l : List Item) → p ≤ x → get_elem? (without p l) x ≡ get_elem? l (suc x)
  unfolding without
  past-without p x [] h = refl
  past-without zero x (y ∷ rest) h = refl
  past-without (suc p) zero (y ∷ rest) h = let z : ⊥ = omega arith in absurd z
  past-without (suc p) (suc x) (y ∷ rest) h = past-without p x rest (omega arith)

  pub at-without : (p x : ℕ) (l : List Item) → (x ≡ p → ⊥) → get_elem? (without p l) (closer p x) ≡ get_elem? l x
  at-without p x l d = go (side p x d)
    where
      go : Side p x → get_elem? (without p l) (closer p x) ≡ get_elem? l x
      go (before h e) = ap (λ (i : ℕ). get_elem? (without p l) i) e ∙ before-without p x l h
      go (past h e) =
          let s : suc (pred x) ≡ x = omega arith in
          ap (λ (i : ℕ). get_elem? (without p l) i) e ∙ past-without p (pred x) l (omega arith) ∙ ap (λ (i : ℕ). get_elem? l i) s

  -- A place within the list has an item.
  pub item-at : (l : List Item) (i : ℕ) → i < length l → (x : Item) × (get_elem? l i ≡ some x)
  item-at [] i h = let z : ⊥ = omega arith in absurd z
  item-at (x ∷ rest) zero h = (x, refl)
  item-at (x ∷ rest) (suc i) h = item-at rest i (omega arith)

  pub within-list : (l : List Item) (i : ℕ) (x : Item) → get_elem? l i ≡ some x → i < length l
  within-list [] i x h = absurd (none-ne-some x h)
  within-list (y ∷ rest) zero x h = omega arith
  within-list (y ∷ rest) (suc i) x h = omega (arith, within-list rest i x h)
