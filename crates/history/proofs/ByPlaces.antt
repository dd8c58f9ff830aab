-- A reordering written as the list of old places, checked by computation: no place twice, each within the old list, as many as it has, and of two places whose items touch
-- the smaller first. Such a list gives a reordering. Assumes nothing.
use Prim.Native.Nat.{ℕ, zero, suc, ◌<◌}
use mathlib.Core.Path.{◌≡◌, refl, sym, ◌∙◌, ap, subst}
use mathlib.Core.Bool.{Bool, true, false, not, ◌&&◌, ◌||◌}
use mathlib.Core.List.{List, [], ◌∷◌, map}
use mathlib.Core.Logic.{◌⊎◌, inl, inr}
use mathlib.Core.Option.{Option, some}
use lib.Dec.{eqb, ltb}
use lib.ListN.{length, get_or, get_elem?, length-map, get_or-map}
use native.Mathlib.Omega.{arith}
use borrow.Author.Tests.{ltb-true, ltb-false, eqb-true, eqb-false, not-true}
use Rattle.rules.specs.Refusal.{all_of}
use Rattle.keys.proofs.Split.{split, clash, and_left, and_right, or_cases, some_inj}
use Rattle.keys.proofs.Clauses.{all_of-head, all_of-tail}
use Rattle.history.specs.History.{Reordering}
use Rattle.history.specs.ByPlaces.{each_two, may_stand, is_order, in_order}
use Rattle.history.proofs.Places.{within-list}

all-at : {A : Type 0} (p : A → Bool) (l : List A) (d : A) (i : ℕ) → all_of (map p l) ≡ true → i < length l → p (get_or l i d) ≡ true
all-at p [] d i h l = let z : ⊥ = omega arith in absurd z
all-at p (x ∷ rest) d zero h l = all_of-head (p x) (map p rest) h
all-at p (x ∷ rest) d (suc i) h l = all-at p rest d i (all_of-tail (p x) (map p rest) h) (omega arith)

two_at : {A : Type 0} (r : A → A → Bool) (l : List A) (d : A) (i j : ℕ) → each_two r l ≡ true → i < j → j < length l → r (get_or l i d) (get_or l j d) ≡ true
unfolding each_two
two_at r [] d i j h k l = let z : ⊥ = omega arith in absurd z
two_at r (x ∷ rest) d zero zero h k l = let z : ⊥ = omega arith in absurd z
two_at r (x ∷ rest) d zero (suc j) h k l = all-at (r x) rest d j (and_left (all_of (map (r x) rest)) (each_two r rest) h) (omega arith)
two_at r (x ∷ rest) d (suc i) zero h k l = let z : ⊥ = omega arith in absurd z
two_at r (x ∷ rest) d (suc i) (suc j) h k l = two_at r rest d i j (and_right (all_of (map (r x) rest)) (each_two r rest) h) (omega arith) (omega arith)

item_of : {A : Type 0} (l : List A) (d : A) (i : ℕ) → i < length l → get_elem? l i ≡ some (get_or l i d)
item_of [] d i h = let z : ⊥ = omega arith in absurd z
item_of (x ∷ rest) d zero h = refl
item_of (x ∷ rest) d (suc i) h = item_of rest d i (omega arith)

-- `other` stands for an item past the end; no place that is checked needs it.
module _ {Item : Type 0} (touches : Item → Item → Bool) (other : Item) (old : List Item) where
  pub by-places : (places : List ℕ) → is_order touches other old places ≡ true → Reordering touches old (in_order touches other old places)
  unfolding is_order may_stand
  by-places places h = record {
    size = size;
    from = from;
    within = λ j l. inside j (omega (arith, as_many));
    once = λ i j k l e. once i j (omega (arith, as_many)) (omega (arith, as_many)) e (split (ltb i j)) (split (ltb j i));
    same = λ j l. item j (omega (arith, as_many)) ∙ sym (item_of old other (from j) (inside j (omega (arith, as_many))));
    kept = λ i j x y l f g t.
        let b : j < length places = omega (arith, as_many, within-list (in_order touches other old places) j y g) in
        kept i j x y l b (some_inj (item i (omega arith)) f) (some_inj (item j b) g) t;
  }
    where
      from : ℕ → ℕ
      from j = get_or places j 0

      first : (eqb (length places) (length old) && all_of (map (λ (p : ℕ). ltb p (length old)) places)) ≡ true
      first = and_left (eqb (length places) (length old) && all_of (map (λ (p : ℕ). ltb p (length old)) places)) (each_two (may_stand touches other old) places) h

      pairs : each_two (may_stand touches other old) places ≡ true
      pairs = and_right (eqb (length places) (length old) && all_of (map (λ (p : ℕ). ltb p (length old)) places)) (each_two (may_stand touches other old) places) h

      count : length places ≡ length old
      count = eqb-true (length places) (length old) (and_left (eqb (length places) (length old)) (all_of (map (λ (p : ℕ). ltb p (length old)) places)) first)

      as_many : length (in_order touches other old places) ≡ length places
      as_many = length-map places (λ (p : ℕ). get_or old p other)

      size : length (in_order touches other old places) ≡ length old
      size = as_many ∙ count

      inside : (j : ℕ) → j < length places → from j < length old
      inside j l = ltb-true (from j) (length old) (all-at (λ (p : ℕ). ltb p (length old)) places 0 j (and_right (eqb (length places) (length old)) (all_of (map (λ (p : ℕ). ltb p (length old)) places)) first) l)

      apart : (i j : ℕ) → i < j → j < length places → from i ≡ from j → ⊥
      apart i j k l e =
          eqb-false (from i) (from j)
          (not-true (eqb (from i) (from j)) (and_left (not (eqb (from i) (from j))) (not (touches (get_or old (from i) other) (get_or old (from j) other)) || ltb (from i) (from j)) (two_at (may_stand touches other old) places 0 i j pairs k l))) e

      once : (i j : ℕ) → i < length places → j < length places → from i ≡ from j → (ltb i j ≡ true) ⊎ (ltb i j ≡ false) → (ltb j i ≡ true) ⊎ (ltb j i ≡ false) → i ≡ j
      once i j k l e (inl a) b = absurd (apart i j (ltb-true i j a) l e)
      once i j k l e (inr a) (inl b) = absurd (apart j i (ltb-true j i b) k (sym e))
      once i j k l e (inr a) (inr b) = omega (arith, ltb-false i j a, ltb-false j i b)

      item : (j : ℕ) → j < length places → get_elem? (in_order touches other old places) j ≡ some (get_or old (from j) other)
      item j l =
          item_of (in_order touches other old places) (get_or old 0 other) j (omega (arith, as_many))
          ∙ ap {B = Option Item} some (get_or-map (λ (p : ℕ). get_or old p other) places j 0)

      kept : (i j : ℕ) (x y : Item) → i < j → j < length places → get_or old (from i) other ≡ x → get_or old (from j) other ≡ y → touches x y ≡ true → from i < from j
      kept i j x y k l f g t =
          go (or_cases (not (touches (get_or old (from i) other) (get_or old (from j) other))) (ltb (from i) (from j))
          (and_right (not (eqb (from i) (from j))) (not (touches (get_or old (from i) other) (get_or old (from j) other)) || ltb (from i) (from j)) (two_at (may_stand touches other old) places 0 i j pairs k l)))
        where
          touching : touches (get_or old (from i) other) (get_or old (from j) other) ≡ true
          touching = subst (λ (u : Item). touches u (get_or old (from j) other) ≡ true) (sym f) (subst (λ (u : Item). touches x u ≡ true) (sym g) t)

          go : (not (touches (get_or old (from i) other) (get_or old (from j) other)) ≡ true) ⊎ (ltb (from i) (from j) ≡ true) → from i < from j
          go (inl n) = clash touching (not-true (touches (get_or old (from i) other) (get_or old (from j) other)) n)
          go (inr n) = ltb-true (from i) (from j) n
