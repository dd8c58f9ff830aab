-- Items that stand in a list, by their places: in a list with one more, in a mapped one, and in one that rises by a key, where what a key finds stands, what stands is found, a key has one place, and the
-- items alone tell the list. By induction on the list. Assumes nothing.
use Prim.Native.Nat.{ℕ, zero, suc}
use mathlib.Core.Path.{◌≡◌, refl, sym, ◌∙◌, ap, ap₂, subst}
use mathlib.Core.Bool.{Bool, true, false}
use mathlib.Core.List.{List, [], ◌∷◌, map}
use mathlib.Core.Logic.{◌⊎◌, inl, inr}
use mathlib.Core.Option.{some}
use lib.ListN.{get_elem?}
use Rattle.rules.specs.Keyed.{Key, below, same, rising, find}
use Rattle.rules.specs.Refusal.{any_of}
use Rattle.keys.proofs.Split.{split, clash, or-false, none-some, some_inj}
use Rattle.keys.proofs.KeyOrder.{same_refl, below_irrefl, below-not-same, below-trans, Way, lower, level, upper, way}
use Rattle.keys.proofs.Clauses.{below_all, find-nil, find-here, find-there}
use Rattle.keys.proofs.Rising.{below_all-head, below_all-tail, rising-head, rising-tail}
use Rattle.soundness.proofs.Accepted.{any_of-head, any_of-tail}
use Rattle.reporting.specs.Reported.{Stands}

module _ {Item : Type 0} where
  pub stands-first : (x : Item) (rest : List Item) → Stands (x ∷ rest) x
  stands-first x rest = record { place = 0; there = refl }

  pub stands-later : (y x : Item) (rest : List Item) → Stands rest x → Stands (y ∷ rest) x
  stands-later y x rest s = record { place = suc s.place; there = s.there }

  pub first-or-later : (y x : Item) (rest : List Item) → Stands (y ∷ rest) x → (y ≡ x) ⊎ (Stands rest x)
  first-or-later y x rest s = go s.place s.there
    where
      go : (place : ℕ) → get_elem? (y ∷ rest) place ≡ some x → (y ≡ x) ⊎ (Stands rest x)
      go zero e = inl (some_inj refl e)
      go (suc place) e = inr (record { place = place; there = e })

  pub none-stands : {X : Type 0} (x : Item) → Stands [] x → X
  none-stands x s = none-some refl s.there

-- ---- mapped

module _ {A B : Type 0} (f : A → B) where
  pub mapped : (xs : List A) (x : A) → Stands xs x → Stands (map f xs) (f x)
  mapped [] x s = none-stands x s
  mapped (y ∷ rest) x s = go (mapped rest x) (first-or-later y x rest s)
    where
      go : (Stands rest x → Stands (map f rest) (f x)) → (y ≡ x) ⊎ (Stands rest x) → Stands (map f (y ∷ rest)) (f x)
      go again (inl e) = subst (λ (b : B). Stands (f y ∷ map f rest) b) (ap f e) (stands-first (f y) (map f rest))
      go again (inr l) = stands-later (f y) (f x) (map f rest) (again l)

  pub from-mapped : (xs : List A) (b : B) → Stands (map f xs) b → (x : A) × (Stands xs x) × (f x ≡ b)
  from-mapped [] b s = none-stands b s
  from-mapped (y ∷ rest) b s = go (from-mapped rest b) (first-or-later (f y) b (map f rest) s)
    where
      go : (Stands (map f rest) b → (x : A) × (Stands rest x) × (f x ≡ b)) → (f y ≡ b) ⊎ (Stands (map f rest) b) → (x : A) × (Stands (y ∷ rest) x) × (f x ≡ b)
      go again (inl e) = (y, stands-first y rest, e)
      go again (inr l) = let w : (x : A) × (Stands rest x) × (f x ≡ b) = again l in (w.0, stands-later y w.0 rest w.1, w.2)

-- ---- rows with a key

module _ {Row : Type 0} (key : Row → Key) where
  pub below-standing : (k : Key) (rows : List Row) (r : Row) → below_all key k rows ≡ true → Stands rows r → below k (key r) ≡ true
  below-standing k [] r h s = none-stands r s
  below-standing k (x ∷ rest) r h s = go (below-standing k rest r (below_all-tail key k x rest h)) (first-or-later x r rest s)
    where
      go : (Stands rest r → below k (key r) ≡ true) → (x ≡ r) ⊎ (Stands rest r) → below k (key r) ≡ true
      go again (inl e) = subst (λ (y : Row). below k (key y) ≡ true) e (below_all-head key k x rest h)
      go again (inr l) = again l

  pub found-stands : (k : Key) (rows : List Row) (r : Row) → find key k rows ≡ some r → Stands rows r
  found-stands k [] r h = none-some (find-nil key k) h
  found-stands k (x ∷ rest) r h = go (found-stands k rest r) (split (same (key x) k))
    where
      go : (find key k rest ≡ some r → Stands rest r) → (same (key x) k ≡ true) ⊎ (same (key x) k ≡ false) → Stands (x ∷ rest) r
      go again (inl s) = subst (λ (y : Row). Stands (x ∷ rest) y) (some_inj (find-here key k x rest s) h) (stands-first x rest)
      go again (inr s) = stands-later x r rest (again (sym (find-there key k x rest s) ∙ h))

  pub stands-found : (rows : List Row) (r : Row) → rising key rows ≡ true → Stands rows r → find key (key r) rows ≡ some r
  stands-found [] r h s = none-stands r s
  stands-found (x ∷ rest) r h s = go (stands-found rest r (rising-tail key x rest h)) (first-or-later x r rest s)
    where
      go : (Stands rest r → find key (key r) rest ≡ some r) → (x ≡ r) ⊎ (Stands rest r) → find key (key r) (x ∷ rest) ≡ some r
      go again (inl e) = subst (λ (y : Row). find key (key y) (x ∷ rest) ≡ some y) e (find-here key (key x) x rest (same_refl (key x)))
      go again (inr l) = find-there key (key r) x rest (below-not-same (key x) (key r) (below-standing (key x) rest r (rising-head key x rest h) l)) ∙ again l

  -- The first row does not stand again.
  later-not-first : {X : Type 0} (x : Row) (rest : List Row) (r : Row) → rising key (x ∷ rest) ≡ true → x ≡ r → Stands rest r → X
  later-not-first x rest r h e s =
      clash (below-standing (key x) rest r (rising-head key x rest h) s) (subst (λ (y : Row). below (key x) (key y) ≡ false) e (below_irrefl (key x)))

  -- A key has one place.
  pub one_place : (rows : List Row) (i j : ℕ) (r : Row) → rising key rows ≡ true → get_elem? rows i ≡ some r → get_elem? rows j ≡ some r → i ≡ j
  one_place [] i j r h e f = none-some refl e
  one_place (x ∷ rest) zero zero r h e f = refl
  one_place (x ∷ rest) zero (suc j) r h e f = later-not-first x rest r h (some_inj refl e) (record { place = j; there = f })
  one_place (x ∷ rest) (suc i) zero r h e f = later-not-first x rest r h (some_inj refl f) (record { place = i; there = e })
  one_place (x ∷ rest) (suc i) (suc j) r h e f = ap suc (one_place rest i j r (rising-tail key x rest h) e f)

-- ---- keys that rise are told by which they are

abbrev own : Key → Key
own k = k

-- A key of a rising list is its first or comes after it.
not-below-first : {X : Type 0} (k x : Key) (rest : List Key) → rising own (x ∷ rest) ≡ true → below k x ≡ true → Stands (x ∷ rest) k → X
not-below-first {X} k x rest h b s = go (first-or-later x k rest s)
  where
    go : (x ≡ k) ⊎ (Stands rest k) → X
    go (inl e) = clash b (subst (λ (y : Key). below y x ≡ false) e (below_irrefl x))
    go (inr l) = clash (below-trans k x k b (below-standing own x rest k (rising-head own x rest h) l)) (below_irrefl k)

same_first : (x y : Key) (xs ys : List Key) → rising own (x ∷ xs) ≡ true → rising own (y ∷ ys) ≡ true → Stands (y ∷ ys) x → Stands (x ∷ xs) y → x ≡ y
same_first x y xs ys h k s t = go (way x y)
  where
    go : Way x y → x ≡ y
    go (lower b _ _) = not-below-first x y ys k b s
    go (level e _ _ _) = e
    go (upper b _ _) = not-below-first y x xs h b t

-- What stands after the first, where the other list has the same first.
still-later : (x y : Key) (xs ys : List Key) → rising own (x ∷ xs) ≡ true → x ≡ y → ((k : Key) → Stands (x ∷ xs) k → Stands (y ∷ ys) k) → (k : Key) → Stands xs k → Stands ys k
still-later x y xs ys h e all k s = go (first-or-later y k ys (all k (stands-later x k xs s)))
  where
    go : (y ≡ k) ⊎ (Stands ys k) → Stands ys k
    go (inl f) = later-not-first own x xs k h (e ∙ f) s
    go (inr l) = l

pub told-by-items : (xs ys : List Key) → rising own xs ≡ true → rising own ys ≡ true → ((k : Key) → Stands xs k → Stands ys k) → ((k : Key) → Stands ys k → Stands xs k) → xs ≡ ys
told-by-items [] [] h k there back = refl
told-by-items [] (y ∷ ys) h k there back = none-stands y (back y (stands-first y ys))
told-by-items (x ∷ xs) [] h k there back = none-stands x (there x (stands-first x xs))
told-by-items (x ∷ xs) (y ∷ ys) h k there back =
    let e : x ≡ y = same_first x y xs ys h k (there x (stands-first x xs)) (back y (stands-first y ys)) in
    ap₂ (λ (z : Key) (l : List Key). z ∷ l) e
    (told-by-items xs ys (rising-tail own x xs h) (rising-tail own y ys k) (still-later x y xs ys h e there) (still-later y x ys xs k (sym e) back))

-- ---- a test of each item

pub any-passes : {Item : Type 0} (p : Item → Bool) (items : List Item) (x : Item) → any_of (map p items) ≡ false → Stands items x → p x ≡ false
any-passes p [] x h s = none-stands x s
any-passes p (y ∷ rest) x h s = go (any-passes p rest x (any_of-tail (p y) (map p rest) h)) (first-or-later y x rest s)
  where
    go : (Stands rest x → p x ≡ false) → (y ≡ x) ⊎ (Stands rest x) → p x ≡ false
    go again (inl e) = ap p (sym e) ∙ any_of-head (p y) (map p rest) h
    go again (inr l) = again l

pub passes-any : {Item : Type 0} (p : Item → Bool) (items : List Item) → ((x : Item) → Stands items x → p x ≡ false) → any_of (map p items) ≡ false
unfolding any_of
passes-any p [] h = refl
passes-any p (y ∷ rest) h = or-false (h y (stands-first y rest)) (passes-any p rest (λ x s. h x (stands-later y x rest s)))
