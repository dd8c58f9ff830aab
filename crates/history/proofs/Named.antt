-- Two requests that don't touch name no id and no position in common, neither touches everything, and the other way round; so touching is symmetric. By induction on what they name. Assumes nothing.
use mathlib.Core.Path.{◌≡◌, refl, sym, subst}
use mathlib.Core.Bool.{Bool, true, false, ◌||◌}
use mathlib.Core.List.{List, [], ◌∷◌}
use mathlib.Core.Logic.{◌⊎◌, inl, inr}
use lib.IntN.{ℤ}
use Rattle.integers.specs.Order.{eq_z}
use Rattle.rules.specs.Keyed.{Key, same}
use Rattle.rules.specs.Merge.{is_among}
use Rattle.rules.specs.Request.{Request}
use Rattle.rules.specs.Touching.{ids_of, positions_of, is_named_in, share_id, share_position, touches_all, touch}
use Rattle.keys.proofs.Split.{clash, is_false, is_true, both_ways, or-false, or_left, or_right, or_cases, or-false-left, or-false-right}
use Rattle.keys.proofs.Equal.{eq_z-refl, eq_z-true}
use Rattle.keys.proofs.KeyOrder.{same_refl, same-eq}

pub named_here : (id : ℤ) (rest : List ℤ) → is_named_in id (id ∷ rest) ≡ true
unfolding is_named_in
named_here id rest = or_left (is_named_in id rest) (eq_z-refl id)

pub named-later : (id e : ℤ) (rest : List ℤ) → is_named_in id rest ≡ true → is_named_in id (e ∷ rest) ≡ true
unfolding is_named_in
named-later id e rest h = or_right (eq_z id e) h

pub among-here : (k : Key) (rest : List Key) → is_among k (k ∷ rest) ≡ true
unfolding is_among
among-here k rest = or_left (is_among k rest) (same_refl k)

pub among_later : (k e : Key) (rest : List Key) → is_among k rest ≡ true → is_among k (e ∷ rest) ≡ true
unfolding is_among
among_later k e rest h = or_right (same k e) h

no-id-shared : (xs ys : List ℤ) → share_id xs ys ≡ false → (id : ℤ) → is_named_in id xs ≡ true → is_named_in id ys ≡ false
unfolding share_id is_named_in
no-id-shared [] ys h id n = clash refl (sym n)
no-id-shared (x ∷ rest) ys h id n = go (no-id-shared rest ys (or-false-right (is_named_in x ys) (share_id rest ys) h) id) (or_cases (eq_z id x) (is_named_in id rest) n)
  where
    go : (is_named_in id rest ≡ true → is_named_in id ys ≡ false) → (eq_z id x ≡ true) ⊎ (is_named_in id rest ≡ true) → is_named_in id ys ≡ false
    go again (inl e) = subst (λ (z : ℤ). is_named_in z ys ≡ false) (sym (eq_z-true id x e)) (or-false-left (is_named_in x ys) (share_id rest ys) h)
    go again (inr e) = again e

no-position-shared : (xs ys : List Key) → share_position xs ys ≡ false → (k : Key) → is_among k xs ≡ true → is_among k ys ≡ false
unfolding share_position is_among
no-position-shared [] ys h k n = clash refl (sym n)
no-position-shared (x ∷ rest) ys h k n =
    go (no-position-shared rest ys (or-false-right (is_among x ys) (share_position rest ys) h) k) (or_cases (same k x) (is_among k rest) n)
  where
    go : (is_among k rest ≡ true → is_among k ys ≡ false) → (same k x ≡ true) ⊎ (is_among k rest ≡ true) → is_among k ys ≡ false
    go again (inl e) = subst (λ (z : Key). is_among z ys ≡ false) (sym (same-eq k x e)) (or-false-left (is_among x ys) (share_position rest ys) h)
    go again (inr e) = again e

-- What one request names, the other does not; and neither touches everything.
pub record Apart (a b : Request) : Type 0 where
  pub ids : (id : ℤ) → is_named_in id (ids_of a) ≡ true → is_named_in id (ids_of b) ≡ false
  pub positions : (k : Key) → is_among k (positions_of a) ≡ true → is_among k (positions_of b) ≡ false
  pub first-not-all : touches_all a ≡ false
  pub second-not-all : touches_all b ≡ false

pub untouched-apart : (a b : Request) → touch a b ≡ false → Apart a b
unfolding touch
untouched-apart a b h =
    let i : Bool = share_id (ids_of a) (ids_of b) in
    let p : Bool = share_position (positions_of a) (positions_of b) in
    let not-all : (touches_all a || touches_all b) ≡ false = or-false-left (touches_all a || touches_all b) (i || p) h in
    let none-shared : (i || p) ≡ false = or-false-right (touches_all a || touches_all b) (i || p) h in
    record {
      ids = no-id-shared (ids_of a) (ids_of b) (or-false-left i p none-shared);
      positions = no-position-shared (positions_of a) (positions_of b) (or-false-right i p none-shared);
      first-not-all = or-false-left (touches_all a) (touches_all b) not-all;
      second-not-all = or-false-right (touches_all a) (touches_all b) not-all;
    }

pub apart-turned : (a b : Request) → Apart a b → Apart b a
apart-turned a b d = record {
  ids = λ id n. is_false (is_named_in id (ids_of a)) (λ t. clash n (d.ids id t));
  positions = λ k n. is_false (is_among k (positions_of a)) (λ t. clash n (d.positions k t));
  first-not-all = d.second-not-all;
  second-not-all = d.first-not-all;
}

-- Requests that have nothing in common don't touch.
ids-unshared : (xs ys : List ℤ) → ((id : ℤ) → is_named_in id xs ≡ true → is_named_in id ys ≡ false) → share_id xs ys ≡ false
unfolding share_id
ids-unshared [] ys h = refl
ids-unshared (x ∷ rest) ys h = or-false (h x (named_here x rest)) (ids-unshared rest ys (λ id n. h id (named-later id x rest n)))

positions-unshared : (xs ys : List Key) → ((k : Key) → is_among k xs ≡ true → is_among k ys ≡ false) → share_position xs ys ≡ false
unfolding share_position
positions-unshared [] ys h = refl
positions-unshared (x ∷ rest) ys h = or-false (h x (among-here x rest)) (positions-unshared rest ys (λ k n. h k (among_later k x rest n)))

pub apart-untouched : (a b : Request) → Apart a b → touch a b ≡ false
unfolding touch
apart-untouched a b d =
    or-false (or-false d.first-not-all d.second-not-all)
    (or-false (ids-unshared (ids_of a) (ids_of b) d.ids) (positions-unshared (positions_of a) (positions_of b) d.positions))

pub touch-symmetric : (a b : Request) → touch a b ≡ touch b a
touch-symmetric a b = both_ways (touch a b) (touch b a) (turned a b) (turned b a)
  where
    turned : (x y : Request) → touch x y ≡ true → touch y x ≡ true
    turned x y t = is_true (touch y x) (λ f. clash t (apart-untouched x y (apart-turned y x (untouched-apart y x f))))
