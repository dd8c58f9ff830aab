-- What each clause of the definitions on keyed tables says, as one equation for each way in which the keys can lie. By the definitions. Assumes nothing.
use Prim.Native.Nat.{◌+◌}
use mathlib.Core.Path.{◌≡◌, refl, ◌∙◌, ap}
use mathlib.Core.Bool.{Bool, true, false, cond, ◌&&◌}
use mathlib.Core.List.{List, [], ◌∷◌, map}
use mathlib.Core.Option.{Option, none, some}
use lib.IntN.{ℤ}
use Rattle.integers.specs.Order.{eq_z}
use Rattle.rules.specs.Keyed.{Key, below, same, is_some, at_least, rising, find, greatest, upsert, upsert_all, absent_from}
use Rattle.rules.specs.Refusal.{all_of}
use Rattle.keys.proofs.Split.{and_intro, and_left, and_right, cond-true, cond-false}
use Rattle.keys.proofs.KeyOrder.{same-not-below}

pub all_of-nil : all_of [] ≡ true
unfolding all_of
all_of-nil = refl

pub all_of-cons : (b : Bool) (rest : List Bool) → all_of (b ∷ rest) ≡ (b && all_of rest)
unfolding all_of
all_of-cons b rest = refl

pub all_of-intro : (b : Bool) (rest : List Bool) → b ≡ true → all_of rest ≡ true → all_of (b ∷ rest) ≡ true
all_of-intro b rest p q = all_of-cons b rest ∙ and_intro p q

pub all_of-head : (b : Bool) (rest : List Bool) → all_of (b ∷ rest) ≡ true → b ≡ true
unfolding all_of
all_of-head b rest h = and_left b (all_of rest) h

pub all_of-tail : (b : Bool) (rest : List Bool) → all_of (b ∷ rest) ≡ true → all_of rest ≡ true
unfolding all_of
all_of-tail b rest h = and_right b (all_of rest) h

pub is_some-none : (A : Type 0) → is_some {A = A} none ≡ false
unfolding is_some
is_some-none A = refl

pub is_some-some : {A : Type 0} (a : A) → is_some (some a) ≡ true
unfolding is_some
is_some-some a = refl

module _ {Row : Type 0} (key : Row → Key) where
  pub find-nil : (k : Key) → find key k [] ≡ none
  unfolding find
  find-nil k = refl

  pub find-here : (k : Key) (r : Row) (rest : List Row) → same (key r) k ≡ true → find key k (r ∷ rest) ≡ some r
  unfolding find
  find-here k r rest h = cond-true (some r) (find key k rest) h

  pub find-there : (k : Key) (r : Row) (rest : List Row) → same (key r) k ≡ false → find key k (r ∷ rest) ≡ find key k rest
  unfolding find
  find-there k r rest h = cond-false (some r) (find key k rest) h

  pub greatest-nil : (m : ℤ) → greatest key m [] ≡ none
  unfolding greatest
  greatest-nil m = refl

  pub greatest-here : (m : ℤ) (r : Row) (rest : List Row) → eq_z (key r).major m ≡ true → greatest key m (r ∷ rest) ≡ some (at_least (key r).minor (greatest key m rest))
  unfolding greatest
  greatest-here m r rest h = cond-true (some (at_least (key r).minor (greatest key m rest))) (greatest key m rest) h

  pub greatest-there : (m : ℤ) (r : Row) (rest : List Row) → eq_z (key r).major m ≡ false → greatest key m (r ∷ rest) ≡ greatest key m rest
  unfolding greatest
  greatest-there m r rest h = cond-false (some (at_least (key r).minor (greatest key m rest))) (greatest key m rest) h

  pub upsert-nil : (new : Row) → upsert key new [] ≡ new ∷ []
  unfolding upsert
  upsert-nil new = refl

  pub upsert-lower : (new r : Row) (rest : List Row) → below (key new) (key r) ≡ true → upsert key new (r ∷ rest) ≡ new ∷ r ∷ rest
  unfolding upsert
  upsert-lower new r rest h = cond-true (new ∷ r ∷ rest) (cond (same (key new) (key r)) (new ∷ rest) (r ∷ upsert key new rest)) h

  pub upsert-level : (new r : Row) (rest : List Row) → same (key new) (key r) ≡ true → upsert key new (r ∷ rest) ≡ new ∷ rest
  unfolding upsert
  upsert-level new r rest h =
      cond-false (new ∷ r ∷ rest) (cond (same (key new) (key r)) (new ∷ rest) (r ∷ upsert key new rest)) (same-not-below (key new) (key r) h)
      ∙ cond-true (new ∷ rest) (r ∷ upsert key new rest) h

  pub upsert-upper : (new r : Row) (rest : List Row) → below (key new) (key r) ≡ false → same (key new) (key r) ≡ false → upsert key new (r ∷ rest) ≡ r ∷ upsert key new rest
  unfolding upsert
  upsert-upper new r rest h k =
      cond-false (new ∷ r ∷ rest) (cond (same (key new) (key r)) (new ∷ rest) (r ∷ upsert key new rest)) h
      ∙ cond-false (new ∷ rest) (r ∷ upsert key new rest) k

  pub upsert_all-nil : (table : List Row) → upsert_all key [] table ≡ table
  unfolding upsert_all
  upsert_all-nil table = refl

  pub upsert_all-cons : (new : Row) (more table : List Row) → upsert_all key (new ∷ more) table ≡ upsert_all key more (upsert key new table)
  unfolding upsert_all
  upsert_all-cons new more table = refl

  pub absent_from-nil : (table : List Row) → absent_from key table [] ≡ 0
  unfolding absent_from
  absent_from-nil table = refl

  pub absent_from-cons : (table : List Row) (r : Row) (rest : List Row) → absent_from key table (r ∷ rest) ≡ cond (is_some (find key (key r) table)) 0 1 + absent_from key table rest
  unfolding absent_from
  absent_from-cons table r rest = refl

  pub absent_from-new : (table : List Row) (r : Row) (rest : List Row) → find key (key r) table ≡ none → absent_from key table (r ∷ rest) ≡ 1 + absent_from key table rest
  unfolding absent_from is_some
  absent_from-new table r rest h = ap (λ (o : Option Row). cond (is_some o) 0 1 + absent_from key table rest) h

  pub absent_from-old : (table : List Row) (r x : Row) (rest : List Row) → find key (key r) table ≡ some x → absent_from key table (r ∷ rest) ≡ 0 + absent_from key table rest
  unfolding absent_from is_some
  absent_from-old table r x rest h = ap (λ (o : Option Row). cond (is_some o) 0 1 + absent_from key table rest) h

  pub rising-nil : rising key [] ≡ true
  unfolding rising
  rising-nil = refl

  -- A key lies below every row of a list.
  abbrev pub below_all : Key → List Row → Bool
  below_all k rows = all_of (map (λ (r : Row). below k (key r)) rows)
