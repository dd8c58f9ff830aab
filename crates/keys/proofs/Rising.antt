-- Tables whose rows strictly rise: a put keeps them rising; it adds one row where the key was absent and none where it was there. No put makes a table shorter.
-- By induction on the table. Assumes nothing.
use Prim.Native.Nat.{suc, ◌≤◌}
use mathlib.Core.Path.{◌≡◌, refl, sym, ◌∙◌, ap, subst}
use mathlib.Core.Bool.{true}
use mathlib.Core.List.{List, [], ◌∷◌, map}
use mathlib.Core.Option.{none, some}
use lib.ListN.{length}
use native.Mathlib.Omega.{arith}
use Rattle.rules.specs.Keyed.{Key, below, rising, find, upsert}
use Rattle.keys.proofs.Split.{none-some, and_intro, and_left, and_right}
use Rattle.keys.proofs.KeyOrder.{same-sym, below-trans, above-not-same, Way, lower, level, upper, way}
use Rattle.keys.proofs.Clauses.{below_all, all_of-nil, all_of-intro, all_of-head, all_of-tail, find-nil, find-here, find-there, upsert-nil, upsert-lower, upsert-level, upsert-upper}
use Rattle.keys.proofs.Lookup.{all-upsert}

module _ {Row : Type 0} (key : Row → Key) where
  pub below_all-head : (k : Key) (r : Row) (rest : List Row) → below_all key k (r ∷ rest) ≡ true → below k (key r) ≡ true
  below_all-head k r rest h = all_of-head (below k (key r)) (map (λ (s : Row). below k (key s)) rest) h

  pub below_all-tail : (k : Key) (r : Row) (rest : List Row) → below_all key k (r ∷ rest) ≡ true → below_all key k rest ≡ true
  below_all-tail k r rest h = all_of-tail (below k (key r)) (map (λ (s : Row). below k (key s)) rest) h

  pub below_all-intro : (k : Key) (r : Row) (rest : List Row) → below k (key r) ≡ true → below_all key k rest ≡ true → below_all key k (r ∷ rest) ≡ true
  below_all-intro k r rest p q = all_of-intro (below k (key r)) (map (λ (s : Row). below k (key s)) rest) p q

  pub below_all-lower : (j k : Key) (rows : List Row) → below j k ≡ true → below_all key k rows ≡ true → below_all key j rows ≡ true
  below_all-lower j k [] h a = all_of-nil
  below_all-lower j k (r ∷ rest) h a =
      below_all-intro j r rest (below-trans j k (key r) h (below_all-head k r rest a)) (below_all-lower j k rest h (below_all-tail k r rest a))

  pub rising-tail : (r : Row) (rest : List Row) → rising key (r ∷ rest) ≡ true → rising key rest ≡ true
  unfolding rising
  rising-tail r [] h = refl
  rising-tail r (s ∷ rest) h = and_right (below (key r) (key s)) (rising key (s ∷ rest)) h

  -- The first row of a rising table lies below every other.
  pub rising-head : (r : Row) (rest : List Row) → rising key (r ∷ rest) ≡ true → below_all key (key r) rest ≡ true
  unfolding rising
  rising-head r [] h = all_of-nil
  rising-head r (s ∷ rest) h =
      let b : below (key r) (key s) ≡ true = and_left (below (key r) (key s)) (rising key (s ∷ rest)) h in
      below_all-intro (key r) s rest b (below_all-lower (key r) (key s) rest b (rising-head s rest (and_right (below (key r) (key s)) (rising key (s ∷ rest)) h)))

  pub rising-intro : (r : Row) (rest : List Row) → below_all key (key r) rest ≡ true → rising key rest ≡ true → rising key (r ∷ rest) ≡ true
  unfolding rising
  rising-intro r [] a h = refl
  rising-intro r (s ∷ rest) a h = and_intro (below_all-head (key r) s rest a) h

  -- A key below every row of a table is not in it.
  pub find-low : (k : Key) (t : List Row) → below_all key k t ≡ true → find key k t ≡ none
  find-low k [] a = find-nil key k
  find-low k (r ∷ rest) a =
      find-there key k r rest (above-not-same (key r) k (below_all-head k r rest a)) ∙ find-low k rest (below_all-tail k r rest a)

  pub upsert-rises : (new : Row) (t : List Row) → rising key t ≡ true → rising key (upsert key new t) ≡ true
  upsert-rises new [] h = rw (upsert-nil key new) (rising-intro new [] all_of-nil h)
  upsert-rises new (r ∷ rest) h = go (upsert-rises new rest (rising-tail r rest h)) (way (key new) (key r))
    where
      go : rising key (upsert key new rest) ≡ true → Way (key new) (key r) → rising key (upsert key new (r ∷ rest)) ≡ true
      go again (lower b _ _) =
          rw (upsert-lower key new r rest b)
          (rising-intro new (r ∷ rest) (below_all-intro (key new) r rest b (below_all-lower (key new) (key r) rest b (rising-head r rest h))) h)
      go again (level e s _ _) =
          rw (upsert-level key new r rest s)
          (rising-intro new rest (subst (λ (k : Key). below_all key k rest ≡ true) (sym e) (rising-head r rest h)) (rising-tail r rest h))
      go again (upper a s b) =
          rw (upsert-upper key new r rest b s)
          (rising-intro r (upsert key new rest) (all-upsert key (λ (x : Row). below (key r) (key x)) new rest a (rising-head r rest h)) again)

  pub upsert-longer : (new : Row) (t : List Row) → length t ≤ length (upsert key new t)
  upsert-longer new [] = omega arith
  upsert-longer new (r ∷ rest) = go (upsert-longer new rest) (way (key new) (key r))
    where
      go : length rest ≤ length (upsert key new rest) → Way (key new) (key r) → length (r ∷ rest) ≤ length (upsert key new (r ∷ rest))
      go again (lower b _ _) = rw (upsert-lower key new r rest b) (omega arith)
      go again (level e s _ _) = rw (upsert-level key new r rest s) (omega arith)
      go again (upper a s b) = rw (upsert-upper key new r rest b s) (omega arith)

  pub upsert-adds : (new : Row) (t : List Row) → find key (key new) t ≡ none → length (upsert key new t) ≡ suc (length t)
  upsert-adds new [] h = ap (λ (l : List Row). length l) (upsert-nil key new)
  upsert-adds new (r ∷ rest) h = go (upsert-adds new rest) (way (key new) (key r))
    where
      go : (find key (key new) rest ≡ none → length (upsert key new rest) ≡ suc (length rest)) → Way (key new) (key r) →
          length (upsert key new (r ∷ rest)) ≡ suc (length (r ∷ rest))
      go again (lower b _ _) = ap (λ (l : List Row). length l) (upsert-lower key new r rest b)
      go again (level e s _ _) = none-some h (find-here key (key new) r rest (same-sym (key r) (key new) ∙ s))
      go again (upper a s b) =
          ap (λ (l : List Row). length l) (upsert-upper key new r rest b s)
          ∙ ap suc (again (sym (find-there key (key new) r rest (same-sym (key r) (key new) ∙ s)) ∙ h))

  pub upsert-replaces : (new x : Row) (t : List Row) → rising key t ≡ true → find key (key new) t ≡ some x → length (upsert key new t) ≡ length t
  upsert-replaces new x [] h f = none-some (find-nil key (key new)) f
  upsert-replaces new x (r ∷ rest) h f = go (upsert-replaces new x rest (rising-tail r rest h)) (way (key new) (key r))
    where
      go : (find key (key new) rest ≡ some x → length (upsert key new rest) ≡ length rest) → Way (key new) (key r) →
          length (upsert key new (r ∷ rest)) ≡ length (r ∷ rest)
      go again (lower b _ _) = none-some (find-low (key new) (r ∷ rest) (below_all-intro (key new) r rest b (below_all-lower (key new) (key r) rest b (rising-head r rest h)))) f
      go again (level e s _ _) = ap (λ (l : List Row). length l) (upsert-level key new r rest s)
      go again (upper a s b) =
          ap (λ (l : List Row). length l) (upsert-upper key new r rest b s)
          ∙ ap suc (again (sym (find-there key (key new) r rest (same-sym (key r) (key new) ∙ s)) ∙ f))

  -- A row that takes the place of the one with its key leaves every key where it stood.
  pub upsert-keys : (new x : Row) (t : List Row) → rising key t ≡ true → find key (key new) t ≡ some x → map key (upsert key new t) ≡ map key t
  upsert-keys new x [] h f = none-some (find-nil key (key new)) f
  upsert-keys new x (r ∷ rest) h f = go (upsert-keys new x rest (rising-tail r rest h)) (way (key new) (key r))
    where
      go : (find key (key new) rest ≡ some x → map key (upsert key new rest) ≡ map key rest) → Way (key new) (key r) →
          map key (upsert key new (r ∷ rest)) ≡ map key (r ∷ rest)
      go again (lower b _ _) = none-some (find-low (key new) (r ∷ rest) (below_all-intro (key new) r rest b (below_all-lower (key new) (key r) rest b (rising-head r rest h)))) f
      go again (level e s _ _) = ap (map key) (upsert-level key new r rest s) ∙ ap (λ (k : Key). k ∷ map key rest) e
      go again (upper a s b) =
          ap (map key) (upsert-upper key new r rest b s)
          ∙ ap (λ (keys : List Key). key r ∷ keys) (again (sym (find-there key (key new) r rest (same-sym (key r) (key new) ∙ s)) ∙ f))
