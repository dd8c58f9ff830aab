-- The rows around the place of a key that a rising table lacks: those before it lie below the key, those from it on above.
-- Where no row of a first figure stands from a second one on, the rows above that key are above every later key of that first figure.
-- By induction on the rows. Assumes nothing.
use Prim.Native.Nat.{ℕ, zero, suc}
use mathlib.Core.Path.{◌≡◌, sym, ◌∙◌}
use mathlib.Core.Bool.{true, false}
use mathlib.Core.List.{List, [], ◌∷◌, map}
use mathlib.Core.Logic.{◌⊎◌, inl, inr}
use mathlib.Core.Option.{none}
use lib.IntN.{ℤ}
use lib.ListN.{take, drop}
use lib.Signed.{lt_z, ◌≤ℤ◌}
use Rattle.integers.proofs.Linear.{zarith}
use Rattle.rules.specs.Keyed.{Key, below, same, rising, find}
use Rattle.rules.specs.Rows.{key_of}
use Rattle.keys.proofs.Split.{split, none-some}
use Rattle.keys.proofs.KeyOrder.{eq-same, same-sym, below-cases, below-major, Way, lower, level, upper, way}
use Rattle.keys.proofs.Clauses.{below_all, all_of-nil, find-here, find-there}
use Rattle.keys.proofs.Rising.{below_all-head, below_all-tail, below_all-intro, below_all-lower, rising-tail, rising-head}
use Rattle.keys.proofs.Runs.{all_below, all_below-intro}
use Rattle.lookup.specs.Lookup.{place_from}
use Rattle.lookup.proofs.Clauses.{place_from-nil}
use Rattle.lookup.proofs.RowPlaced.{place-lower, place-upper}

module _ {A : Type 0} (key : A → Key) where
  pub before-place : (k : Key) (rows : List A) → find key k rows ≡ none → all_below key k (take (place_from 0 k (map key rows)) rows) ≡ true
  before-place k [] h = rw (place_from-nil 0 k) all_of-nil
  before-place k (r ∷ rest) h = go (before-place k rest) (way k (key r))
    where
      go : (find key k rest ≡ none → all_below key k (take (place_from 0 k (map key rest)) rest) ≡ true) → Way k (key r)
          → all_below key k (take (place_from 0 k (map key (r ∷ rest))) (r ∷ rest)) ≡ true
      go ih (lower b s a) = rw (place-lower key k r rest b) all_of-nil
      go ih (level e s b a) = none-some h (find-here key k r rest (same-sym (key r) k ∙ s))
      go ih (upper a s b) =
          rw (place-upper key k r rest b)
          (all_below-intro key k r (take (place_from 0 k (map key rest)) rest) a (ih (sym (find-there key k r rest (same-sym (key r) k ∙ s)) ∙ h)))

  pub from_place : (k : Key) (rows : List A) → rising key rows ≡ true → below_all key k (drop (place_from 0 k (map key rows)) rows) ≡ true
  from_place k [] h = rw (place_from-nil 0 k) all_of-nil
  from_place k (r ∷ rest) h = go (from_place k rest (rising-tail key r rest h)) (split (below k (key r)))
    where
      go : below_all key k (drop (place_from 0 k (map key rest)) rest) ≡ true → (below k (key r) ≡ true) ⊎ (below k (key r) ≡ false)
          → below_all key k (drop (place_from 0 k (map key (r ∷ rest))) (r ∷ rest)) ≡ true
      go ih (inl b) = rw (place-lower key k r rest b) (below_all-intro key k r rest b (below_all-lower key k (key r) rest b (rising-head key r rest h)))
      go ih (inr b) = rw (place-upper key k r rest b) ih

  -- A key that a table lacks is not among the rows past its first ones.
  absent-rest : (k : Key) (r : A) (rest : List A) → find key k (r ∷ rest) ≡ none → find key k rest ≡ none
  absent-rest k r rest h = go (split (same (key r) k))
    where
      go : (same (key r) k ≡ true) ⊎ (same (key r) k ≡ false) → find key k rest ≡ none
      go (inl s) = none-some h (find-here key k r rest s)
      go (inr s) = sym (find-there key k r rest s) ∙ h

  pub absent-past : (k : Key) (p : ℕ) (rows : List A) → find key k rows ≡ none → find key k (drop p rows) ≡ none
  absent-past k zero rows h = h
  absent-past k (suc p) [] h = h
  absent-past k (suc p) (r ∷ rest) h = absent-past k p rest (absent-rest k r rest h)

  pub later-above : (m s t : ℤ) (rows : List A) → ((j : ℤ) → s ≤ℤ j → find key (key_of m j) rows ≡ none) → below_all key (key_of m s) rows ≡ true
      → below_all key (key_of m t) rows ≡ true
  later-above m s t [] free a = a
  later-above m s t (r ∷ rest) free a =
      below_all-intro key (key_of m t) r rest (go (below-cases (key_of m s) (key r) (below_all-head key (key_of m s) r rest a)))
      (later-above m s t rest (λ j h. absent-rest (key_of m j) r rest (free j h)) (below_all-tail key (key_of m s) r rest a))
    where
      go : (lt_z m (key r).major ≡ true) ⊎ ((m ≡ (key r).major) × (lt_z s (key r).minor ≡ true)) → below (key_of m t) (key r) ≡ true
      go (inl b) = below-major (key_of m t) (key r) b
      go (inr b) =
          let later : lt_z s (key r).minor ≡ true = b.1 in
          let e : key r ≡ key_of m (key r).minor = λ i. record { major = sym b.0 i; minor = (key r).minor } in
          none-some (free (key r).minor (omega zarith)) (find-here key (key_of m (key r).minor) r rest (eq-same (key r) (key_of m (key r).minor) e))
