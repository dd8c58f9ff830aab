-- Where a key belongs among keys that rise: every key before its place is not above it, every key from its place on is, and the key itself can only
-- stand just before its place. By induction on the keys. Assumes nothing.
use Prim.Native.Nat.{ℕ, zero, suc, ◌≤◌, ◌<◌}
use mathlib.Core.Path.{◌≡◌, refl, sym, ap, subst, ◌∙◌}
use mathlib.Core.Bool.{Bool, true, false, ◌&&◌}
use mathlib.Core.List.{List, [], ◌∷◌, map, map-id}
use mathlib.Core.Option.{some}
use mathlib.Core.Logic.{◌⊎◌, inl, inr}
use native.Mathlib.Omega.{arith}
use native.Mathlib.Nat.{lt_of_not-le, eq-or-lt_of_le}
use lib.ListN.{length, get_or}
use Rattle.rules.specs.Keyed.{Key, below, same, rising, find}
use Rattle.keys.proofs.Split.{split, clash}
use Rattle.keys.proofs.KeyOrder.{same_refl, below_irrefl, below-trans, below-not-same}
use Rattle.keys.proofs.Clauses.{below_all}
use Rattle.keys.proofs.Rising.{below_all-head, below_all-tail, rising-tail, rising-head}
use Rattle.lookup.specs.Lookup.{row_from, place_from}
use Rattle.lookup.proofs.Clauses.{row_from-here, row_from-there, place_from-nil, place_from-here, place_from-there}
use Rattle.lookup.proofs.RowFound.{next, found-next, found-find, found-key}
use Rattle.lookup.proofs.RowPlaced.{place-next, place-within}

-- Rows rise as their keys do.
pub rising-map : {A : Type 0} (key : A → Key) (rows : List A) → rising (λ e. e) (map key rows) ≡ rising key rows
unfolding rising
rising-map key [] = refl
rising-map key (r ∷ []) = refl
rising-map key (r ∷ s ∷ rest) = ap (λ (b : Bool). below (key r) (key s) && b) (rising-map key (s ∷ rest))

below_each : (k : Key) (keys : List Key) (i : ℕ) (other : Key) → below_all (λ e. e) k keys ≡ true → i < length keys → below k (get_or keys i other) ≡ true
below_each k [] i other b h = absurd (omega arith)
below_each k (e ∷ rest) zero other b h = below_all-head (λ e. e) k e rest b
below_each k (e ∷ rest) (suc i) other b h = below_each k rest i other (below_all-tail (λ e. e) k e rest b) (omega arith)

-- Of two keys that rise the earlier is below.
pub earlier-below : (keys : List Key) (i j : ℕ) (other : Key) → rising (λ e. e) keys ≡ true → i < j → j < length keys
    → below (get_or keys i other) (get_or keys j other) ≡ true
earlier-below [] i j other rises h b = absurd (omega arith)
earlier-below (e ∷ rest) i zero other rises h b = absurd (omega arith)
earlier-below (e ∷ rest) zero (suc j) other rises h b = below_each e rest j other (rising-head (λ e. e) e rest rises) (omega arith)
earlier-below (e ∷ rest) (suc i) (suc j) other rises h b = earlier-below rest i j other (rising-tail (λ e. e) e rest rises) (omega arith) (omega arith)

-- ---- the place of a key

place-first : (k e : Key) (rest : List Key) → below k e ≡ true → place_from 0 k (e ∷ rest) ≡ 0
place-first k e rest s = place_from-here 0 k e rest s

place-later : (k e : Key) (rest : List Key) → below k e ≡ false → place_from 0 k (e ∷ rest) ≡ suc (place_from 0 k rest)
place-later k e rest s = place_from-there 0 k e rest s ∙ place-next 0 k rest

pub place_in : (k : Key) (keys : List Key) → place_from 0 k keys ≤ length keys
place_in k keys = rw (map-id keys) at (place-within (λ e. e) k keys)

-- No key before the place is above.
pub before-place : (k : Key) (keys : List Key) (i : ℕ) (other : Key) → i < place_from 0 k keys → below k (get_or keys i other) ≡ false
before-place k [] i other h = absurd (omega (arith, place_from-nil 0 k))
before-place k (e ∷ rest) i other h = go i h (λ j. before-place k rest j other) (split (below k e))
  where
    go : (i : ℕ) → i < place_from 0 k (e ∷ rest) → ((j : ℕ) → j < place_from 0 k rest → below k (get_or rest j other) ≡ false)
        → (below k e ≡ true) ⊎ (below k e ≡ false) → below k (get_or (e ∷ rest) i other) ≡ false
    go i h ih (inl s) = absurd (omega (arith, place-first k e rest s))
    go zero h ih (inr s) = s
    go (suc j) h ih (inr s) = ih j (omega (arith, place-later k e rest s))

-- The key at the place is above.
pub at_place : (k : Key) (keys : List Key) (other : Key) → place_from 0 k keys < length keys → below k (get_or keys (place_from 0 k keys) other) ≡ true
at_place k [] other h = absurd (omega arith)
at_place k (e ∷ rest) other h = go (at_place k rest other) (split (below k e))
  where
    go : (place_from 0 k rest < length rest → below k (get_or rest (place_from 0 k rest) other) ≡ true)
        → (below k e ≡ true) ⊎ (below k e ≡ false) → below k (get_or (e ∷ rest) (place_from 0 k (e ∷ rest)) other) ≡ true
    go ih (inl s) = ap (λ (p : ℕ). below k (get_or (e ∷ rest) p other)) (place-first k e rest s) ∙ s
    go ih (inr s) = ap (λ (p : ℕ). below k (get_or (e ∷ rest) p other)) (place-later k e rest s) ∙ ih (omega (arith, place-later k e rest s))

-- A key above stands at the place or after it.
pub above-from-place : (k : Key) (keys : List Key) (i : ℕ) (other : Key) → below k (get_or keys i other) ≡ true → place_from 0 k keys ≤ i
above-from-place k keys i other s = omega (arith, lt_of_not-le (λ (h : suc i ≤ place_from 0 k keys). clash s (before-place k keys i other h)))

module _ (keys : List Key) (rises : rising (λ e. e) keys ≡ true) (k : Key) (i : ℕ) (other : Key) where
  -- Where keys rise, every key from the place on is above,
  pub from-place-above : place_from 0 k keys ≤ i → i < length keys → below k (get_or keys i other) ≡ true
  from-place-above h b = go (eq-or-lt_of_le h)
    where
      here : below k (get_or keys (place_from 0 k keys) other) ≡ true
      here = at_place k keys other (omega arith)

      go : (place_from 0 k keys ≡ i) ⊎ (place_from 0 k keys < i) → below k (get_or keys i other) ≡ true
      go (inl e) = subst (λ (p : ℕ). below k (get_or keys p other) ≡ true) e here
      go (inr l) = below-trans k (get_or keys (place_from 0 k keys) other) (get_or keys i other) here (earlier-below keys (place_from 0 k keys) i other rises l b)

  -- so a key that is not above stands before it.
  pub not-above-before : i < length keys → below k (get_or keys i other) ≡ false → i < place_from 0 k keys
  not-above-before b s = lt_of_not-le (λ h. clash (from-place-above h b) s)

  -- A key found stands just before its place.
  pub just-before : i < length keys → get_or keys i other ≡ k → place_from 0 k keys ≡ suc i
  just-before b e =
      let past : i < place_from 0 k keys = not-above-before b (ap (λ (x : Key). below k x) e ∙ below_irrefl k) in
      let last : suc i < place_from 0 k keys → ⊥
      = λ h. clash (ap (λ (x : Key). below x (get_or keys (suc i) other)) (sym e) ∙ earlier-below keys i (suc i) other rises (omega arith) (omega (arith, place_in k keys)))
      (before-place k keys (suc i) other h) in
      omega (arith, past, lt_of_not-le last)

-- ---- the row with a key

-- Each key is found where it stands.
pub found-there : (keys : List Key) (i : ℕ) (other : Key) → rising (λ e. e) keys ≡ true → i < length keys → row_from 0 (get_or keys i other) keys ≡ some i
unfolding next
found-there [] i other rises h = absurd (omega arith)
found-there (e ∷ rest) zero other rises h = row_from-here 0 e e rest (same_refl e)
found-there (e ∷ rest) (suc i) other rises h =
    let apart : same e (get_or rest i other) ≡ false = below-not-same e (get_or rest i other) (earlier-below (e ∷ rest) 0 (suc i) other rises (omega arith) h) in
    row_from-there 0 (get_or rest i other) e rest apart
    ∙ found-next 0 (get_or rest i other) rest
    ∙ ap next (found-there rest i other (rising-tail (λ e. e) e rest rises) (omega arith))

pub find-there : (keys : List Key) (i : ℕ) (other : Key) → rising (λ e. e) keys ≡ true → i < length keys
    → find (λ e. e) (get_or keys i other) keys ≡ some (get_or keys i other)
find-there keys i other rises h =
    (found-find (λ e. e) (get_or keys i other) keys i (ap (row_from 0 (get_or keys i other)) (map-id keys) ∙ found-there keys i other rises h)).1 other

-- The row answered is the one before the place.
pub found-place : (keys : List Key) (k : Key) (i : ℕ) → rising (λ e. e) keys ≡ true → row_from 0 k keys ≡ some i
    → (place_from 0 k keys ≡ suc i) × (i < length keys) × (get_or keys i k ≡ k)
found-place keys k i rises h =
    let f : row_from 0 k (map (λ e. e) keys) ≡ some i = ap (row_from 0 k) (map-id keys) ∙ h in
    let b : i < length keys = (found-find (λ e. e) k keys i f).0 in
    let e : get_or keys i k ≡ k = found-key (λ e. e) k keys i k f in
    (just-before keys rises k i k b e, b, e)
