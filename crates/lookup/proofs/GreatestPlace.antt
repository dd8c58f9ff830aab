-- Where keys rise, the greatest second figure of a first figure can only stand just before the place of the last key with that first figure.
-- The second figure at that place is asked not to be above that key's, so that from there on the first figure is greater. By the laws of the place.
-- Assumes nothing.
use Prim.Native.Nat.{ℕ, suc, ◌≤◌, ◌<◌}
use mathlib.Core.Path.{◌≡◌, sym, ap, subst, ◌∙◌}
use mathlib.Core.Bool.{true, false}
use mathlib.Core.List.{List, map}
use mathlib.Core.Logic.{◌⊎◌, inl, inr}
use mathlib.Core.Option.{none, some}
use native.Mathlib.Nat.{lt_of_not-le, eq-or-lt_of_le}
use native.Mathlib.Omega.{arith}
use lib.IntN.{ℤ}
use lib.ListN.{length, get_or}
use lib.Signed.{lt_z, le_z}
use Rattle.rules.specs.Keyed.{Key, rising, find, greatest}
use Rattle.rules.specs.Rows.{key_of}
use Rattle.keys.proofs.Split.{clash, is_false, Found, absent, present, found}
use Rattle.keys.proofs.Equal.{lt_z-irrefl, lt_z-trans, not-lt_z-of-le_z}
use Rattle.keys.proofs.KeyOrder.{below-cases, below-major}
use Rattle.keys.proofs.Lookup.{find-key}
use Rattle.keys.proofs.Greatest.{greatest-found, found-greatest, greatest-bounds}
use Rattle.lookup.specs.Lookup.{row_from, place_from}
use Rattle.lookup.proofs.RowFound.{find-found}
use Rattle.lookup.proofs.RisingKeys.{earlier-below, place_in, before-place, at_place, find-there}

module _ (keys : List Key) (rises : rising (λ e. e) keys ≡ true) (m top : ℤ)
    (bound : place_from 0 (key_of m top) keys < length keys → lt_z top (get_or keys (place_from 0 (key_of m top) keys) (key_of m top)).minor ≡ false) where
  abbrev last : Key
  last = key_of m top

  abbrev place : ℕ
  place = place_from 0 last keys

  -- From the place on the first figure is greater.
  pub greater-at : place < length keys → lt_z m (get_or keys place last).major ≡ true
  greater-at h = go (below-cases last (get_or keys place last) (at_place last keys last h))
    where
      go : (lt_z m (get_or keys place last).major ≡ true) ⊎ ((m ≡ (get_or keys place last).major) × (lt_z top (get_or keys place last).minor ≡ true))
          → lt_z m (get_or keys place last).major ≡ true
      go (inl l) = l
      go (inr w) = clash w.1 (bound h)

  greater-from : (i : ℕ) → place ≤ i → i < length keys → lt_z m (get_or keys i last).major ≡ true
  greater-from i h b = go (eq-or-lt_of_le h)
    where
      here : lt_z m (get_or keys place last).major ≡ true
      here = greater-at (omega arith)

      later : (lt_z (get_or keys place last).major (get_or keys i last).major ≡ true)
          ⊎ (((get_or keys place last).major ≡ (get_or keys i last).major) × (lt_z (get_or keys place last).minor (get_or keys i last).minor ≡ true))
          → lt_z m (get_or keys i last).major ≡ true
      later (inl l) = lt_z-trans m (get_or keys place last).major (get_or keys i last).major here l
      later (inr w) = subst (λ (x : ℤ). lt_z m x ≡ true) w.0 here

      go : (place ≡ i) ⊎ (place < i) → lt_z m (get_or keys i last).major ≡ true
      go (inl e) = subst (λ (n : ℕ). lt_z m (get_or keys n last).major ≡ true) e here
      go (inr l) = later (below-cases (get_or keys place last) (get_or keys i last) (earlier-below keys place i last rises l b))

  of-figure : (i : ℕ) → i < length keys → (get_or keys i last).major ≡ m → i < place
  of-figure i b e = lt_of_not-le (λ h. clash (subst (λ (x : ℤ). lt_z m x ≡ true) e (greater-from i h b)) (lt_z-irrefl m))

  -- A key with that first figure that stands before another key before the place: the other has it too, and a greater second figure.
  between : (i j : ℕ) → i < j → j < place → (get_or keys i last).major ≡ m → ((get_or keys j last).major ≡ m) × (lt_z (get_or keys i last).minor (get_or keys j last).minor ≡ true)
  between i j h p e = go (below-cases (get_or keys i last) (get_or keys j last) (earlier-below keys i j last rises h (omega (arith, place_in last keys))))
    where
      not-greater : lt_z m (get_or keys j last).major ≡ false
      not-greater = is_false (lt_z m (get_or keys j last).major) (λ t. clash (below-major last (get_or keys j last) t) (before-place last keys j last p))

      go : (lt_z (get_or keys i last).major (get_or keys j last).major ≡ true)
          ⊎ (((get_or keys i last).major ≡ (get_or keys j last).major) × (lt_z (get_or keys i last).minor (get_or keys j last).minor ≡ true))
          → ((get_or keys j last).major ≡ m) × (lt_z (get_or keys i last).minor (get_or keys j last).minor ≡ true)
      go (inl l) = clash (subst (λ (x : ℤ). lt_z x (get_or keys j last).major ≡ true) e l) not-greater
      go (inr w) = (sym w.0 ∙ e, w.1)

  -- A key with that first figure is found by its figures.
  find-figure : (i : ℕ) → i < length keys → (get_or keys i last).major ≡ m → find (λ e. e) (key_of m (get_or keys i last).minor) keys ≡ some (get_or keys i last)
  find-figure i b e = ap (λ (x : ℤ). find (λ e. e) (key_of x (get_or keys i last).minor) keys) (sym e) ∙ find-there keys i last rises b

  -- The greatest stands just before the place.
  greatest-place : (g : ℤ) → greatest (λ e. e) m keys ≡ some g → (i : ℕ) × (place ≡ suc i) × (get_or keys i last ≡ key_of m g)
  greatest-place g h =
      let x : (x : Key) × (find (λ e. e) (key_of m g) keys ≡ some x) = greatest-found (λ e. e) m g keys h in
      let w : (i : ℕ) × (row_from 0 (key_of m g) (map (λ e. e) keys) ≡ some i) × (i < length keys) × ((other : Key) → get_or keys i other ≡ x.0)
      = find-found (λ e. e) (key_of m g) keys x.0 x.1 in
      let e : get_or keys w.0 last ≡ key_of m g = w.3 last ∙ find-key (λ e. e) (key_of m g) keys x.0 x.1 in
      let past : w.0 < place = of-figure w.0 w.2 (ap (λ (k : Key). k.major) e) in
      let none_after : suc w.0 < place → ⊥
      = λ l.
      let b : suc w.0 < length keys = omega (arith, place_in last keys) in
      let n : ((get_or keys (suc w.0) last).major ≡ m) × (lt_z (get_or keys w.0 last).minor (get_or keys (suc w.0) last).minor ≡ true)
      = between w.0 (suc w.0) (omega arith) l (ap (λ (k : Key). k.major) e) in
      clash (ap (λ (k : Key). lt_z k.minor (get_or keys (suc w.0) last).minor) (sym e) ∙ n.1)
      (not-lt_z-of-le_z (get_or keys (suc w.0) last).minor g
      (greatest-bounds (λ e. e) m (get_or keys (suc w.0) last).minor g keys (get_or keys (suc w.0) last) h (find-figure (suc w.0) b n.0))) in
      (w.0, omega (arith, past, lt_of_not-le none_after), e)

  pub greatest-there : (i : ℕ) → place ≡ suc i → (get_or keys i last).major ≡ m → greatest (λ e. e) m keys ≡ some (get_or keys i last).minor
  greatest-there i p e =
      let g : (g : ℤ) × (greatest (λ e. e) m keys ≡ some g) × (le_z (get_or keys i last).minor g ≡ true)
      = found-greatest (λ e. e) m (get_or keys i last).minor keys (get_or keys i last) (find-figure i (omega (arith, place_in last keys)) e) in
      let w : (j : ℕ) × (place ≡ suc j) × (get_or keys j last ≡ key_of m g.0) = greatest-place g.0 g.1 in
      let s : w.0 ≡ i = omega (arith, w.1) in
      g.1 ∙ ap some (sym (ap (λ (k : Key). k.minor) (ap (λ (n : ℕ). get_or keys n last) (sym s) ∙ w.2)))

  pub no-greatest : ((i : ℕ) → place ≡ suc i → (get_or keys i last).major ≡ m → ⊥) → greatest (λ e. e) m keys ≡ none
  no-greatest not = go (found (greatest (λ e. e) m keys))
    where
      go : Found (greatest (λ e. e) m keys) → greatest (λ e. e) m keys ≡ none
      go (absent q) = q
      go (present g q) =
          let w : (j : ℕ) × (place ≡ suc j) × (get_or keys j last ≡ key_of m g) = greatest-place g q in
          absurd (not w.0 w.1 (ap (λ (k : Key). k.major) w.2))
