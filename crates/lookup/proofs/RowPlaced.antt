-- A row put where its key belongs: before the first row whose key is above, or in the place of the row with its key.
-- By induction on the rows. Assumes nothing.
use Prim.Native.Nat.{ℕ, suc, ◌+◌, ◌≤◌}
use mathlib.Core.Path.{◌≡◌, sym, ap, subst, ◌∙◌}
use mathlib.Core.Bool.{true, false}
use mathlib.Core.List.{List, [], ◌∷◌, ◌++◌, map}
use mathlib.Core.Logic.{◌⊎◌, inl, inr}
use mathlib.Core.Option.{none, some}
use native.Mathlib.Omega.{arith}
use lib.ListN.{length, get_or, take, drop}
use Rattle.rules.specs.Keyed.{Key, below, same, rising, find, upsert}
use Rattle.keys.proofs.Split.{split, none-some}
use Rattle.keys.proofs.KeyOrder.{same-sym, below-asym, Way, lower, level, upper, way}
use Rattle.keys.proofs.Clauses.{find-here, find-there, upsert-nil, upsert-lower, upsert-level, upsert-upper}
use Rattle.keys.proofs.Lookup.{find-key, find-all}
use Rattle.keys.proofs.Rising.{rising-tail, rising-head}
use Rattle.lookup.specs.Lookup.{row_from, place_from}
use Rattle.lookup.proofs.Clauses.{row_from-nil, place_from-nil, place_from-here, place_from-there}
use Rattle.lookup.proofs.RowFound.{next-row-is, found-same, found-other, found-find}

pub place-next : (row : ℕ) (k : Key) (keys : List Key) → place_from (row + 1) k keys ≡ suc (place_from row k keys)
place-next row k [] = let e : row + 1 ≡ suc row = omega arith in place_from-nil (row + 1) k ∙ e ∙ ap suc (sym (place_from-nil row k))
place-next row k (e ∷ rest) = go (place-next (row + 1) k rest) (split (below k e))
  where
    up : row + 1 ≡ suc row
    up = omega arith

    go : place_from (row + 1 + 1) k rest ≡ suc (place_from (row + 1) k rest) → (below k e ≡ true) ⊎ (below k e ≡ false)
        → place_from (row + 1) k (e ∷ rest) ≡ suc (place_from row k (e ∷ rest))
    go ih (inl s) = place_from-here (row + 1) k e rest s ∙ up ∙ ap suc (sym (place_from-here row k e rest s))
    go ih (inr s) = place_from-there (row + 1) k e rest s ∙ ih ∙ ap suc (sym (place_from-there row k e rest s))

module _ {A : Type 0} (key : A → Key) where
  pub place-lower : (k : Key) (r : A) (rest : List A) → below k (key r) ≡ true → place_from 0 k (map key (r ∷ rest)) ≡ 0
  place-lower k r rest s = place_from-here 0 k (key r) (map key rest) s

  pub place-upper : (k : Key) (r : A) (rest : List A) → below k (key r) ≡ false → place_from 0 k (map key (r ∷ rest)) ≡ suc (place_from 0 k (map key rest))
  place-upper k r rest s = place_from-there 0 k (key r) (map key rest) s ∙ place-next 0 k (map key rest)

  pub place-within : (k : Key) (rows : List A) → place_from 0 k (map key rows) ≤ length rows
  place-within k [] = omega (arith, place_from-nil 0 k)
  place-within k (r ∷ rest) = go (place-within k rest) (split (below k (key r)))
    where
      go : place_from 0 k (map key rest) ≤ length rest → (below k (key r) ≡ true) ⊎ (below k (key r) ≡ false) → place_from 0 k (map key (r ∷ rest)) ≤ length (r ∷ rest)
      go ih (inl s) = omega (arith, place-lower k r rest s)
      go ih (inr s) = omega (arith, place-upper k r rest s)

  -- A row whose key is absent goes in at its place.
  pub upsert-placed : (new : A) (rows : List A) → find key (key new) rows ≡ none
      → upsert key new rows ≡ take (place_from 0 (key new) (map key rows)) rows ++ (new ∷ drop (place_from 0 (key new) (map key rows)) rows)
  upsert-placed new [] h = upsert-nil key new ∙ ap (λ (p : ℕ). take p [] ++ (new ∷ drop p [])) (sym (place_from-nil 0 (key new)))
  upsert-placed new (r ∷ rest) h = go (upsert-placed new rest) (way (key new) (key r))
    where
      go : (find key (key new) rest ≡ none
          → upsert key new rest ≡ take (place_from 0 (key new) (map key rest)) rest ++ (new ∷ drop (place_from 0 (key new) (map key rest)) rest))
          → Way (key new) (key r)
          → upsert key new (r ∷ rest)
          ≡ take (place_from 0 (key new) (map key (r ∷ rest))) (r ∷ rest) ++ (new ∷ drop (place_from 0 (key new) (map key (r ∷ rest))) (r ∷ rest))
      go ih (lower b s a) =
          upsert-lower key new r rest b ∙ ap (λ (p : ℕ). take p (r ∷ rest) ++ (new ∷ drop p (r ∷ rest))) (sym (place-lower (key new) r rest b))
      go ih (level e s b a) = none-some h (find-here key (key new) r rest (same-sym (key r) (key new) ∙ s))
      go ih (upper a s b) =
          upsert-upper key new r rest b s
          ∙ ap (λ (rows : List A). r ∷ rows) (ih (sym (find-there key (key new) r rest (same-sym (key r) (key new) ∙ s)) ∙ h))
          ∙ ap (λ (p : ℕ). take p (r ∷ rest) ++ (new ∷ drop p (r ∷ rest))) (sym (place-upper (key new) r rest b))

  -- A row whose key is there takes the place of the row with its key.
  pub upsert-replaced : (new : A) (rows : List A) (i : ℕ) → rising key rows ≡ true → row_from 0 (key new) (map key rows) ≡ some i
      → upsert key new rows ≡ take i rows ++ (new ∷ drop (suc i) rows)
  upsert-replaced new [] i h f = let z : ◌≡◌ {A = ℕ} 0 1 = cc (row_from-nil 0 (key new)) in absurd (omega arith)
  upsert-replaced new (r ∷ rest) i h f = go (λ j. upsert-replaced new rest j (rising-tail key r rest h)) (split (same (key r) (key new)))
    where
      go : ((j : ℕ) → row_from 0 (key new) (map key rest) ≡ some j → upsert key new rest ≡ take j rest ++ (new ∷ drop (suc j) rest))
          → (same (key r) (key new) ≡ true) ⊎ (same (key r) (key new) ≡ false)
          → upsert key new (r ∷ rest) ≡ take i (r ∷ rest) ++ (new ∷ drop (suc i) (r ∷ rest))
      go ih (inl s) =
          let z : some 0 ≡ some i = sym (found-same key (key new) r rest s) ∙ f in
          let e : 0 ≡ i = cc in
          upsert-level key new r rest (same-sym (key new) (key r) ∙ s) ∙ ap (λ (n : ℕ). take n (r ∷ rest) ++ (new ∷ drop (suc n) (r ∷ rest))) e
      go ih (inr s) =
          let w : (j : ℕ) × (i ≡ suc j) × (row_from 0 (key new) (map key rest) ≡ some j)
          = next-row-is (row_from 0 (key new) (map key rest)) i (sym (found-other key (key new) r rest s) ∙ f) in
          let x : find key (key new) rest ≡ some (get_or rest w.0 new) = (found-find key (key new) rest w.0 w.2).1 new in
          let a : below (key r) (key new) ≡ true
          = subst (λ (k : Key). below (key r) k ≡ true) (find-key key (key new) rest (get_or rest w.0 new) x)
          (find-all key (λ t. below (key r) (key t)) (key new) rest (get_or rest w.0 new) (rising-head key r rest h) x) in
          upsert-upper key new r rest (below-asym (key r) (key new) a) (same-sym (key new) (key r) ∙ s)
          ∙ ap (λ (rows : List A). r ∷ rows) (ih w.0 w.2)
          ∙ ap (λ (n : ℕ). take n (r ∷ rest) ++ (new ∷ drop (suc n) (r ∷ rest))) (sym w.1)
