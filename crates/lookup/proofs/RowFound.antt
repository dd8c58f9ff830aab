-- The number of the row with a key, as the code answers it, and the row with a key, as the rules find it: the one says the other.
-- The greatest second figure over the keys is the greatest over the rows. By induction on the rows. Assumes nothing.
use Prim.Native.Nat.{ℕ, suc, ◌+◌, ◌<◌}
use mathlib.Core.Path.{◌≡◌, refl, sym, ap, ◌∙◌}
use mathlib.Core.Bool.{true, false}
use mathlib.Core.List.{List, [], ◌∷◌, map}
use mathlib.Core.Logic.{◌⊎◌, inl, inr}
use mathlib.Core.Option.{Option, none, some}
use native.Mathlib.Omega.{arith}
use lib.IntN.{ℤ}
use lib.ListN.{length, get_or}
use Rattle.integers.specs.Order.{eq_z}
use Rattle.rules.specs.Keyed.{Key, same, find, greatest, at_least}
use Rattle.keys.proofs.Split.{split, none-some, some_inj}
use Rattle.keys.proofs.Clauses.{find-nil, find-here, find-there, greatest-nil, greatest-here, greatest-there}
use Rattle.keys.proofs.Lookup.{find-key}
use Rattle.lookup.specs.Lookup.{row_from, found_or, greatest_found}
use Rattle.lookup.specs.Found as Found
use Rattle.lookup.specs.Greatest.{Suffix, Nothing}
use Rattle.lookup.proofs.Clauses.{row_from-nil, row_from-here, row_from-there}

-- ---- counting from the next row

unfoldable pub next : Option ℕ → Option ℕ
next (some i) = some (suc i)
next none = none

pub found-next : (row : ℕ) (k : Key) (keys : List Key) → row_from (row + 1) k keys ≡ next (row_from row k keys)
unfolding next
found-next row k [] = row_from-nil (row + 1) k ∙ ap next (sym (row_from-nil row k))
found-next row k (e ∷ rest) = go (found-next (row + 1) k rest) (split (same e k))
  where
    up : row + 1 ≡ suc row
    up = omega arith

    go : row_from (row + 1 + 1) k rest ≡ next (row_from (row + 1) k rest) → (same e k ≡ true) ⊎ (same e k ≡ false)
        → row_from (row + 1) k (e ∷ rest) ≡ next (row_from row k (e ∷ rest))
    go ih (inl s) = row_from-here (row + 1) k e rest s ∙ ap some up ∙ ap next (sym (row_from-here row k e rest s))
    go ih (inr s) = row_from-there (row + 1) k e rest s ∙ ih ∙ ap next (sym (row_from-there row k e rest s))

-- A row after the next row stands one further.
pub next-row-is : (f : Option ℕ) (i : ℕ) → next f ≡ some i → (j : ℕ) × (i ≡ suc j) × (f ≡ some j)
unfolding next
next-row-is (some j) i e = (j, cc, refl)
next-row-is none i e = let z : ◌≡◌ {A = ℕ} 0 1 = cc in absurd (omega arith)

pub next-absent : (f : Option ℕ) → next f ≡ none → f ≡ none
unfolding next
next-absent (some j) e = let z : ◌≡◌ {A = ℕ} 0 1 = cc in absurd (omega arith)
next-absent none e = refl

-- ---- over rows with a key

module _ {A : Type 0} (key : A → Key) where
  pub found-same : (k : Key) (r : A) (rest : List A) → same (key r) k ≡ true → row_from 0 k (map key (r ∷ rest)) ≡ some 0
  found-same k r rest s = row_from-here 0 k (key r) (map key rest) s

  pub found-other : (k : Key) (r : A) (rest : List A) → same (key r) k ≡ false → row_from 0 k (map key (r ∷ rest)) ≡ next (row_from 0 k (map key rest))
  found-other k r rest s = row_from-there 0 k (key r) (map key rest) s ∙ found-next 0 k (map key rest)

  -- A row that is answered is one of the rows, and it is the row that the rules find.
  pub found-find : (k : Key) (rows : List A) (i : ℕ) → row_from 0 k (map key rows) ≡ some i
      → (i < length rows) × ((other : A) → find key k rows ≡ some (get_or rows i other))
  found-find k [] i h = let z : ◌≡◌ {A = ℕ} 0 1 = cc (row_from-nil 0 k) in absurd (omega arith)
  found-find k (r ∷ rest) i h = go (λ j. found-find k rest j) (split (same (key r) k))
    where
      go : ((j : ℕ) → row_from 0 k (map key rest) ≡ some j → (j < length rest) × ((other : A) → find key k rest ≡ some (get_or rest j other)))
          → (same (key r) k ≡ true) ⊎ (same (key r) k ≡ false)
          → (i < length (r ∷ rest)) × ((other : A) → find key k (r ∷ rest) ≡ some (get_or (r ∷ rest) i other))
      go ih (inl s) =
          let z : some 0 ≡ some i = sym (found-same k r rest s) ∙ h in
          let e : i ≡ 0 = cc in
          (omega arith, λ other. find-here key k r rest s ∙ ap (λ (n : ℕ). some (get_or (r ∷ rest) n other)) (sym e))
      go ih (inr s) =
          let w : (j : ℕ) × (i ≡ suc j) × (row_from 0 k (map key rest) ≡ some j) = next-row-is (row_from 0 k (map key rest)) i (sym (found-other k r rest s) ∙ h) in
          let u : (w.0 < length rest) × ((other : A) → find key k rest ≡ some (get_or rest w.0 other)) = ih w.0 w.2 in
          (omega (arith, u.0, w.1), λ other. find-there key k r rest s ∙ u.1 other ∙ ap (λ (n : ℕ). some (get_or (r ∷ rest) n other)) (sym w.1))

  pub found-key : (k : Key) (rows : List A) (i : ℕ) (other : A) → row_from 0 k (map key rows) ≡ some i → key (get_or rows i other) ≡ k
  found-key k rows i other h = find-key key k rows (get_or rows i other) ((found-find k rows i h).1 other)

  -- Where no row is answered the rules find none.
  pub absent-find : (k : Key) (rows : List A) → row_from 0 k (map key rows) ≡ none → find key k rows ≡ none
  absent-find k [] h = find-nil key k
  absent-find k (r ∷ rest) h = go (absent-find k rest) (split (same (key r) k))
    where
      go : (row_from 0 k (map key rest) ≡ none → find key k rest ≡ none) → (same (key r) k ≡ true) ⊎ (same (key r) k ≡ false) → find key k (r ∷ rest) ≡ none
      go ih (inl s) = let z : ◌≡◌ {A = ℕ} 0 1 = cc (found-same k r rest s) in absurd (omega arith)
      go ih (inr s) = find-there key k r rest s ∙ ih (next-absent (row_from 0 k (map key rest)) (sym (found-other k r rest s) ∙ h))

  -- The row that the rules find is answered.
  pub find-found : (k : Key) (rows : List A) (x : A) → find key k rows ≡ some x
      → (i : ℕ) × (row_from 0 k (map key rows) ≡ some i) × (i < length rows) × ((other : A) → get_or rows i other ≡ x)
  find-found k rows x h = go (row_from 0 k (map key rows)) refl
    where
      go : (f : Option ℕ) → row_from 0 k (map key rows) ≡ f
          → (i : ℕ) × (row_from 0 k (map key rows) ≡ some i) × (i < length rows) × ((other : A) → get_or rows i other ≡ x)
      go (some i) e = (i, e, (found-find k rows i e).0, λ other. some_inj ((found-find k rows i e).1 other) h)
      go none e = none-some (absent-find k rows e) h

  -- ---- the greatest second figure

  pub greatest-map : (m : ℤ) (rows : List A) → greatest (λ k. k) m (map key rows) ≡ greatest key m rows
  greatest-map m [] = greatest-nil (λ k. k) m ∙ sym (greatest-nil key m)
  greatest-map m (r ∷ rest) = go (greatest-map m rest) (split (eq_z (key r).major m))
    where
      go : greatest (λ k. k) m (map key rest) ≡ greatest key m rest → (eq_z (key r).major m ≡ true) ⊎ (eq_z (key r).major m ≡ false)
          → greatest (λ k. k) m (map key (r ∷ rest)) ≡ greatest key m (r ∷ rest)
      go ih (inl s) =
          greatest-here (λ k. k) m (key r) (map key rest) s ∙ ap (λ (o : Option ℤ). some (at_least (key r).minor o)) ih ∙ sym (greatest-here key m r rest s)
      go ih (inr s) = greatest-there (λ k. k) m (key r) (map key rest) s ∙ ih ∙ sym (greatest-there key m r rest s)

-- What an answer of the search for a key says.
pub row_told : (o : Option ℕ) (place i : ℕ) → found_or o place ≡ Found.Row i → o ≡ some i
unfolding found_or
row_told none place i e = let z : ◌≡◌ {A = ℕ} 0 1 = cc in absurd (omega arith)
row_told (some j) place i e = ap some (cc)

pub absent-told : (o : Option ℕ) (place p : ℕ) → found_or o place ≡ Found.Absent p → (o ≡ none) × (place ≡ p)
unfolding found_or
absent-told none place p e = (refl, cc)
absent-told (some j) place p e = let z : ◌≡◌ {A = ℕ} 0 1 = cc in absurd (omega arith)

-- What the answer of a greatest says.
pub suffix-some : (o : Option ℤ) (g : ℤ) → greatest_found o ≡ Suffix g → o ≡ some g
unfolding greatest_found
suffix-some none g e = let z : ◌≡◌ {A = ℕ} 0 1 = cc in absurd (omega arith)
suffix-some (some a) g e = ap some (cc)

pub nothing-none : (o : Option ℤ) → greatest_found o ≡ Nothing → o ≡ none
unfolding greatest_found
nothing-none none e = refl
nothing-none (some a) e = let z : ◌≡◌ {A = ℕ} 0 1 = cc in absurd (omega arith)
