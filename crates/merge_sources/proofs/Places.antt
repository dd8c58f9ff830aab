-- A list of tests read from the front: while none of the first i holds, one more is read; the first that holds is the place, and at the end there is none.
-- Where tests must all hold, each does. By induction on the list. Assumes nothing.
use Prim.Native.Nat.{ℕ, zero, suc, ◌+◌, ◌≤◌, ◌<◌}
use native.Mathlib.Numerals.{add-one}
use native.Mathlib.Omega.{arith}
use mathlib.Core.Path.{◌≡◌, refl, sym, ◌∙◌, ap, subst}
use mathlib.Core.Bool.{Bool, true, false}
use mathlib.Core.List.{List, [], ◌∷◌}
use lib.ListN.{length, get_or, take}
use lib.Seq.{take_all}
use Rattle.std.specs.Prelude.{Option, Some, None}
use Rattle.std.specs.Option.{MatchOption}
use Rattle.rules.specs.Refusal.{any_of, all_of, first_place}
use Rattle.keys.proofs.Split.{clash}
use Rattle.merge_sources.specs.Sources.{At, Nowhere, told, place_of}

-- ---- tests of which none may hold

pub none-at-first : (fails : List Bool) → any_of (take 0 fails) ≡ false
unfolding any_of
none-at-first fails = refl

none-of-more : (fails : List Bool) (i : ℕ) → i < length fails → any_of (take i fails) ≡ false → get_or fails i false ≡ false → any_of (take (suc i) fails) ≡ false
unfolding any_of
none-of-more [] i h none e = refl
none-of-more (b ∷ rest) zero h none e = rw e
none-of-more (true ∷ rest) (suc i) h none e = none
none-of-more (false ∷ rest) (suc i) h none e = none-of-more rest i (omega arith) none e

pub none-next : (fails : List Bool) (i : ℕ) → i < length fails → any_of (take i fails) ≡ false → get_or fails i false ≡ false → any_of (take (i + 1) fails) ≡ false
none-next fails i h none e = ap (λ (n : ℕ). any_of (take n fails)) (add-one i) ∙ none-of-more fails i h none e

pub none-at-last : (fails : List Bool) (i : ℕ) → length fails ≤ i → any_of (take i fails) ≡ false → any_of fails ≡ false
none-at-last fails i h none = ap any_of (sym (take_all i fails h)) ∙ none

pub one_holds : (fails : List Bool) (i : ℕ) → i < length fails → get_or fails i false ≡ true → any_of fails ≡ true
unfolding any_of
one_holds [] i h e = absurd (omega arith)
one_holds (b ∷ rest) zero h e = rw e
one_holds (true ∷ rest) (suc i) h e = refl
one_holds (false ∷ rest) (suc i) h e = one_holds rest i (omega arith) e

pub none-holds : (fails : List Bool) (i : ℕ) → i < length fails → any_of fails ≡ false → get_or fails i false ≡ false
unfolding any_of
none-holds [] i h e = absurd (omega arith)
none-holds (true ∷ rest) i h e = clash refl e
none-holds (false ∷ rest) zero h e = refl
none-holds (false ∷ rest) (suc i) h e = none-holds rest i (omega arith) e

-- ---- the place of the first

pub first-place : (fails : List Bool) (i : ℕ) → i < length fails → any_of (take i fails) ≡ false → get_or fails i false ≡ true → first_place fails ≡ i
unfolding any_of first_place
first-place [] i h none e = absurd (omega arith)
first-place (b ∷ rest) zero h none e = rw e
first-place (true ∷ rest) (suc i) h none e = clash refl none
first-place (false ∷ rest) (suc i) h none e = ap suc (first-place rest i (omega arith) none e)

pub place-nowhere : (fails : List Bool) → any_of fails ≡ false → place_of fails ≡ Nowhere
unfolding place_of
place-nowhere fails e = rw e

pub place-somewhere : (fails : List Bool) → any_of fails ≡ true → place_of fails ≡ At (first_place fails)
unfolding place_of
place-somewhere fails e = rw e

pub place_here : (fails : List Bool) (i : ℕ) → i < length fails → any_of (take i fails) ≡ false → get_or fails i false ≡ true → place_of fails ≡ At i
place_here fails i h none e = place-somewhere fails (one_holds fails i h e) ∙ ap At (first-place fails i h none e)

pub place-at-last : (fails : List Bool) (i : ℕ) → length fails ≤ i → any_of (take i fails) ≡ false → place_of fails ≡ Nowhere
place-at-last fails i h none = place-nowhere fails (none-at-last fails i h none)

-- The first place where a test holds, as a search of the places finds it.
each-before : (fails : List Bool) (i : ℕ) → i ≤ length fails → ((k : ℕ) → k < i → get_or fails k false ≡ false) → any_of (take i fails) ≡ false
each-before fails zero h each = none-at-first fails
each-before fails (suc i) h each = none-of-more fails i (omega arith) (each-before fails i (omega arith) (λ k lt. each k (omega arith))) (each i (omega arith))

pub place-found : (fails : List Bool) (test : ℕ → Bool) (n : ℕ) (r : Option ℕ) → n ≡ length fails → ((i : ℕ) → i < n → get_or fails i false ≡ test i) →
    MatchOption r ((k : ℕ) → 0 ≤ k → k < n → test k ≡ false) (λ i. (0 ≤ i) × (i < n) × (test i ≡ true) × ((k : ℕ) → 0 ≤ k → k < i → test k ≡ false)) → told r ≡ place_of fails
place-found fails test n None many at none =
    sym (place-at-last fails n (omega (arith, many)) (each-before fails n (omega (arith, many)) (λ k lt. at k lt ∙ none k (omega arith) lt)))
place-found fails test n (Some i) many at (low, within, here, before) =
    sym (place_here fails i (omega (arith, many, within)) (each-before fails i (omega (arith, many, within)) (λ k lt. at k (omega (arith, within)) ∙ before k (omega arith) lt)) (at i within ∙ here))

-- What an answer says of the tests.
pub place-tells : (fails : List Bool) (i : ℕ) → place_of fails ≡ At i → (any_of fails ≡ true) × (first_place fails ≡ i)
unfolding place_of
place-tells fails i e = go (any_of fails) refl
  where
    go : (b : Bool) → any_of fails ≡ b → (any_of fails ≡ true) × (first_place fails ≡ i)
    go true t = let f : At (first_place fails) ≡ At i = sym (place-somewhere fails t) ∙ e in (t, cc)
    go false t = let f : Nowhere ≡ At i = sym (place-nowhere fails t) ∙ e in let z : ◌≡◌ {A = ℕ} 0 1 = cc in absurd (omega arith)

first-within : (fails : List Bool) → any_of fails ≡ true → first_place fails < length fails
unfolding any_of first_place
first-within [] e = clash e refl
first-within (true ∷ rest) e = omega arith
first-within (false ∷ rest) e = let again : first_place rest < length rest = first-within rest e in omega arith

pub place-within : (fails : List Bool) (i : ℕ) → place_of fails ≡ At i → i < length fails
place-within fails i e = let t : (any_of fails ≡ true) × (first_place fails ≡ i) = place-tells fails i e in subst (λ (n : ℕ). n < length fails) t.1 (first-within fails t.0)

pub nowhere-tells : (fails : List Bool) → place_of fails ≡ Nowhere → any_of fails ≡ false
nowhere-tells fails e = go (any_of fails) refl
  where
    go : (b : Bool) → any_of fails ≡ b → any_of fails ≡ false
    go true t = let f : At (first_place fails) ≡ Nowhere = sym (place-somewhere fails t) ∙ e in let z : ◌≡◌ {A = ℕ} 0 1 = cc in absurd (omega arith)
    go false t = t

-- ---- tests that must all hold

pub all_hold : (holds : List Bool) (i : ℕ) → i < length holds → all_of holds ≡ true → get_or holds i true ≡ true
unfolding all_of
all_hold [] i h e = absurd (omega arith)
all_hold (true ∷ rest) zero h e = refl
all_hold (true ∷ rest) (suc i) h e = all_hold rest i (omega arith) e
all_hold (false ∷ rest) i h e = clash e refl
