-- The list of pairs: as many as half the figures, the pair at a place, and the list read from a place on. By induction on the figures. Assumes nothing.
use Prim.Native.Nat.{ℕ, zero, suc, ◌+◌, ◌*◌, ◌/◌, ◌<◌}
use native.Mathlib.Numerals.{add-one}
use native.Mathlib.Omega.{arith}
use mathlib.Core.Path.{◌≡◌, refl, sym, ◌∙◌, ap, ap₂}
use mathlib.Core.List.{List, [], ◌∷◌, map}
use lib.IntN.{ℤ, pos}
use lib.ListN.{length, get_or, drop}
use lib.Seq.{drop-cons}
use Rattle.rules.specs.Keyed.{Key}
use Rattle.rules.specs.Rows.{key_of}
use Rattle.rules.specs.Merge.{pairs_of}
use Rattle.std.specs.Simd.{first_chunks}
use Rattle.merge_sources.specs.Pairs.{pair_of, pair_at}

pub pair-count : (pairs : List ℤ) → length (pairs_of pairs) ≡ length pairs / 2
unfolding pairs_of
pair-count [] = omega arith
pair-count (id ∷ []) = omega arith
pair-count (id ∷ suffix ∷ rest) = let again : length (pairs_of rest) ≡ length rest / 2 = pair-count rest in omega arith

-- Past the first pair the places count one less.
pair-later : (id suffix : ℤ) (rest : List ℤ) (i : ℕ) → pair_at (id ∷ suffix ∷ rest) (suc i) ≡ pair_at rest i
unfolding pair_at
pair-later id suffix rest i =
    let e : 2 * suc i ≡ suc (suc (2 * i)) = omega arith in
    let f : 2 * suc i + 1 ≡ suc (suc (2 * i + 1)) = omega arith in
    ap₂ (λ (m n : ℕ). key_of (get_or (id ∷ suffix ∷ rest) m (pos 0)) (get_or (id ∷ suffix ∷ rest) n (pos 0))) e f

pub pair-at : (pairs : List ℤ) (i : ℕ) (other : Key) → i < length pairs / 2 → get_or (pairs_of pairs) i other ≡ pair_at pairs i
unfolding pairs_of pair_at
pair-at [] i other h = absurd (omega arith)
pair-at (id ∷ []) i other h = absurd (omega arith)
pair-at (id ∷ suffix ∷ rest) zero other h = refl
pair-at (id ∷ suffix ∷ rest) (suc i) other h = pair-at rest i other (omega arith) ∙ sym (pair-later id suffix rest i)

-- The pairs from a place on.
pub pairs-from : (pairs : List ℤ) (i : ℕ) → i < length pairs / 2 → drop i (pairs_of pairs) ≡ pair_at pairs i ∷ drop (i + 1) (pairs_of pairs)
pairs-from pairs i h =
    let there : i < length (pairs_of pairs) = omega (arith, pair-count pairs) in
    drop-cons (pairs_of pairs) i (pair_at pairs i) there
    ∙ ap₂ (λ (k : Key) (n : ℕ). k ∷ drop n (pairs_of pairs)) (pair-at pairs i (pair_at pairs i) h) (sym (add-one i))

-- ---- the list as arrays of two

half-more : (n : ℕ) → suc (suc n) / 2 ≡ suc (n / 2)
half-more n = omega arith

pub chunks-pairs : (figures : List ℤ) → map pair_of (first_chunks 2 (length figures / 2) figures) ≡ pairs_of figures
unfolding pairs_of
chunks-pairs [] = refl
chunks-pairs (id ∷ []) = refl
chunks-pairs (id ∷ suffix ∷ rest) =
    ap (λ (n : ℕ). map pair_of (first_chunks 2 n (id ∷ suffix ∷ rest))) (half-more (length rest))
    ∙ ap (λ (l : List Key). key_of id suffix ∷ l) (chunks-pairs rest)
