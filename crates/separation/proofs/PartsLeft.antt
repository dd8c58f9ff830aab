-- The parts of a separation from the front: what the tests and the sum of those that are left come to, part by part. With at most 1,000 parts of at most
-- 1,000,000 each, every sum on the way fits. Assumes nothing.
use Prim.Native.Nat.{ℕ, ◌+◌, ◌*◌, ◌≤◌, ◌<◌}
use native.Mathlib.Numerals.{add-one}
use mathlib.Core.Path.{◌≡◌, sym, ap, ◌∙◌}
use mathlib.Core.Bool.{Bool, true, ◌&&◌}
use mathlib.Core.List.{List, [], ◌∷◌, map}
use borrow.Author.Tests.{leb-true}
use lib.Dec.{leb}
use lib.IntN.{ℤ, pos, ◌+ℤ◌}
use lib.ListN.{length, get_or, drop, drop_of_length-le}
use lib.Seq.{drop-cons}
use lib.Signed.{◌≤ℤ◌}
use mir.Syntax.{w64}
use mir.Val.{SFits}
use Rattle.integers.proofs.Linear.{zarith, +-lin}
use Rattle.rules.specs.Figures.{valid_id, valid_suffix, valid_account, valid_series, valid_quantity, valid_count, most_quantity}
use Rattle.rules.specs.Refusal.{all_of}
use Rattle.rules.specs.Separation.{sum_of, separation_figures}
use Rattle.keys.proofs.Split.{and_left, and_right}
use Rattle.keys.proofs.Clauses.{all_of-cons, all_of-head}
use Rattle.soundness.proofs.FigureRanges.{quantity-range}

module _ (parts : List ℤ) (i : ℕ) where
  -- The next part, and those after it.
  pub next-part : i < length parts → drop i parts ≡ get_or parts i (pos 0) ∷ drop (i + 1) parts
  next-part h = rw add-one (drop-cons parts i (pos 0) h)

  pub no_part : length parts ≤ i → drop i parts ≡ []
  no_part h = drop_of_length-le parts h

-- ---- the tests of the parts

-- At most 1,000 of them.
module _ (n : ℕ) where
  pub valid-count : valid_count n ≡ true → n ≤ 1000
  unfolding valid_count
  valid-count h = leb-true n 1000 (and_right (leb 2 n) (leb n 1000) h)

-- Every part from this place on is in its range.
abbrev pub valid_from : List ℤ → ℕ → Bool
valid_from parts i = all_of (map valid_quantity (drop i parts))

module _ (parts : List ℤ) (i : ℕ) where
  valid-next : i < length parts → valid_from parts i ≡ (valid_quantity (get_or parts i (pos 0)) && valid_from parts (i + 1))
  valid-next h =
      ap (λ (l : List ℤ). all_of (map valid_quantity l)) (next-part parts i h)
      ∙ all_of-cons (valid_quantity (get_or parts i (pos 0))) (map valid_quantity (drop (i + 1) parts))

  pub part-valid : i < length parts → valid_quantity (get_or parts i (pos 0)) ≡ true → valid_from parts i ≡ valid_from parts (i + 1)
  part-valid h e = valid-next h ∙ ap (λ (b : Bool). b && valid_from parts (i + 1)) e

-- What valid figures tell of the parts.
pub parts-told : (id suffix account series : ℤ) (parts : List ℤ) → separation_figures id suffix account series parts ≡ true
    → (length parts ≤ 1000) × (valid_from parts 0 ≡ true)
unfolding separation_figures
parts-told id suffix account series parts h =
    let figures : Bool = valid_id id && valid_suffix suffix && valid_account account && valid_series series in (
      valid-count (length parts) (and_right figures (valid_count (length parts)) (and_left (figures && valid_count (length parts)) (valid_from parts 0) h)),
      and_right (figures && valid_count (length parts)) (valid_from parts 0) h,
    )

-- ---- their sum

sum-none : sum_of [] ≡ pos 0
unfolding sum_of
sum-none = omega zarith

sum-cons : (q : ℤ) (rest : List ℤ) → sum_of (q ∷ rest) ≡ q +ℤ sum_of rest
unfolding sum_of
sum-cons q rest = omega zarith

-- The sum so far, at a place: with the parts left it is the sum of all, and it is at most 1,000,000 for each part passed.
pub record SumSoFar (parts : List ℤ) (i : ℕ) (sum : ℤ) : Type 0 where
  pub whole : sum +ℤ sum_of (drop i parts) ≡ sum_of parts
  pub low : pos 0 ≤ℤ sum
  pub high : sum ≤ℤ pos (i * most_quantity)
  pub left-valid : valid_from parts i ≡ true

pub sum-start : (parts : List ℤ) → valid_from parts 0 ≡ true → SumSoFar parts 0 (pos 0)
sum-start parts valid = record {
  whole = omega (zarith, +-lin (pos 0) (sum_of parts));
  low = omega zarith;
  high = omega zarith;
  left-valid = valid;
}

module _ (parts : List ℤ) (i : ℕ) (sum : ℤ) (so_far : SumSoFar parts i sum) where
  module _ (within : i < length parts) where
    abbrev next : ℤ
    next = get_or parts i (pos 0)

    next-valid : valid_quantity next ≡ true
    next-valid =
        all_of-head (valid_quantity next) (map valid_quantity (drop (i + 1) parts))
        (rw (next-part parts i within) at so_far.left-valid)

    next-range : (pos 1 ≤ℤ next) × (next ≤ℤ pos most_quantity)
    next-range = quantity-range next next-valid

    pub sum_fits : length parts ≤ 1000 → SFits w64 (sum +ℤ next)
    sum_fits few =
        let l : pos 0 ≤ℤ sum = so_far.low in
        let h : sum ≤ℤ pos (i * most_quantity) = so_far.high in
        let r : (pos 1 ≤ℤ next) × (next ≤ℤ pos most_quantity) = next-range in
        omega (zarith, +-lin sum next)

    pub sum-next : SumSoFar parts (i + 1) (sum +ℤ next)
    sum-next =
        let l : pos 0 ≤ℤ sum = so_far.low in
        let h : sum ≤ℤ pos (i * most_quantity) = so_far.high in
        let r : (pos 1 ≤ℤ next) × (next ≤ℤ pos most_quantity) = next-range in
        let w : sum +ℤ sum_of (drop i parts) ≡ sum_of parts = so_far.whole in
        let rest : ℤ = sum_of (drop (i + 1) parts) in
        let e : sum_of (drop i parts) ≡ next +ℤ rest = ap sum_of (next-part parts i within) ∙ sum-cons next (drop (i + 1) parts) in
        record {
          whole = omega (zarith, +-lin sum next, +-lin (sum +ℤ next) rest, +-lin sum (sum_of (drop i parts)), +-lin next rest);
          low = omega (zarith, +-lin sum next);
          high = omega (zarith, +-lin sum next);
          left-valid = sym (part-valid parts i within next-valid) ∙ so_far.left-valid;
        }

  pub sum-end : length parts ≤ i → sum ≡ sum_of parts
  sum-end past =
      let w : sum +ℤ sum_of (drop i parts) ≡ sum_of parts = so_far.whole in
      let e : sum_of (drop i parts) ≡ pos 0 = ap sum_of (no_part parts i past) ∙ sum-none in
      omega (zarith, +-lin sum (sum_of (drop i parts)))
