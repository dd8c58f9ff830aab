-- A figure in its range has at most 13 digits, and the lists of a separation and a merge are of such figures and short enough for a line. By the ranges of the rules.
-- Assumes nothing.
use Prim.Native.Nat.{ℕ, ◌*◌, ◌%◌, ◌^◌, ◌≤◌, ◌<◌}
use mathlib.Core.Path.{◌≡◌, refl}
use mathlib.Core.Bool.{true, ◌&&◌}
use mathlib.Core.List.{List, [], ◌∷◌, map}
use native.Mathlib.Omega.{arith}
use borrow.Author.Tests.{leb-true}
use lib.Dec.{leb}
use lib.IntN.{ℤ, pos, neg_ℤ, nat_abs}
use lib.ListN.{length}
use Rattle.integers.specs.Order.{in_range}
use Rattle.integers.proofs.Linear.{zarith, abs-lin}
use Rattle.integers.proofs.Order.{in_range-true}
use Rattle.integers.proofs.Products.{≤-nat_abs}
use Rattle.text.proofs.WrittenTaken.{AllShort}
use Rattle.rules.specs.Figures.{magnitude_at_most, valid_id, valid_suffix, valid_account, valid_series, valid_side, valid_quantity, valid_price, valid_day, valid_count}
use Rattle.rules.specs.Merge.{pairs_of, valid_pair}
use Rattle.rules.specs.Refusal.{all_of}
use Rattle.keys.proofs.Split.{and_left, and_right}
use Rattle.keys.proofs.Clauses.{all_of-head, all_of-tail}

-- ---- one figure

in-short-range : (low high : ℕ) (z : ℤ) → high < 10 ^ 13 → in_range (pos low) (pos high) z ≡ true → nat_abs z < 10 ^ 13
in-short-range low high z few h = let (above, below) = in_range-true (pos low) (pos high) z h in omega (zarith, abs-lin z)

pub id-short : (z : ℤ) → valid_id z ≡ true → nat_abs z < 10 ^ 13
unfolding valid_id
id-short z h = in-short-range 1 999999999 z (omega arith) h

pub suffix-short : (z : ℤ) → valid_suffix z ≡ true → nat_abs z < 10 ^ 13
unfolding valid_suffix
suffix-short z h = in-short-range 0 65535 z (omega arith) h

pub account-short : (z : ℤ) → valid_account z ≡ true → nat_abs z < 10 ^ 13
unfolding valid_account
account-short z h = in-short-range 1 9999 z (omega arith) h

pub series-short : (z : ℤ) → valid_series z ≡ true → nat_abs z < 10 ^ 13
unfolding valid_series
series-short z h = in-short-range 1 999999 z (omega arith) h

pub side-short : (z : ℤ) → valid_side z ≡ true → nat_abs z < 10 ^ 13
unfolding valid_side
side-short z h = in-short-range 1 4 z (omega arith) h

pub quantity-short : (z : ℤ) → valid_quantity z ≡ true → nat_abs z < 10 ^ 13
unfolding valid_quantity
quantity-short z h = in-short-range 1 1000000 z (omega arith) h

pub price-short : (z : ℤ) → valid_price z ≡ true → nat_abs z < 10 ^ 13
unfolding valid_price magnitude_at_most
price-short z h =
    let (above, below) = in_range-true (neg_ℤ (pos 1000000000000)) (pos 1000000000000) z h in
    omega (arith, ≤-nat_abs z 1000000000000 above below)

pub day-short : (z : ℤ) → valid_day z ≡ true → nat_abs z < 10 ^ 13
unfolding valid_day
day-short z h = in-short-range 1 99999 z (omega arith) h

-- ---- lists of figures

pub count_most : (n : ℕ) → valid_count n ≡ true → n ≤ 1000
unfolding valid_count
count_most n h = leb-true n 1000 (and_right (leb 2 n) (leb n 1000) h)

pub parts-short : (parts : List ℤ) → all_of (map valid_quantity parts) ≡ true → AllShort parts
parts-short [] h = tt
parts-short (q ∷ parts) h =
    (quantity-short q (all_of-head (valid_quantity q) (map valid_quantity parts) h), parts-short parts (all_of-tail (valid_quantity q) (map valid_quantity parts) h))

pub pairs-short : (pairs : List ℤ) → length pairs % 2 ≡ 0 → all_of (map valid_pair (pairs_of pairs)) ≡ true → AllShort pairs
unfolding pairs_of valid_pair
pairs-short [] even h = tt
pairs-short (id ∷ []) even h = absurd (omega arith)
pairs-short (id ∷ suffix ∷ pairs) even h =
    let pair : (valid_id id && valid_suffix suffix) ≡ true = all_of-head (valid_id id && valid_suffix suffix) (map valid_pair (pairs_of pairs)) h in (
      id-short id (and_left (valid_id id) (valid_suffix suffix) pair),
      (
        suffix-short suffix (and_right (valid_id id) (valid_suffix suffix) pair),
        pairs-short pairs (omega arith) (all_of-tail (valid_id id && valid_suffix suffix) (map valid_pair (pairs_of pairs)) h),
      ),
    )

pub pairs-count : (pairs : List ℤ) → length pairs % 2 ≡ 0 → length pairs ≡ 2 * length (pairs_of pairs)
unfolding pairs_of
pairs-count [] even = refl
pairs-count (id ∷ []) even = absurd (omega arith)
pairs-count (id ∷ suffix ∷ pairs) even = omega (arith, pairs-count pairs (omega arith))
