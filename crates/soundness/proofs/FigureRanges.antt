-- The tests of single figures as orders on the integers, and back: quantities, booked cells, suffixes, prices. By the laws of ranges. Assumes nothing.
use Prim.Native.Nat.{ℕ, ◌≤◌}
use mathlib.Core.Path.{◌≡◌, refl, sym, ap}
use mathlib.Core.Bool.{Bool, true, false, not, ◌&&◌, beq}
use borrow.Author.Tests.{not-true}
use lib.IntN.{ℤ, pos, neg_ℤ, nat_abs}
use lib.Signed.{lt_z, ◌≤ℤ◌, ◌<ℤ◌}
use Rattle.integers.specs.Order.{eq_z}
use Rattle.integers.proofs.Linear.{zarith, neg-lin}
use Rattle.integers.proofs.Parts.{true-eq_z, false-eq_z}
use Rattle.integers.proofs.Order.{in_range-true, true-in_range, lt-lt_z, le-lt_z}
use Rattle.integers.proofs.Products.{nat_abs-≤, ≤-nat_abs}
use Rattle.rules.specs.Figures.{magnitude_at_most, valid_suffix, valid_quantity, valid_price, most_quantity, greatest_of_suffixes, inverse}
use Rattle.rules.specs.Rows.{valid_signed_quantity, valid_booked, valid_parent}
use Rattle.keys.proofs.Split.{and_intro, and_left, and_right, or_left}

pub magnitude-range : (most : ℕ) (z : ℤ) → magnitude_at_most most z ≡ true → (neg_ℤ (pos most) ≤ℤ z) × (z ≤ℤ pos most)
unfolding magnitude_at_most
magnitude-range most z h = in_range-true (neg_ℤ (pos most)) (pos most) z h

pub in-magnitude : (most : ℕ) (z : ℤ) → neg_ℤ (pos most) ≤ℤ z → z ≤ℤ pos most → magnitude_at_most most z ≡ true
unfolding magnitude_at_most
in-magnitude most z h k = true-in_range h k

-- ---- quantities

pub quantity-range : (q : ℤ) → valid_quantity q ≡ true → (pos 1 ≤ℤ q) × (q ≤ℤ pos most_quantity)
unfolding valid_quantity
quantity-range q h = in_range-true (pos 1) (pos most_quantity) q h

pub in-quantity : (q : ℤ) → pos 1 ≤ℤ q → q ≤ℤ pos most_quantity → valid_quantity q ≡ true
unfolding valid_quantity
in-quantity q h k = true-in_range h k

beq-false : (a b : Bool) → b ≡ false → beq a b ≡ true → a ≡ false
beq-false true true e h = e
beq-false true false e h = sym h
beq-false false b e h = refl

-- The quantity of a row that isn't inverse.
pub signed_range : (status q : ℤ) → eq_z status inverse ≡ false → valid_signed_quantity status q ≡ true → (pos 1 ≤ℤ q) × (q ≤ℤ pos most_quantity)
unfolding valid_signed_quantity
signed_range status q s h =
    let some : Bool = not (eq_z q (pos 0)) in
    let small : Bool = magnitude_at_most most_quantity q in
    let sign : Bool = beq (lt_z q (pos 0)) (eq_z status inverse) in
    let first : (some && small) ≡ true = and_left (some && small) sign h in
    let nonzero : eq_z q (pos 0) ≡ false = not-true (eq_z q (pos 0)) (and_left some small first) in
    let range : (neg_ℤ (pos most_quantity) ≤ℤ q) × (q ≤ℤ pos most_quantity) = magnitude-range most_quantity q (and_right some small first) in
    let plus : lt_z q (pos 0) ≡ false = beq-false (lt_z q (pos 0)) (eq_z status inverse) s (and_right (some && small) sign h) in
    (omega zarith, range.1)

-- A positive quantity is right in a row that isn't inverse, its negative in one that is.
pub in-signed : (status q : ℤ) → eq_z status inverse ≡ false → pos 1 ≤ℤ q → q ≤ℤ pos most_quantity → valid_signed_quantity status q ≡ true
unfolding valid_signed_quantity
in-signed status q s h k =
    and_intro
    (and_intro (ap not (false-eq_z q (pos 0) (λ (e : q ≡ pos 0). omega zarith))) (in-magnitude most_quantity q (omega (zarith, neg-lin (pos most_quantity))) k))
    (rw (s, le-lt_z {a = q} {b = pos 0} (omega zarith)))

pub inverse-signed : (q : ℤ) → pos 1 ≤ℤ q → q ≤ℤ pos most_quantity → valid_signed_quantity inverse (neg_ℤ q) ≡ true
unfolding valid_signed_quantity
inverse-signed q h k =
    and_intro
    (and_intro (ap not (false-eq_z (neg_ℤ q) (pos 0) (λ (e : neg_ℤ q ≡ pos 0). omega (zarith, neg-lin q)))) (in-magnitude most_quantity (neg_ℤ q) (omega (zarith, neg-lin q)) (omega (zarith, neg-lin q))))
    (rw (true-eq_z inverse inverse refl, lt-lt_z {a = neg_ℤ q} {b = pos 0} (omega (zarith, neg-lin q))))

-- ---- booked cells and prices

pub in-booked : (z : ℤ) → neg_ℤ (pos 1000000) ≤ℤ z → z ≤ℤ pos 1000000 → valid_booked z ≡ true
unfolding valid_booked
in-booked z h k = in-magnitude 1000000 z h k

pub price-range : (z : ℤ) → valid_price z ≡ true → nat_abs z ≤ 1000000000000
unfolding valid_price
price-range z h =
    let range : (neg_ℤ (pos 1000000000000) ≤ℤ z) × (z ≤ℤ pos 1000000000000) = magnitude-range 1000000000000 z h in
    ≤-nat_abs z 1000000000000 range.0 range.1

pub in-price : (z : ℤ) → nat_abs z ≤ 1000000000000 → valid_price z ≡ true
unfolding valid_price
in-price z h = in-magnitude 1000000000000 z (nat_abs-≤ z 1000000000000 h).0 (nat_abs-≤ z 1000000000000 h).1

-- ---- suffixes

pub suffix-range : (z : ℤ) → valid_suffix z ≡ true → (pos 0 ≤ℤ z) × (z ≤ℤ greatest_of_suffixes)
unfolding valid_suffix
suffix-range z h = in_range-true (pos 0) greatest_of_suffixes z h

pub in-suffix : (z : ℤ) → pos 0 ≤ℤ z → z ≤ℤ greatest_of_suffixes → valid_suffix z ≡ true
unfolding valid_suffix
in-suffix z h k = true-in_range h k

pub in-parent : (parent suffix : ℤ) → parent <ℤ suffix → valid_parent parent suffix ≡ true
unfolding valid_parent
in-parent parent suffix h = or_left (eq_z parent (pos 0) && eq_z suffix (pos 0)) (lt-lt_z h)
