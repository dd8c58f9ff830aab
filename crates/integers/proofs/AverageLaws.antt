-- What other crates know of the average and its residual: its range, the residual's range and equation, the margin that they keep together. How a half is
-- rounded shows in none of these; the last part says it: away from zero, so that negated prices negate both.
use mathlib.Core.Path.{◌≡◌, refl, ap}
use mathlib.Core.Bool.{Bool, true, false}
use Prim.Native.Nat.{ℕ, ◌+◌, ◌*◌, ◌≤◌}
use native.Mathlib.Omega.{arith}
use lib.IntN.{ℤ, pos, negsuc, ◌+ℤ◌, ◌-ℤ◌, ◌*ℤ◌, neg_ℤ, nat_abs}
use lib.Signed.{◌≤ℤ◌}
use Rattle.integers.specs.Average.{average_of, residual_of}
use Rattle.integers.proofs.Linear.{zarith}
use Rattle.integers.proofs.Ring.{diff, zdiff}
use Rattle.integers.proofs.Products.{nat_abs-negℤ}
use Rattle.integers.proofs.Rounded.{rounded-negℤ, rounded-half, rounded-bound, rounded-near}

pub average-bound : (v q : ℤ) → pos 1 ≤ℤ q → nat_abs v ≤ nat_abs q * 1_000_000_000_000 → nat_abs (average_of v q) ≤ 1_000_000_000_000
unfolding average_of
average-bound v (pos m) h k = rounded-bound v m 1_000_000_000_000 (omega zarith) k
average-bound v (negsuc m) h k = absurd (omega zarith)

pub residual-buy : (v q : ℤ) → residual_of true v q ≡ q *ℤ average_of v q -ℤ v
unfolding residual_of
residual-buy v q = refl

pub residual-sell : (v q : ℤ) → residual_of false v q ≡ neg_ℤ (q *ℤ average_of v q -ℤ v)
unfolding residual_of
residual-sell v q = refl

off-bound : (v q : ℤ) → pos 1 ≤ℤ q → 2 * nat_abs (q *ℤ average_of v q -ℤ v) ≤ nat_abs q
unfolding average_of
off-bound v (pos m) h = rounded-near v m (omega zarith)
off-bound v (negsuc m) h = absurd (omega zarith)

-- twice the residual's magnitude is at most the quantity
pub residual-bound : (b : Bool) (v q : ℤ) → pos 1 ≤ℤ q → 2 * nat_abs (residual_of b v q) ≤ nat_abs q
residual-bound true v q h = rw (residual-buy v q) (off-bound v q h)
residual-bound false v q h =
    rw (residual-sell v q) (rw (nat_abs-negℤ (q *ℤ average_of v q -ℤ v)) (off-bound v q h))

margin : (q s a v : ℤ) → q *ℤ (s -ℤ a) +ℤ (q *ℤ a -ℤ v) ≡ q *ℤ s -ℤ v
margin q s a v = rw (diff q, diff s, diff a, diff v) (simp zdiff (omega arith))

margin-sell : (q s a v : ℤ) → neg_ℤ q *ℤ (s -ℤ a) +ℤ neg_ℤ (q *ℤ a -ℤ v) ≡ neg_ℤ (q *ℤ s -ℤ v)
margin-sell q s a v = rw (diff q, diff s, diff a, diff v) (simp zdiff (omega arith))

-- at every price s the average and the residual together keep the margin of the merged positions
pub margin-kept-buy : (s v q : ℤ) → q *ℤ (s -ℤ average_of v q) +ℤ residual_of true v q ≡ q *ℤ s -ℤ v
margin-kept-buy s v q = rw (residual-buy v q) (margin q s (average_of v q) v)

pub margin-kept-sell : (s v q : ℤ) → neg_ℤ q *ℤ (s -ℤ average_of v q) +ℤ residual_of false v q ≡ neg_ℤ (q *ℤ s -ℤ v)
margin-kept-sell s v q = rw (residual-sell v q) (margin-sell q s (average_of v q) v)

-- ---- document 02, K4

-- "A half goes away from zero": at a magnitude of k + 1/2 the average's is k + 1.
pub average-half : (v q : ℤ) (k : ℕ) → pos 1 ≤ℤ q → nat_abs v + nat_abs v ≡ nat_abs q * (k + k + 1) → nat_abs (average_of v q) ≡ k + 1
unfolding average_of
average-half v (pos m) k h e = rounded-half v m k (omega zarith) e
average-half v (negsuc m) k h e = absurd (omega zarith)

-- "negating every price negates the average", and the residual: the value is the sum of quantities times prices

pub average-negℤ : (v q : ℤ) → average_of (neg_ℤ v) q ≡ neg_ℤ (average_of v q)
unfolding average_of
average-negℤ v q = rounded-negℤ v (nat_abs q)

off-negℤ : (q a v : ℤ) → q *ℤ neg_ℤ a -ℤ neg_ℤ v ≡ neg_ℤ (q *ℤ a -ℤ v)
off-negℤ q a v = rw (diff q, diff a, diff v) (simp zdiff (omega arith))

pub residual-negℤ : (b : Bool) (v q : ℤ) → residual_of b (neg_ℤ v) q ≡ neg_ℤ (residual_of b v q)
unfolding residual_of
residual-negℤ true v q = rw (average-negℤ v q) (off-negℤ q (average_of v q) v)
residual-negℤ false v q = rw (average-negℤ v q) (ap neg_ℤ (off-negℤ q (average_of v q) v))
