-- How the code rounds: the quotient toward zero, corrected by the remainder, is the average, and its steps fit an `i64`.
use mathlib.Core.Path.{◌≡◌, ap}
use mathlib.Core.Bool.{true, false}
use Prim.Native.Nat.{ℕ, suc, ◌+◌, ◌*◌, ◌/◌, ◌%◌, ◌≤◌, ◌<◌}
use native.Mathlib.Omega.{arith}
use lib.IntN.{ℤ, pos, negsuc, ◌+ℤ◌, ◌-ℤ◌, ◌*ℤ◌, neg_ℤ, nat_abs}
use lib.Signed.{quot_z, rem_z, ◌≤ℤ◌, ◌<ℤ◌}
use mir.Syntax.{w64}
use mir.Val.{SFits}
use Rattle.integers.specs.Rounded.{half_up, rounded}
use Rattle.integers.specs.Average.{average_of, residual_of}
use Rattle.integers.specs.Averageable.{Averageable}
use Rattle.integers.proofs.Linear.{zarith, neg-lin, +-lin, minus-lin, abs-sum, abs-lin}
use Rattle.integers.proofs.Products.{mul-sfits, sfits-of-bound}
use Rattle.integers.proofs.Quotient.{quot-small}
use Rattle.integers.proofs.Rounded.{half-up-stays, half-up-next}
use Rattle.integers.proofs.AverageLaws.{average-bound, residual-buy, residual-sell, residual-bound}

-- ---- the three ways: division is toward zero, so the remainder has the value's sign

-- a half or more is left above
pub rounds-up : (v q : ℤ) → pos 1 ≤ℤ q → q ≤ℤ (rem_z v q +ℤ rem_z v q) → average_of v q ≡ quot_z v q +ℤ pos 1
unfolding average_of rounded
rounds-up (pos a) (pos m) h t = ap pos (half-up-next a m (omega zarith) (omega zarith))
rounds-up (negsuc a) (pos m) h t =
    let r : ℤ = neg_ℤ (pos (suc a % m)) in
    absurd (omega (zarith, neg-lin (pos (suc a % m)), +-lin r r))
rounds-up v (negsuc m) h t = absurd (omega zarith)

-- a half or more is left below
pub rounds-down : (v q : ℤ) → pos 1 ≤ℤ q → (rem_z v q +ℤ rem_z v q) ≤ℤ (pos 0 -ℤ q) → average_of v q ≡ quot_z v q -ℤ pos 1
unfolding average_of rounded
rounds-down (pos a) (pos m) h t = absurd (omega (zarith, minus-lin (pos 0) (pos m)))
rounds-down (negsuc a) (pos m) h t =
    let r : ℤ = neg_ℤ (pos (suc a % m)) in
    let x : ℤ = neg_ℤ (pos (suc a / m)) in
    let up : half_up (suc a) m ≡ suc a / m + 1 =
    half-up-next (suc a) m (omega zarith) (omega (zarith, neg-lin (pos (suc a % m)), +-lin r r, minus-lin (pos 0) (pos m))) in
    omega (zarith, up, neg-lin (pos (suc a / m)), minus-lin x (pos 1), neg-lin (pos (half_up (suc a) m)))
rounds-down v (negsuc m) h t = absurd (omega zarith)

-- less than a half is left on either side
pub stays : (v q : ℤ) → pos 1 ≤ℤ q → (rem_z v q +ℤ rem_z v q) <ℤ q → (pos 0 -ℤ q) <ℤ (rem_z v q +ℤ rem_z v q) → average_of v q ≡ quot_z v q
unfolding average_of rounded
stays (pos a) (pos m) h t u = ap pos (half-up-stays a m (omega zarith))
stays (negsuc a) (pos m) h t u =
    let r : ℤ = neg_ℤ (pos (suc a % m)) in
    let k : suc a % m + suc a % m < m = omega (zarith, neg-lin (pos (suc a % m)), +-lin r r, minus-lin (pos 0) (pos m)) in
    ap (λ (n : ℕ). neg_ℤ (pos n)) (half-up-stays (suc a) m k)
stays v (negsuc m) h t u = absurd (omega zarith)

-- ---- the steps fit

module _ (v q : ℤ) (ok : Averageable v q) where
  -- what the laws of division say here
  small : nat_abs (quot_z v q) ≤ 1_000_000_000_000_000_000
  small = omega (zarith, quot-small v q ok.positive, ok.bounded, ok.most, abs-lin q)

  pub up_fits : SFits w64 (quot_z v q +ℤ pos 1)
  up_fits = omega (zarith, small, abs-sum (quot_z v q), +-lin (quot_z v q) (pos 1))

  pub down_fits : SFits w64 (quot_z v q -ℤ pos 1)
  down_fits = omega (zarith, small, abs-sum (quot_z v q), minus-lin (quot_z v q) (pos 1))

  pub product-fits : SFits w64 (q *ℤ average_of v q)
  product-fits =
      let h : nat_abs q ≤ 1_000_000 = omega (zarith, ok.most, ok.positive, abs-lin q) in
      mul-sfits q (average_of v q) h (average-bound v q ok.positive ok.bounded) (omega arith)

  above : nat_abs (q *ℤ average_of v q -ℤ v) ≤ 1_000_000
  above =
      let h : 2 * nat_abs (q *ℤ average_of v q -ℤ v) ≤ nat_abs q = rw (residual-buy v q) at (residual-bound true v q ok.positive) in
      omega (zarith, ok.most, ok.positive, abs-lin q)

  pub above-fits : SFits w64 (q *ℤ average_of v q -ℤ v)
  above-fits = sfits-of-bound (q *ℤ average_of v q -ℤ v) above (omega arith)

  pub below-fits : SFits w64 (v -ℤ q *ℤ average_of v q)
  below-fits =
      let x : ℤ = q *ℤ average_of v q in
      omega (zarith, above, abs-sum (x -ℤ v), minus-lin x v, minus-lin v x)

  pub sells : residual_of false v q ≡ v -ℤ q *ℤ average_of v q
  sells =
      let x : ℤ = q *ℤ average_of v q in
      let e : neg_ℤ (x -ℤ v) ≡ v -ℤ x = omega (zarith, minus-lin x v, minus-lin v x, neg-lin (x -ℤ v)) in
      rw (residual-sell v q) e
