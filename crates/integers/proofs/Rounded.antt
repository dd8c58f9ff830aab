-- Quotients rounded with a half away from zero: negation, what a half becomes, their bound, how near they are, and what they are beside the quotient toward zero.
use mathlib.Core.Path.{◌≡◌, refl}
use Prim.Native.Nat.{ℕ, zero, suc, ◌+◌, ◌*◌, ◌/◌, ◌%◌, ◌≤◌, ◌<◌}
use native.Mathlib.Nat.{mul-div-le, lt-mul-div-succ, div-eq_of_lt, div-eq_of_lt-le, div-lt_iff_lt-mul, div-add-mod, mod-lt}
use native.Mathlib.Omega.{arith}
use lib.IntN.{ℤ, pos, negsuc, ◌-ℤ◌, ◌*ℤ◌, neg_ℤ, nat_abs}
use Rattle.integers.specs.Rounded.{half_up, rounded}
use Rattle.integers.proofs.Linear.{zarith, neg-lin, minus-lin, abs-lin}
use Rattle.integers.proofs.Products.{nat_abs-negℤ}
use Rattle.integers.proofs.Ring.{*ℤ-negℤ}

-- ---- of a natural number a by m, with h the rounded quotient: 2 m h ≤ 2 a + m < 2 m h + 2 m

half-up-low : (a m : ℕ) → m * half_up a m + m * half_up a m ≤ a + a + m
unfolding half_up
half-up-low a m = omega (arith, mul-div-le (a + a + m) (m + m))

half-up-high : (a m : ℕ) → 0 < m → a + a + m < m * half_up a m + m * half_up a m + (m + m)
unfolding half_up
half-up-high a m h =
    let k : 0 < m + m = omega arith in
    omega (arith, lt-mul-div-succ (a + a + m) k)

half-up-unique : (a m k : ℕ) → m * k + m * k ≤ a + a + m → a + a + m < m * k + m * k + (m + m) → half_up a m ≡ k
unfolding half_up
half-up-unique a m k low high = div-eq_of_lt-le (m + m) (omega arith) (omega arith)

half-up-zero : (m : ℕ) → half_up 0 m ≡ 0
unfolding half_up
half-up-zero zero = refl
half-up-zero (suc m) = div-eq_of_lt (omega arith)

half-up-half : (a m k : ℕ) → 0 < m → a + a ≡ m * (k + k + 1) → half_up a m ≡ k + 1
half-up-half a m k h e = half-up-unique a m (k + 1) (omega arith) (omega arith)

half-up-bound : (a m b : ℕ) → 0 < m → a ≤ m * b → half_up a m ≤ b
unfolding half_up
half-up-bound a m b h k =
    let p : 0 < m + m = omega arith in
    let l : (a + a + m) / (m + m) < suc b = (div-lt_iff_lt-mul p).1 (omega arith) in
    omega arith

-- The quotient rounded down is the one that is rounded where less than a half is left, and otherwise one too small.
pub half-up-stays : (a m : ℕ) → a % m + a % m < m → half_up a m ≡ a / m
half-up-stays a m h = half-up-unique a m (a / m) (omega (arith, div-add-mod a m)) (omega (arith, div-add-mod a m))

pub half-up-next : (a m : ℕ) → 0 < m → m ≤ a % m + a % m → half_up a m ≡ a / m + 1
half-up-next a m h k = half-up-unique a m (a / m + 1) (omega (arith, div-add-mod a m)) (omega (arith, div-add-mod a m, mod-lt a h))

-- ---- of an integer

-- the negative of a number has the negative quotient
pub rounded-negℤ : (z : ℤ) (m : ℕ) → rounded (neg_ℤ z) m ≡ neg_ℤ (rounded z m)
unfolding rounded
rounded-negℤ (pos zero) m = rw (half-up-zero m) refl
rounded-negℤ (pos (suc a)) m = refl
rounded-negℤ (negsuc a) m = omega (zarith, neg-lin (pos (half_up (suc a) m)), neg-lin (neg_ℤ (pos (half_up (suc a) m))))

-- a half goes away from zero: k + 1/2 times m has k + 1
pub rounded-half : (z : ℤ) (m k : ℕ) → 0 < m → nat_abs z + nat_abs z ≡ m * (k + k + 1) → nat_abs (rounded z m) ≡ k + 1
unfolding rounded
rounded-half (pos a) m k h e = half-up-half a m k h e
rounded-half (negsuc a) m k h e = rw (nat_abs-negℤ (pos (half_up (suc a) m))) (half-up-half (suc a) m k h e)

-- no magnitude is rounded past a bound that it keeps
pub rounded-bound : (z : ℤ) (m b : ℕ) → 0 < m → nat_abs z ≤ m * b → nat_abs (rounded z m) ≤ b
unfolding rounded
rounded-bound (pos a) m b h k = half-up-bound a m b h k
rounded-bound (negsuc a) m b h k = rw (nat_abs-negℤ (pos (half_up (suc a) m))) (half-up-bound (suc a) m b h k)

near : (a m : ℕ) → 0 < m → 2 * nat_abs (pos m *ℤ pos (half_up a m) -ℤ pos a) ≤ m
near a m h =
    let x : ℤ = pos m *ℤ pos (half_up a m) in
    omega (zarith, half-up-low a m, half-up-high a m h, minus-lin x (pos a), abs-lin (x -ℤ pos a))

-- twice what is rounded off is at most the divisor
pub rounded-near : (z : ℤ) (m : ℕ) → 0 < m → 2 * nat_abs (pos m *ℤ rounded z m -ℤ z) ≤ m
unfolding rounded
rounded-near (pos a) m h = near a m h
rounded-near (negsuc a) m h =
    let k : ℤ = pos (half_up (suc a) m) in
    let x : ℤ = pos m *ℤ k in
    let y : ℤ = pos m *ℤ neg_ℤ k in
    omega (zarith, near (suc a) m h, *ℤ-negℤ (pos m) k, neg-lin x, minus-lin x (pos (suc a)), minus-lin y (negsuc a), abs-lin (x -ℤ pos (suc a)), abs-lin (y -ℤ negsuc a))
