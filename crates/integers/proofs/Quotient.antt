-- Division toward zero by a positive number, as an `i64` is divided: the remainder is smaller than the divisor, the quotient no larger than the dividend.
use Prim.Native.Nat.{suc, ◌/◌, ◌%◌, ◌≤◌, ◌<◌}
use native.Mathlib.Nat.{mod-lt, div-le_self}
use lib.IntN.{ℤ, pos, negsuc, nat_abs}
use lib.Signed.{quot_z, rem_z, ◌≤ℤ◌}
use Rattle.integers.proofs.Linear.{zarith}
use Rattle.integers.proofs.Products.{nat_abs-negℤ}

pub rem-small : (a b : ℤ) → pos 1 ≤ℤ b → nat_abs (rem_z a b) < nat_abs b
rem-small (pos a) (pos m) h = mod-lt a (omega zarith)
rem-small (negsuc a) (pos m) h = rw (nat_abs-negℤ (pos (suc a % m))) (mod-lt (suc a) (omega zarith))
rem-small a (negsuc m) h = absurd (omega zarith)

pub quot-small : (a b : ℤ) → pos 1 ≤ℤ b → nat_abs (quot_z a b) ≤ nat_abs a
quot-small (pos a) (pos m) h = div-le_self a m
quot-small (negsuc a) (pos m) h = rw (nat_abs-negℤ (pos (suc a / m))) (div-le_self (suc a) m)
quot-small a (negsuc m) h = absurd (omega zarith)
