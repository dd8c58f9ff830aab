-- How many digits a number has: one more than a tenth of it, and at most 20 where it is below 2 ^ 64. Assumes nothing.
use Prim.Native.Nat.{ℕ, zero, suc, ◌+◌, ◌-◌, ◌*◌, ◌/◌, ◌%◌, ◌<◌, ◌≤◌, ◌^◌}
use mathlib.Core.Path.{◌≡◌, ap, ◌∙◌}
use mathlib.Core.List.{[], ◌∷◌}
use mathlib.Core.Logic.{◌⊎◌, inl, inr}
use native.Mathlib.Omega.{arith}
use lib.ListN.{length, length-append}
use Rattle.text.specs.Decimal.{digit, digits_of}
use Rattle.text.proofs.DecimalLaws.{one-or-more, digits-one, digits_more}

pub width_one : (n : ℕ) → n < 10 → length (digits_of n) ≡ 1
width_one n h = ap length (digits-one n h)

pub width-more : (n : ℕ) → 10 ≤ n → length (digits_of n) ≡ length (digits_of (n / 10)) + 1
width-more n h = ap length (digits_more n h) ∙ length-append (digits_of (n / 10)) (digit (n % 10) ∷ [])

-- Where nothing is left of it, the one digit of 0 is not counted.
pub width-of-tenth : (n : ℕ) → 1 + length (digits_of (n / 10)) ≡ length (digits_of n) + (1 - n / 10)
width-of-tenth n = go (one-or-more n)
  where
    go : (n < 10) ⊎ (10 ≤ n) → 1 + length (digits_of (n / 10)) ≡ length (digits_of n) + (1 - n / 10)
    go (inl few) = omega (arith, width_one n few, width_one (n / 10) (omega arith))
    go (inr many) = omega (arith, width-more n many)

-- 10 ^ k
abbrev tenfold : ℕ → ℕ
tenfold zero = 1
tenfold (suc k) = 10 * tenfold k

few-digits : (k n : ℕ) → n < tenfold (suc k) → length (digits_of n) ≤ suc k
few-digits zero n h = omega (arith, width_one n (omega arith))
few-digits (suc k) n h = go (one-or-more n) (few-digits k (n / 10) (omega arith))
  where
    go : (n < 10) ⊎ (10 ≤ n) → length (digits_of (n / 10)) ≤ suc k → length (digits_of n) ≤ suc (suc k)
    go (inl few) onward = omega (arith, width_one n few)
    go (inr many) onward = omega (arith, width-more n many)

pub width-bound : (n : ℕ) → n < 2 ^ 64 → length (digits_of n) ≤ 20
width-bound n h = few-digits 19 n (omega arith)
