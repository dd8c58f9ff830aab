-- Linear arithmetic on the integers by `omega (zarith, ..)`: the operations, signs and ranges in parts, and the set of rules.
-- One law is listed for each operation in the fact: `omega (zarith, +-lin a b)`. Orders, equations, tests and ranges among the hypotheses need nothing.
use mathlib.Core.Path.{◌≡◌, refl}
use mathlib.Core.Bool.{Bool, true, false, not, cond}
use Prim.Native.Nat.{ℕ, zero, suc, ◌+◌, ◌*◌, ◌-◌, ◌^◌, ◌≤◌, ◌<◌, min, max}
use native.Mathlib.Omega.{arith}
use lib.Dec.{T, ltb, ltb→lt, nltb→le}
use lib.IntN.{ℤ, pos, negsuc, ◌+ℤ◌, ◌-ℤ◌, ◌*ℤ◌, neg_ℤ, nat_abs, sub_ℕ}
use lib.Signed.{lt_z, le_z, non_neg, ◌≤ℤ◌}
use mir.Syntax.{w64}
use mir.Val.{SFits}
use Rattle.integers.proofs.Parts.{pos_part, neg_part, le_parts, parts-le, lt-parts, parts-lt, eq-parts, parts-eq}
use Rattle.integers.proofs.Parts.{le_z-T, le_z-not, T-le_z, not_le_z, le_z-true, le_z-false, true-le_z, false-le_z}
use Rattle.integers.proofs.Parts.{lt_z-T, lt_z-not, T-lt_z, not_lt_z, lt_z-true, lt_z-false, true-lt_z, false-lt_z}
use Rattle.integers.proofs.Parts.{eq_z-true-parts, eq_z-false-parts, parts-true-eq_z, parts-false-eq_z}

-- ---- operations

-- the difference of two naturals
pub sub-lin : (a b : ℕ) → pos_part (sub_ℕ a b) + b ≡ a + neg_part (sub_ℕ a b)
sub-lin a b = go (ltb a b) (ltb→lt a b) (nltb→le a b)
  where
    go : (t : Bool) → (T t → a < b) → (T (not t) → b ≤ a)
        → pos_part (cond t (negsuc (b - suc a)) (pos (a - b))) + b ≡ a + neg_part (cond t (negsuc (b - suc a)) (pos (a - b)))
    go true f g = omega (arith, f tt)
    go false f g = omega (arith, g tt)

pub neg-lin : (a : ℤ) → (pos_part (neg_ℤ a) ≡ neg_part a) × (neg_part (neg_ℤ a) ≡ pos_part a)
neg-lin (pos zero) = (refl, refl)
neg-lin (pos (suc a)) = (refl, refl)
neg-lin (negsuc a) = (refl, refl)

pub +-lin : (a b : ℤ) → pos_part (a +ℤ b) + (neg_part a + neg_part b) ≡ pos_part a + pos_part b + neg_part (a +ℤ b)
+-lin (pos a) (pos b) = omega arith
+-lin (pos a) (negsuc b) = omega (arith, sub-lin a (suc b))
+-lin (negsuc a) (pos b) = omega (arith, sub-lin b (suc a))
+-lin (negsuc a) (negsuc b) = omega arith

pub minus-lin : (a b : ℤ) → pos_part (a -ℤ b) + (neg_part a + pos_part b) ≡ pos_part a + neg_part b + neg_part (a -ℤ b)
minus-lin a b = omega (arith, +-lin a (neg_ℤ b), neg-lin b)

-- of a product by parts: what it is linear in are the products of parts
pub *-lin : (a b : ℤ) → pos_part (a *ℤ b) + (pos_part a * neg_part b + neg_part a * pos_part b) ≡ pos_part a * pos_part b + neg_part a * neg_part b + neg_part (a *ℤ b)
*-lin (pos a) (pos b) = omega arith
*-lin (pos a) (negsuc b) = omega (arith, neg-lin (pos (a * suc b)))
*-lin (negsuc a) (pos b) = omega (arith, neg-lin (pos (suc a * b)))
*-lin (negsuc a) (negsuc b) = omega arith

pub abs-sum : (a : ℤ) → nat_abs a ≡ pos_part a + neg_part a
abs-sum (pos a) = omega arith
abs-sum (negsuc a) = omega arith

-- the magnitude is the sum of the parts, of which one is 0
pub abs-lin : (a : ℤ) → (nat_abs a ≡ pos_part a + neg_part a) × (min (pos_part a) (neg_part a) ≡ 0)
abs-lin (pos a) = omega arith
abs-lin (negsuc a) = omega arith

-- ---- signs and ranges

pub non_neg-T : (z : ℤ) → T (non_neg z) → neg_part z ≡ 0
non_neg-T (pos a) t = refl
non_neg-T (negsuc a) t = absurd t

pub T-non_neg : (z : ℤ) → neg_part z ≤ pos_part z → T (non_neg z)
T-non_neg (pos a) h = tt
T-non_neg (negsuc a) h = absurd (omega arith)

-- pos_part z < 2 ^ 63 and neg_part z ≤ 2 ^ 63 in one line, as a rule of `omega` says one thing
pub sfits-parts : {z : ℤ} → SFits w64 z → 2 ^ 63 * pos_part z + (2 ^ 63 - 1) * neg_part z ≤ 2 ^ 63 * (2 ^ 63 - 1)
sfits-parts {z = pos a} h = let k : a < 2 ^ 63 = h.sfits in omega arith
sfits-parts {z = negsuc a} h = let k : a < 2 ^ 63 = h.sfits in omega arith

pub parts-sfits : {z : ℤ} → max (suc (pos_part z) - neg_part z) (neg_part z - pos_part z) ≤ 2 ^ 63 → SFits w64 z
parts-sfits {z = pos a} h = record { sfits = omega arith }
parts-sfits {z = negsuc a} h = record { sfits = omega arith }

-- ---- the rules

pub ruleset zarith = (arith, le_parts, parts-le, lt-parts, parts-lt, eq-parts, parts-eq, le_z-T, le_z-not, T-le_z, not_le_z, le_z-true, le_z-false, true-le_z, false-le_z, lt_z-T, lt_z-not, T-lt_z, not_lt_z, lt_z-true, lt_z-false, true-lt_z, false-lt_z, eq_z-true-parts, eq_z-false-parts, parts-true-eq_z, parts-false-eq_z, non_neg-T, T-non_neg, sfits-parts, parts-sfits)

-- a difference of two, with a fact of each kind
example : (a b c : ℤ) → lt_z a b ≡ false → a ≤ℤ c → nat_abs (c -ℤ b) ≤ 5 → le_z (a -ℤ b) (pos 5) ≡ true
example a b c h k l = omega (zarith, minus-lin a b, minus-lin c b, abs-sum (c -ℤ b))
