-- Products by a factor that is not negative: they keep order, and a positive one cancels. Magnitudes of products and sums, and when they fit an `i64`.
use mathlib.Core.Path.{◌≡◌, refl}
use Prim.Native.Nat.{ℕ, zero, suc, ◌+◌, ◌*◌, ◌^◌, ◌≤◌, ◌<◌}
use native.Mathlib.Nat.{mul-le-mul, mul-le-mul_left, mul-lt-mul_of_pos_left, le_of_mul-le-mul_left, lt_of_mul-lt-mul_left}
use native.Mathlib.Omega.{arith}
use lib.IntN.{ℤ, pos, negsuc, ◌+ℤ◌, ◌-ℤ◌, ◌*ℤ◌, neg_ℤ, nat_abs}
use lib.Signed.{◌≤ℤ◌, ◌<ℤ◌}
use mir.Syntax.{w64}
use mir.Val.{SFits}
use Rattle.integers.proofs.Parts.{pos_part, neg_part, le_parts, lt-parts}
use Rattle.integers.proofs.Linear.{zarith, neg-lin, +-lin, minus-lin, *-lin, abs-sum, abs-lin}

-- ---- order

-- a natural number of times
pub times-lin : (m : ℕ) (a : ℤ) → pos_part (pos m *ℤ a) + m * neg_part a ≡ m * pos_part a + neg_part (pos m *ℤ a)
times-lin m a = omega (arith, *-lin (pos m) a)

times-mono : (m : ℕ) (a b : ℤ) → a ≤ℤ b → (pos m *ℤ a) ≤ℤ (pos m *ℤ b)
times-mono m a b h = omega (zarith, times-lin m a, times-lin m b, mul-le-mul_left m (le_parts h))

times-strict : (m : ℕ) (a b : ℤ) → 0 < m → a <ℤ b → (pos m *ℤ a) <ℤ (pos m *ℤ b)
times-strict m a b p h = omega (zarith, times-lin m a, times-lin m b, mul-lt-mul_of_pos_left (lt-parts h) p)

pub times-cancel-≤ : {a b : ℤ} (m : ℕ) → 0 < m → (pos m *ℤ a) ≤ℤ (pos m *ℤ b) → a ≤ℤ b
times-cancel-≤ {a} {b} m p h =
    let k : m * (pos_part a + neg_part b) ≤ m * (pos_part b + neg_part a) = omega (zarith, times-lin m a, times-lin m b) in
    omega (zarith, le_of_mul-le-mul_left k p)

pub times-cancel-< : {a b : ℤ} (m : ℕ) → (pos m *ℤ a) <ℤ (pos m *ℤ b) → a <ℤ b
times-cancel-< {a} {b} m h =
    let k : m * (pos_part a + neg_part b) < m * (pos_part b + neg_part a) = omega (zarith, times-lin m a, times-lin m b) in
    omega (zarith, lt_of_mul-lt-mul_left m k)

pub *ℤ-mono : {a b : ℤ} (k : ℤ) → pos 0 ≤ℤ k → a ≤ℤ b → (k *ℤ a) ≤ℤ (k *ℤ b)
*ℤ-mono {a} {b} (pos m) p h = times-mono m a b h
*ℤ-mono (negsuc m) p h = absurd (omega zarith)

pub *ℤ-strict : {a b : ℤ} (k : ℤ) → pos 0 <ℤ k → a <ℤ b → (k *ℤ a) <ℤ (k *ℤ b)
*ℤ-strict {a} {b} (pos m) p h = times-strict m a b (omega zarith) h
*ℤ-strict (negsuc m) p h = absurd (omega zarith)

pub *ℤ-cancel-≤ : {a b : ℤ} (k : ℤ) → pos 0 <ℤ k → (k *ℤ a) ≤ℤ (k *ℤ b) → a ≤ℤ b
*ℤ-cancel-≤ (pos m) p h = times-cancel-≤ m (omega zarith) h
*ℤ-cancel-≤ (negsuc m) p h = absurd (omega zarith)

pub *ℤ-cancel-< : {a b : ℤ} (k : ℤ) → pos 0 ≤ℤ k → (k *ℤ a) <ℤ (k *ℤ b) → a <ℤ b
*ℤ-cancel-< (pos m) p h = times-cancel-< m h
*ℤ-cancel-< (negsuc m) p h = absurd (omega zarith)

pub *ℤ-cancel : {a b : ℤ} (k : ℤ) → pos 0 <ℤ k → k *ℤ a ≡ k *ℤ b → a ≡ b
*ℤ-cancel {a} {b} k p e =
    let u : a ≤ℤ b = *ℤ-cancel-≤ k p (omega zarith) in
    let v : b ≤ℤ a = *ℤ-cancel-≤ k p (omega zarith) in
    omega zarith

-- ---- magnitudes

pub nat_abs-negℤ : (a : ℤ) → nat_abs (neg_ℤ a) ≡ nat_abs a
nat_abs-negℤ (pos zero) = refl
nat_abs-negℤ (pos (suc a)) = refl
nat_abs-negℤ (negsuc a) = refl

pub nat_abs-*ℤ : (a b : ℤ) → nat_abs (a *ℤ b) ≡ nat_abs a * nat_abs b
nat_abs-*ℤ (pos a) (pos b) = refl
nat_abs-*ℤ (pos a) (negsuc b) = nat_abs-negℤ (pos (a * suc b))
nat_abs-*ℤ (negsuc a) (pos b) = nat_abs-negℤ (pos (suc a * b))
nat_abs-*ℤ (negsuc a) (negsuc b) = refl

pub nat_abs-+ℤ : (a b : ℤ) → nat_abs (a +ℤ b) ≤ nat_abs a + nat_abs b
nat_abs-+ℤ a b = omega (arith, +-lin a b, abs-sum a, abs-sum b, abs-lin (a +ℤ b))

pub nat_abs--ℤ : (a b : ℤ) → nat_abs (a -ℤ b) ≤ nat_abs a + nat_abs b
nat_abs--ℤ a b = omega (arith, minus-lin a b, abs-sum a, abs-sum b, abs-lin (a -ℤ b))

pub nat_abs-mul-≤ : (a b : ℤ) {A B : ℕ} → nat_abs a ≤ A → nat_abs b ≤ B → nat_abs (a *ℤ b) ≤ A * B
nat_abs-mul-≤ a b h k = rw (nat_abs-*ℤ a b) (mul-le-mul h k)

-- ---- ranges

pub sfits-of-bound : (z : ℤ) {B : ℕ} → nat_abs z ≤ B → B < 2 ^ 63 → SFits w64 z
sfits-of-bound z h k = omega (zarith, abs-sum z)

pub mul-sfits : (a b : ℤ) {A B : ℕ} → nat_abs a ≤ A → nat_abs b ≤ B → A * B < 2 ^ 63 → SFits w64 (a *ℤ b)
mul-sfits a b h k l = sfits-of-bound (a *ℤ b) (nat_abs-mul-≤ a b h k) l

-- between -bound and bound
pub nat_abs-≤ : (z : ℤ) (B : ℕ) → nat_abs z ≤ B → (neg_ℤ (pos B) ≤ℤ z) × (z ≤ℤ pos B)
nat_abs-≤ z B h = (omega (zarith, abs-sum z, neg-lin (pos B)), omega (zarith, abs-sum z))

pub ≤-nat_abs : (z : ℤ) (B : ℕ) → neg_ℤ (pos B) ≤ℤ z → z ≤ℤ pos B → nat_abs z ≤ B
≤-nat_abs z B h k = omega (zarith, abs-lin z, neg-lin (pos B))
