-- The tests `eq_z`, `lt_z`, `le_z` on integers decide equality and a strict linear order. By linear arithmetic. Assumes nothing.
use mathlib.Core.Path.{◌≡◌}
use mathlib.Core.Bool.{true, false}
use lib.IntN.{ℤ}
use lib.Signed.{lt_z, le_z}
use Rattle.integers.specs.Order.{eq_z}
use Rattle.integers.proofs.Linear.{zarith}
use Rattle.keys.proofs.Split.{both_ways}
pub use Rattle.integers.proofs.Parts.{eq_z-refl, eq_z-true, eq_z-false, true-eq_z as eq_z-eq, false-eq_z as eq_z-ne}

pub eq_z-sym : (a b : ℤ) → eq_z a b ≡ eq_z b a
eq_z-sym a b = both_ways (eq_z a b) (eq_z b a) (λ t. omega zarith) (λ t. omega zarith)

pub lt_z-irrefl : (a : ℤ) → lt_z a a ≡ false
lt_z-irrefl a = omega zarith

pub lt_z-trans : (a b c : ℤ) → lt_z a b ≡ true → lt_z b c ≡ true → lt_z a c ≡ true
lt_z-trans a b c h k = omega zarith

pub lt_z-asym : (a b : ℤ) → lt_z a b ≡ true → lt_z b a ≡ false
lt_z-asym a b h = omega zarith

pub lt_z-ne : (a b : ℤ) → lt_z a b ≡ true → eq_z a b ≡ false
lt_z-ne a b h = omega zarith

-- Of two integers neither below the other, both are the same.
pub lt_z-level : (a b : ℤ) → lt_z a b ≡ false → lt_z b a ≡ false → a ≡ b
lt_z-level a b h k = omega zarith

-- At most is not above.
pub le_z-of-not-lt_z : (a b : ℤ) → lt_z b a ≡ false → le_z a b ≡ true
le_z-of-not-lt_z a b h = omega zarith

pub not-lt_z-of-le_z : (a b : ℤ) → le_z a b ≡ true → lt_z b a ≡ false
not-lt_z-of-le_z a b h = omega zarith

pub lt_z-of-not-le_z : (a b : ℤ) → le_z a b ≡ false → lt_z b a ≡ true
lt_z-of-not-le_z a b h = omega zarith

pub le_z-refl : (a : ℤ) → le_z a a ≡ true
le_z-refl a = omega zarith

pub le_z-of-lt_z : (a b : ℤ) → lt_z a b ≡ true → le_z a b ≡ true
le_z-of-lt_z a b h = omega zarith

pub le_z-trans : (a b c : ℤ) → le_z a b ≡ true → le_z b c ≡ true → le_z a c ≡ true
le_z-trans a b c h k = omega zarith
