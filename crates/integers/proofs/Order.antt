-- Order of the integers and its tests: from a fact to the test's value and back, transitivity, and what a range test says.
use mathlib.Core.Path.{◌≡◌, refl, sym, subst}
use mathlib.Core.Logic.{◌⊎◌, inl, inr}
use mathlib.Core.Bool.{Bool, true, false, ◌&&◌}
use lib.Dec.{T}
use lib.IntN.{ℤ}
use lib.Signed.{lt_z, le_z, ◌≤ℤ◌, ◌<ℤ◌}
use Rattle.integers.specs.Order.{in_range}
use Rattle.integers.proofs.Parts.{split}
use Rattle.integers.proofs.Linear.{zarith}

-- ---- tests

pub le-le_z : {a b : ℤ} → a ≤ℤ b → le_z a b ≡ true
le-le_z h = omega zarith

pub lt-le_z : {a b : ℤ} → b <ℤ a → le_z a b ≡ false
lt-le_z h = omega zarith

pub lt-lt_z : {a b : ℤ} → a <ℤ b → lt_z a b ≡ true
lt-lt_z h = omega zarith

pub le-lt_z : {a b : ℤ} → b ≤ℤ a → lt_z a b ≡ false
le-lt_z h = omega zarith

pub le_z-le : (a b : ℤ) → le_z a b ≡ true → a ≤ℤ b
le_z-le a b e = omega zarith

pub le_z-lt : (a b : ℤ) → le_z a b ≡ false → b <ℤ a
le_z-lt a b e = omega zarith

pub lt_z-lt : (a b : ℤ) → lt_z a b ≡ true → a <ℤ b
lt_z-lt a b e = omega zarith

pub lt_z-le : (a b : ℤ) → lt_z a b ≡ false → b ≤ℤ a
lt_z-le a b e = omega zarith

-- ---- order

pub ≤ℤ-trans : {a b c : ℤ} → a ≤ℤ b → b ≤ℤ c → a ≤ℤ c
≤ℤ-trans h k = omega zarith

pub <ℤ-trans : {a b c : ℤ} → a <ℤ b → b <ℤ c → a <ℤ c
<ℤ-trans h k = omega zarith

pub ≤ℤ-antisym : {a b : ℤ} → a ≤ℤ b → b ≤ℤ a → a ≡ b
≤ℤ-antisym h k = omega zarith

pub <ℤ-≤ℤ : {a b : ℤ} → a <ℤ b → a ≤ℤ b
<ℤ-≤ℤ h = omega zarith

-- one is at most the other, or above it
pub ≤ℤ-or-> : (a b : ℤ) → (a ≤ℤ b) ⊎ (b <ℤ a)
≤ℤ-or-> a b = go (split (le_z a b))
  where
    go : (le_z a b ≡ true) ⊎ (le_z a b ≡ false) → (a ≤ℤ b) ⊎ (b <ℤ a)
    go (inl e) = inl (le_z-le a b e)
    go (inr e) = inr (le_z-lt a b e)

-- ---- ranges

both : (s t : Bool) → (s && t) ≡ true → (s ≡ true) × (t ≡ true)
both true true e = (refl, refl)
both true false e = absurd (subst T (sym e) tt)
both false t e = absurd (subst T (sym e) tt)

either : (s t : Bool) → (s && t) ≡ false → (s ≡ false) ⊎ (t ≡ false)
either true true e = absurd (subst T e tt)
either true false e = inr refl
either false t e = inl refl

pub in_range-true : (low high z : ℤ) → in_range low high z ≡ true → (low ≤ℤ z) × (z ≤ℤ high)
unfolding in_range
in_range-true low high z e =
    let t : (le_z low z ≡ true) × (le_z z high ≡ true) = both (le_z low z) (le_z z high) e in
    (le_z-le low z t.0, le_z-le z high t.1)

pub true-in_range : {low high z : ℤ} → low ≤ℤ z → z ≤ℤ high → in_range low high z ≡ true
unfolding in_range
true-in_range {low} {high} {z} h k = rw (le-le_z h, le-le_z k)

pub in_range-false : (low high z : ℤ) → in_range low high z ≡ false → (z <ℤ low) ⊎ (high <ℤ z)
unfolding in_range
in_range-false low high z e = go (either (le_z low z) (le_z z high) e)
  where
    go : (le_z low z ≡ false) ⊎ (le_z z high ≡ false) → (z <ℤ low) ⊎ (high <ℤ z)
    go (inl f) = inl (le_z-lt low z f)
    go (inr f) = inr (le_z-lt z high f)

pub below-in_range : {low z : ℤ} (high : ℤ) → z <ℤ low → in_range low high z ≡ false
unfolding in_range
below-in_range high h = rw (lt-le_z h)

pub above-in_range : {high z : ℤ} (low : ℤ) → high <ℤ z → in_range low high z ≡ false
unfolding in_range
above-in_range {high} {z} low h = go (le_z low z) (le_z z high) (lt-le_z h)
  where
    go : (s t : Bool) → t ≡ false → (s && t) ≡ false
    go true t e = e
    go false t e = refl
