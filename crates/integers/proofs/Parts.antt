-- The positive and the negative part of an integer, and what orders, equations and tests say in parts, and back: what `Linear.zarith` is made of.
use mathlib.Core.Path.{◌≡◌, refl, sym, ap, ◌∙◌, subst}
use mathlib.Core.Logic.{◌≢◌, ◌⊎◌, inl, inr}
use mathlib.Core.Bool.{Bool, true, false, not}
use Prim.Native.Nat.{ℕ, suc, ◌+◌, ◌-◌, ◌≤◌, ◌<◌}
use native.Mathlib.Omega.{arith}
use borrow.Author.Tests.{eqb-true, eq-eqb}
use lib.Dec.{T, leb→le, le→leb, ltb→lt, lt→ltb, nleb→lt, nltb→le}
use lib.IntN.{ℤ, pos, negsuc}
use lib.Signed.{lt_z, le_z, ◌≤ℤ◌, ◌<ℤ◌}
use Rattle.integers.specs.Order.{eq_z}

-- ---- the parts

-- z where z is not negative, else 0
abbrev pub pos_part : ℤ → ℕ
pos_part (pos a) = a
pos_part (negsuc a) = 0

-- -z where z is negative, else 0
abbrev pub neg_part : ℤ → ℕ
neg_part (pos a) = 0
neg_part (negsuc a) = suc a

-- A test is one of two.
pub split : (b : Bool) → (b ≡ true) ⊎ (b ≡ false)
split true = inl refl
split false = inr refl

is : (b : Bool) → b ≡ true → T b
is b e = subst T (sym e) tt

isn't : (b : Bool) → b ≡ false → T (not b)
isn't b e = subst (λ (t : Bool). T (not t)) (sym e) tt

yes_true : (b : Bool) → T b → b ≡ true
yes_true true t = refl
yes_true false t = absurd t

no_false : (b : Bool) → T (not b) → b ≡ false
no_false true t = absurd t
no_false false t = refl

-- ---- at most

pub le_z-T : (a b : ℤ) → T (le_z a b) → pos_part a + neg_part b ≤ pos_part b + neg_part a
le_z-T (pos a) (pos b) t = omega (arith, leb→le a b t)
le_z-T (pos a) (negsuc b) t = absurd t
le_z-T (negsuc a) (pos b) t = omega arith
le_z-T (negsuc a) (negsuc b) t = omega (arith, leb→le b a t)

pub le_z-not : (a b : ℤ) → T (not (le_z a b)) → pos_part b + neg_part a < pos_part a + neg_part b
le_z-not (pos a) (pos b) t = omega (arith, nleb→lt a b t)
le_z-not (pos a) (negsuc b) t = omega arith
le_z-not (negsuc a) (pos b) t = absurd t
le_z-not (negsuc a) (negsuc b) t = omega (arith, nleb→lt b a t)

pub T-le_z : (a b : ℤ) → pos_part a + neg_part b ≤ pos_part b + neg_part a → T (le_z a b)
T-le_z (pos a) (pos b) h = le→leb a b (omega arith)
T-le_z (pos a) (negsuc b) h = absurd (omega arith)
T-le_z (negsuc a) (pos b) h = tt
T-le_z (negsuc a) (negsuc b) h = le→leb b a (omega arith)

pub le_z-true : (a b : ℤ) → le_z a b ≡ true → pos_part a + neg_part b ≤ pos_part b + neg_part a
le_z-true a b e = le_z-T a b (is _ e)

pub le_z-false : (a b : ℤ) → le_z a b ≡ false → pos_part b + neg_part a < pos_part a + neg_part b
le_z-false a b e = le_z-not a b (isn't _ e)

pub true-le_z : (a b : ℤ) → pos_part a + neg_part b ≤ pos_part b + neg_part a → le_z a b ≡ true
true-le_z a b h = yes_true _ (T-le_z a b h)

pub false-le_z : (a b : ℤ) → pos_part b + neg_part a < pos_part a + neg_part b → le_z a b ≡ false
false-le_z a b h = go (split (le_z a b))
  where
    go : (le_z a b ≡ true) ⊎ (le_z a b ≡ false) → le_z a b ≡ false
    go (inl e) = absurd (omega (arith, le_z-true a b e))
    go (inr e) = e

pub not_le_z : (a b : ℤ) → pos_part b + neg_part a < pos_part a + neg_part b → T (not (le_z a b))
not_le_z a b h = isn't _ (false-le_z a b h)

pub le_parts : {a b : ℤ} → a ≤ℤ b → pos_part a + neg_part b ≤ pos_part b + neg_part a
le_parts {a} {b} h = le_z-T a b h.le

pub parts-le : {a b : ℤ} → pos_part a + neg_part b ≤ pos_part b + neg_part a → a ≤ℤ b
parts-le {a} {b} h = record { le = T-le_z a b h }

-- ---- below

pub lt_z-T : (a b : ℤ) → T (lt_z a b) → pos_part a + neg_part b < pos_part b + neg_part a
lt_z-T (pos a) (pos b) t = omega (arith, ltb→lt a b t)
lt_z-T (pos a) (negsuc b) t = absurd t
lt_z-T (negsuc a) (pos b) t = omega arith
lt_z-T (negsuc a) (negsuc b) t = omega (arith, ltb→lt b a t)

pub lt_z-not : (a b : ℤ) → T (not (lt_z a b)) → pos_part b + neg_part a ≤ pos_part a + neg_part b
lt_z-not (pos a) (pos b) t = omega (arith, nltb→le a b t)
lt_z-not (pos a) (negsuc b) t = omega arith
lt_z-not (negsuc a) (pos b) t = absurd t
lt_z-not (negsuc a) (negsuc b) t = omega (arith, nltb→le b a t)

pub T-lt_z : (a b : ℤ) → pos_part a + neg_part b < pos_part b + neg_part a → T (lt_z a b)
T-lt_z (pos a) (pos b) h = lt→ltb a b (omega arith)
T-lt_z (pos a) (negsuc b) h = absurd (omega arith)
T-lt_z (negsuc a) (pos b) h = tt
T-lt_z (negsuc a) (negsuc b) h = lt→ltb b a (omega arith)

pub lt_z-true : (a b : ℤ) → lt_z a b ≡ true → pos_part a + neg_part b < pos_part b + neg_part a
lt_z-true a b e = lt_z-T a b (is _ e)

pub lt_z-false : (a b : ℤ) → lt_z a b ≡ false → pos_part b + neg_part a ≤ pos_part a + neg_part b
lt_z-false a b e = lt_z-not a b (isn't _ e)

pub true-lt_z : (a b : ℤ) → pos_part a + neg_part b < pos_part b + neg_part a → lt_z a b ≡ true
true-lt_z a b h = yes_true _ (T-lt_z a b h)

pub false-lt_z : (a b : ℤ) → pos_part b + neg_part a ≤ pos_part a + neg_part b → lt_z a b ≡ false
false-lt_z a b h = go (split (lt_z a b))
  where
    go : (lt_z a b ≡ true) ⊎ (lt_z a b ≡ false) → lt_z a b ≡ false
    go (inl e) = absurd (omega (arith, lt_z-true a b e))
    go (inr e) = e

pub not_lt_z : (a b : ℤ) → pos_part b + neg_part a ≤ pos_part a + neg_part b → T (not (lt_z a b))
not_lt_z a b h = isn't _ (false-lt_z a b h)

pub lt-parts : {a b : ℤ} → a <ℤ b → pos_part a + neg_part b < pos_part b + neg_part a
lt-parts {a} {b} h = lt_z-T a b h.lt

pub parts-lt : {a b : ℤ} → pos_part a + neg_part b < pos_part b + neg_part a → a <ℤ b
parts-lt {a} {b} h = record { lt = T-lt_z a b h }

-- ---- equal

pub eq-parts : {a b : ℤ} → a ≡ b → pos_part a + neg_part b ≡ pos_part b + neg_part a
eq-parts e = omega (arith, ap pos_part e, ap neg_part e)

pub parts-eq : {a b : ℤ} → pos_part a + neg_part b ≡ pos_part b + neg_part a → a ≡ b
parts-eq {a = pos a} {b = pos b} h = ap pos (omega arith)
parts-eq {a = pos a} {b = negsuc b} h = absurd (omega arith)
parts-eq {a = negsuc a} {b = pos b} h = absurd (omega arith)
parts-eq {a = negsuc a} {b = negsuc b} h = ap negsuc (omega arith)

-- listed with its argument: `omega (zarith, ne-parts h)`
pub ne-parts : {a b : ℤ} → a ≢ b → pos_part a + neg_part b ≢ pos_part b + neg_part a
ne-parts h e = h (parts-eq e)

pub parts-ne : {a b : ℤ} → pos_part a + neg_part b ≢ pos_part b + neg_part a → a ≢ b
parts-ne h e = h (eq-parts e)

pub eq_z-true : (a b : ℤ) → eq_z a b ≡ true → a ≡ b
unfolding eq_z
eq_z-true (pos a) (pos b) e = ap pos (eqb-true a b e)
eq_z-true (pos a) (negsuc b) e = absurd (subst T (sym e) tt)
eq_z-true (negsuc a) (pos b) e = absurd (subst T (sym e) tt)
eq_z-true (negsuc a) (negsuc b) e = ap negsuc (eqb-true a b e)

pub eq_z-refl : (a : ℤ) → eq_z a a ≡ true
unfolding eq_z
eq_z-refl (pos a) = eq-eqb a a refl
eq_z-refl (negsuc a) = eq-eqb a a refl

pub true-eq_z : (a b : ℤ) → a ≡ b → eq_z a b ≡ true
true-eq_z a b e = rw e (eq_z-refl b)

pub eq_z-false : (a b : ℤ) → eq_z a b ≡ false → a ≢ b
eq_z-false a b e h = subst T (sym (true-eq_z a b h) ∙ e) tt

pub false-eq_z : (a b : ℤ) → a ≢ b → eq_z a b ≡ false
false-eq_z a b h = go (split (eq_z a b))
  where
    go : (eq_z a b ≡ true) ⊎ (eq_z a b ≡ false) → eq_z a b ≡ false
    go (inl e) = absurd (h (eq_z-true a b e))
    go (inr e) = e

pub eq_z-true-parts : (a b : ℤ) → eq_z a b ≡ true → pos_part a + neg_part b ≡ pos_part b + neg_part a
eq_z-true-parts a b e = eq-parts (eq_z-true a b e)

pub eq_z-false-parts : (a b : ℤ) → eq_z a b ≡ false → 0 < (pos_part a + neg_part b - (pos_part b + neg_part a)) + (pos_part b + neg_part a - (pos_part a + neg_part b))
eq_z-false-parts a b e = omega (arith, ne-parts (eq_z-false a b e))

pub parts-true-eq_z : (a b : ℤ) → pos_part a + neg_part b ≡ pos_part b + neg_part a → eq_z a b ≡ true
parts-true-eq_z a b h = true-eq_z a b (parts-eq h)

pub parts-false-eq_z : (a b : ℤ) → 0 < (pos_part a + neg_part b - (pos_part b + neg_part a)) + (pos_part b + neg_part a - (pos_part a + neg_part b)) → eq_z a b ≡ false
parts-false-eq_z a b h = false-eq_z a b (parts-ne (omega arith))
