-- Polynomial identities of the integers, and what products keep: equations and order.
-- An identity over variables a, b, c is `rw (diff a, diff b, diff c) (simp zdiff (omega arith))`: each variable is written as a difference of naturals, the operations
-- are carried out on the differences, and an equation of naturals is left.
use mathlib.Core.Path.{◌≡◌, ap}
use mathlib.Core.Logic.{◌↔◌}
use Prim.Native.Nat.{ℕ, suc, ◌+◌, ◌*◌}
use native.Mathlib.Omega.{arith}
use lib.IntN.{ℤ, pos, negsuc, ◌+ℤ◌, ◌-ℤ◌, ◌*ℤ◌, neg_ℤ, sub_ℕ}
use Rattle.integers.proofs.Parts.{pos_part, neg_part, parts-eq, eq-parts}
use Rattle.integers.proofs.Linear.{sub-lin, neg-lin, +-lin, *-lin}

-- The integer a - b of two naturals.
infixl 6 ◌⊖◌
pub ◌⊖◌ : ℕ → ℕ → ℤ
a ⊖ b = sub_ℕ a b

pub ⊖-lin : (a b : ℕ) → pos_part (a ⊖ b) + b ≡ a + neg_part (a ⊖ b)
unfolding ◌⊖◌
⊖-lin a b = sub-lin a b

pub ⊖-eq : (a b c d : ℕ) → (a ⊖ b ≡ c ⊖ d) ↔ (a + d ≡ c + b)
⊖-eq a b c d = ((λ e. omega (arith, eq-parts e, ⊖-lin a b, ⊖-lin c d)), (λ e. parts-eq (omega (arith, ⊖-lin a b, ⊖-lin c d))))

pub diff : (a : ℤ) → a ≡ pos_part a ⊖ neg_part a
diff a = parts-eq (omega (arith, ⊖-lin (pos_part a) (neg_part a)))

pub pos-⊖ : (a : ℕ) → pos a ≡ a ⊖ 0
pos-⊖ a = diff (pos a)

pub negsuc-⊖ : (a : ℕ) → negsuc a ≡ 0 ⊖ suc a
negsuc-⊖ a = diff (negsuc a)

pub ⊖-+ : (a b c d : ℕ) → (a ⊖ b) +ℤ (c ⊖ d) ≡ (a + c) ⊖ (b + d)
⊖-+ a b c d = parts-eq (omega (arith, +-lin (a ⊖ b) (c ⊖ d), ⊖-lin a b, ⊖-lin c d, ⊖-lin (a + c) (b + d)))

pub ⊖-neg : (a b : ℕ) → neg_ℤ (a ⊖ b) ≡ b ⊖ a
⊖-neg a b = parts-eq (omega (arith, neg-lin (a ⊖ b), ⊖-lin a b, ⊖-lin b a))

product : (P N R S a b c d : ℕ) → P + b ≡ a + N → R + d ≡ c + S → P * R + N * S + (a * d + b * c) ≡ P * S + N * R + (a * c + b * d)
product P N R S a b c d e f =
    omega (arith, ap (λ (x : ℕ). x * R) e, ap (λ (x : ℕ). x * S) e, ap (λ (x : ℕ). a * x) f, ap (λ (x : ℕ). b * x) f)

pub ⊖-* : (a b c d : ℕ) → (a ⊖ b) *ℤ (c ⊖ d) ≡ (a * c + b * d) ⊖ (a * d + b * c)
⊖-* a b c d =
    parts-eq
    (omega (arith, *-lin (a ⊖ b) (c ⊖ d), ⊖-lin (a * c + b * d) (a * d + b * c), product (pos_part (a ⊖ b)) (neg_part (a ⊖ b)) (pos_part (c ⊖ d)) (neg_part (c ⊖ d)) a b c d (⊖-lin a b) (⊖-lin c d)))

pub ruleset zdiff = (⊖-+, ⊖-neg, ⊖-*, ⊖-eq, pos-⊖, negsuc-⊖)

-- ---- the laws

pub *ℤ-assoc : (a b c : ℤ) → a *ℤ b *ℤ c ≡ a *ℤ (b *ℤ c)
*ℤ-assoc a b c = rw (diff a, diff b, diff c) (simp zdiff (omega arith))

pub *ℤ-+ℤ : (a b c : ℤ) → a *ℤ (b +ℤ c) ≡ a *ℤ b +ℤ a *ℤ c
*ℤ-+ℤ a b c = rw (diff a, diff b, diff c) (simp zdiff (omega arith))

pub +ℤ-*ℤ : (a b c : ℤ) → (a +ℤ b) *ℤ c ≡ a *ℤ c +ℤ b *ℤ c
+ℤ-*ℤ a b c = rw (diff a, diff b, diff c) (simp zdiff (omega arith))

pub *ℤ--ℤ : (a b c : ℤ) → a *ℤ (b -ℤ c) ≡ a *ℤ b -ℤ a *ℤ c
*ℤ--ℤ a b c = rw (diff a, diff b, diff c) (simp zdiff (omega arith))

pub -ℤ-*ℤ : (a b c : ℤ) → (a -ℤ b) *ℤ c ≡ a *ℤ c -ℤ b *ℤ c
-ℤ-*ℤ a b c = rw (diff a, diff b, diff c) (simp zdiff (omega arith))

pub negℤ-*ℤ : (a b : ℤ) → neg_ℤ a *ℤ b ≡ neg_ℤ (a *ℤ b)
negℤ-*ℤ a b = rw (diff a, diff b) (simp zdiff (omega arith))

pub *ℤ-negℤ : (a b : ℤ) → a *ℤ neg_ℤ b ≡ neg_ℤ (a *ℤ b)
*ℤ-negℤ a b = rw (diff a, diff b) (simp zdiff (omega arith))

pub one-*ℤ : (a : ℤ) → pos 1 *ℤ a ≡ a
one-*ℤ a = rw (diff a) (simp zdiff (omega arith))

pub two-*ℤ : (a : ℤ) → pos 2 *ℤ a ≡ a +ℤ a
two-*ℤ a = rw (diff a) (simp zdiff (omega arith))

pub swap-+ℤ : (a b c d : ℤ) → (a +ℤ b) +ℤ (c +ℤ d) ≡ (a +ℤ c) +ℤ (b +ℤ d)
swap-+ℤ a b c d = rw (diff a, diff b, diff c, diff d) (simp zdiff (omega arith))
