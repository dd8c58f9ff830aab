-- What the code's tests on signed numbers say of the integers: `==` and `!=` against a literal compare bits.
-- Assumes nothing.
use mathlib.Core.Path.{◌≡◌, sym, ◌∙◌}
use mathlib.Core.Bool.{Bool, true, false, not}
use borrow.Author.Tests.{not-true, not-false}
use Prim.Native.Nat.{ℕ, ◌^◌}
use lib.Dec.{T, eqb, ltb}
use lib.IntN.{ℤ, pos}
use mir.Facts.{sfits_lit}
use mir.Syntax.{w64}
use mir.Val.{SFits, of_z}
use Rattle.integers.specs.Order.{eq_z}
use Rattle.integers.proofs.Parts.{true-eq_z, false-eq_z}
use Rattle.integers.proofs.Bits.{of_z-inj, eqb-of_z}

-- ---- a number against a literal: the test held, it did not, its outcome

pub is-literal : {z : ℤ} (k : ℕ) → T (ltb k (2 ^ 63)) → SFits w64 z → of_z w64 z ≡ k → eq_z z (pos k) ≡ true
is-literal {z} k t f e = true-eq_z z (pos k) (of_z-inj f (sfits_lit t) e)

pub not-literal : {z : ℤ} (k : ℕ) → SFits w64 z → (of_z w64 z ≡ k → ⊥) → eq_z z (pos k) ≡ false
not-literal {z} k f n = false-eq_z z (pos k) (λ e. n (rw e))

pub literal-test : {z : ℤ} (k : ℕ) → T (ltb k (2 ^ 63)) → SFits w64 z → eqb (of_z w64 z) k ≡ eq_z z (pos k)
literal-test k t f = eqb-of_z f (sfits_lit {z = pos k} t)

-- ---- a call's answer `r`, which equals a test: the branch on `!r` was taken, or left

pub failed : {r t : Bool} → r ≡ t → not r ≡ true → t ≡ false
failed {r} e h = sym e ∙ not-true r h

pub passed : {r t : Bool} → r ≡ t → not r ≡ false → t ≡ true
passed {r} e h = sym e ∙ not-false r h
