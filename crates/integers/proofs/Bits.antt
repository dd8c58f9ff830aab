-- The bits of an `i64`: a test of `==`, which compares bits, is the equality test on the integers.
use mathlib.Core.Path.{◌≡◌, sym, ap, ◌∙◌}
use mathlib.Core.Logic.{◌⊎◌, inl, inr}
use mathlib.Core.Bool.{true, false}
use borrow.Author.Tests.{eq-eqb, ne_eqb}
use lib.Dec.{eqb}
use lib.IntN.{ℤ}
use mir.Facts.{to_z-of_z}
use mir.Syntax.{w64}
use mir.Val.{SFits, to_z, of_z}
use Rattle.integers.specs.Order.{eq_z}
use Rattle.integers.proofs.Parts.{split, eq_z-true, eq_z-false}

pub of_z-inj : {a b : ℤ} → SFits w64 a → SFits w64 b → of_z w64 a ≡ of_z w64 b → a ≡ b
of_z-inj f g e = sym (to_z-of_z f) ∙ ap (to_z w64) e ∙ to_z-of_z g

pub eqb-of_z : {a b : ℤ} → SFits w64 a → SFits w64 b → eqb (of_z w64 a) (of_z w64 b) ≡ eq_z a b
eqb-of_z {a} {b} f g = go (split (eq_z a b))
  where
    go : (eq_z a b ≡ true) ⊎ (eq_z a b ≡ false) → eqb (of_z w64 a) (of_z w64 b) ≡ eq_z a b
    go (inl e) = eq-eqb (of_z w64 a) (of_z w64 b) (ap (of_z w64) (eq_z-true a b e)) ∙ sym e
    go (inr e) = ne_eqb (of_z w64 a) (of_z w64 b) (λ h. eq_z-false a b e (of_z-inj f g h)) ∙ sym e
