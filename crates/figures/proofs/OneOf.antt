-- A number tried against some literals, one after the other, with `true` at the first that it is: whether it is one of those that remain.
-- Assumes nothing.
use mathlib.Core.Path.{◌≡◌, refl, sym, ap, ◌∙◌}
use mathlib.Core.Bool.{Bool, true, false, ◌||◌}
use mathlib.Core.List.{List, [], ◌∷◌}
use Prim.Native.Nat.{ℕ, ◌^◌}
use lib.Dec.{T, eqb, ltb}
use lib.IntN.{ℤ, pos}
use mir.Syntax.{w64}
use mir.Val.{SFits, of_z}
use Rattle.integers.specs.Order.{eq_z}
use Rattle.figures.proofs.Tests.{is-literal, not-literal, literal-test}

-- b || z is k || .. over the literals, from the left
abbrev pub one_from : Bool → ℤ → List ℕ → Bool
one_from b z [] = b
one_from b z (k ∷ rest) = one_from (b || eq_z z (pos k)) z rest

from-true : (z : ℤ) (literals : List ℕ) → one_from true z literals ≡ true
from-true z [] = refl
from-true z (k ∷ rest) = from-true z rest

-- The whole holds where the number is one of these.
pub record OneOf (whole : Bool) (z : ℤ) (literals : List ℕ) : Type 0 where
  pub is : whole ≡ one_from false z literals

module _ {whole : Bool} {z : ℤ} (k : ℕ) {rest : List ℕ} (m : OneOf whole z (k ∷ rest)) (f : SFits w64 z) where
  -- it is not the first
  pub not-this : (of_z w64 z ≡ k → ⊥) → OneOf whole z rest
  not-this n = record { is = m.is ∙ ap (λ (b : Bool). one_from b z rest) (not-literal k f n) }

  -- it is
  pub this : T (ltb k (2 ^ 63)) → of_z w64 z ≡ k → true ≡ whole
  this t e = sym (m.is ∙ ap (λ (b : Bool). one_from b z rest) (is-literal k t f e) ∙ from-true z rest)

-- the last literal decides
pub only-this : {whole : Bool} {z : ℤ} (k : ℕ) → OneOf whole z (k ∷ []) → SFits w64 z → T (ltb k (2 ^ 63)) → eqb (of_z w64 z) k ≡ whole
only-this k m f t = literal-test k t f ∙ sym m.is
