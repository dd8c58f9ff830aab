-- An amount in the cell of a side, and 0 in the other, fit where the amount does. By the definitions. Assumes nothing.
use mathlib.Core.Path.{◌≡◌, ap, ◌∙◌}
use mathlib.Core.Bool.{Bool, true, false, cond}
use lib.IntN.{ℤ, pos}
use mir.Facts.{to_z-of_z, sfits_lit}
use mir.Syntax.{w64}
use mir.Val.{SFits, to_z, of_z}
use Rattle.rules.specs.Figures.{is_buy}
use Rattle.rules.specs.Transfer.{in_long, in_short}

either-fits : (b : Bool) {y z : ℤ} → SFits w64 y → SFits w64 z → SFits w64 (cond b y z)
either-fits true f g = f
either-fits false f g = g

module _ (side : ℤ) {amount : ℤ} (f : SFits w64 amount) where
  long-fits : SFits w64 (in_long side amount)
  unfolding in_long
  long-fits = either-fits (is_buy side) f (sfits_lit {z = pos 0} tt)

  short-fits : SFits w64 (in_short side amount)
  unfolding in_short
  short-fits = either-fits (is_buy side) (sfits_lit {z = pos 0} tt) f

  -- Each of them, as the code told it, is read back from its bits.
  module _ {told : ℤ × ℤ} (e : told ≡ (in_long side amount, in_short side amount)) where
    pub told-long : to_z w64 (of_z w64 told.0) ≡ in_long side amount
    told-long = ap (λ (w : ℤ × ℤ). to_z w64 (of_z w64 w.0)) e ∙ to_z-of_z long-fits

    pub told-short : to_z w64 (of_z w64 told.1) ≡ in_short side amount
    told-short = ap (λ (w : ℤ × ℤ). to_z w64 (of_z w64 w.1)) e ∙ to_z-of_z short-fits
