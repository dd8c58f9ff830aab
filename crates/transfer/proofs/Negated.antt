-- The negative of a small figure fits, and the code's `-q` is it. Assumes nothing.
use Prim.Native.Nat.{◌<◌, ◌^◌}
use mathlib.Core.Path.{◌≡◌, ap, ◌∙◌}
use mathlib.Core.Bool.{true}
use lib.IntN.{ℤ, pos, neg_ℤ, ◌-ℤ◌, +ℤ_idl}
use lib.Signed.{◌≤ℤ◌, mag}
use mir.Facts.{to_z-of_z}
use mir.Syntax.{w64}
use mir.Val.{SFits, to_z, of_z}
use Rattle.integers.proofs.Linear.{zarith, minus-lin, neg-lin}
use Rattle.rules.specs.Figures.{magnitude_at_most}
use Rattle.soundness.proofs.FigureRanges.{magnitude-range, in-magnitude}
use Rattle.scan.proofs.ReadBack.{read_back}

module _ (q : ℤ) (small : magnitude_at_most 1000000 q ≡ true) where
  pub negated_fits : SFits w64 (pos 0 -ℤ q)
  negated_fits =
      let range : (neg_ℤ (pos 1000000) ≤ℤ q) × (q ≤ℤ pos 1000000) = magnitude-range 1000000 q small in
      omega (zarith, minus-lin (pos 0) q)

  pub neg-fits : SFits w64 (neg_ℤ q)
  neg-fits =
      let range : (neg_ℤ (pos 1000000) ≤ℤ q) × (q ≤ℤ pos 1000000) = magnitude-range 1000000 q small in
      omega (zarith, neg-lin q)

  pub negated-small : magnitude_at_most 1000000 (neg_ℤ q) ≡ true
  negated-small =
      let range : (neg_ℤ (pos 1000000) ≤ℤ q) × (q ≤ℤ pos 1000000) = magnitude-range 1000000 q small in
      in-magnitude 1000000 (neg_ℤ q) (omega (zarith, neg-lin q, neg-lin (pos 1000000))) (omega (zarith, neg-lin q, neg-lin (pos 1000000)))

  -- A figure read back, negated, and read back.
  pub negated : mag q < 2 ^ 63 → to_z w64 (of_z w64 (pos 0 -ℤ to_z w64 (of_z w64 q))) ≡ neg_ℤ q
  negated h = ap (λ (z : ℤ). to_z w64 (of_z w64 (pos 0 -ℤ z))) (read_back q h) ∙ to_z-of_z negated_fits ∙ +ℤ_idl (neg_ℤ q)
