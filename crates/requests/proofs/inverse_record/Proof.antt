-- `requests::inverse_record` meets its contract: the quantity's negative fits, and the other figures are those given, each read back from its bits. Assumes nothing.
use mathlib.Core.Path.{◌≡◌, sym, ap, subst, ◌∙◌}
use Prim.Native.Nat.{◌<◌, ◌^◌}
use mathlib.Core.Bool.{true}
use lib.IntN.{ℤ, pos, neg_ℤ, ◌-ℤ◌, +ℤ_idl}
use lib.Signed.{◌≤ℤ◌, mag}
use mir.Facts.{to_z-of_z}
use mir.Syntax.{w64}
use mir.Val.{SFits, to_z, of_z}
use Rattle.integers.proofs.Linear.{zarith, minus-lin}
use Rattle.rules.specs.Figures.{magnitude_at_most}
use Rattle.rules.specs.Rows.{inverse_record}
use Rattle.soundness.proofs.FigureRanges.{magnitude-range}
use Rattle.scan.proofs.ReadBack.{read_back}
use Rattle.requests.proofs.inverse_record.Statement.{statement}
use Rattle.requests.proofs.inverse_record.Tie as tie

negated_fits : (q : ℤ) → magnitude_at_most 1000000 q ≡ true → SFits w64 (pos 0 -ℤ q)
negated_fits q h =
    let x : (neg_ℤ (pos 1000000) ≤ℤ q) × (q ≤ℤ pos 1000000) = magnitude-range 1000000 q h in
    omega (zarith, minus-lin (pos 0) q)

-- The negative of a figure read back, read back.
negated : (q : ℤ) → mag q < 2 ^ 63 → magnitude_at_most 1000000 q ≡ true → to_z w64 (of_z w64 (pos 0 -ℤ to_z w64 (of_z w64 q))) ≡ neg_ℤ q
negated q h k = ap (λ (z : ℤ). to_z w64 (of_z w64 (pos 0 -ℤ z))) (read_back q h) ∙ to_z-of_z (negated_fits q k) ∙ +ℤ_idl (neg_ℤ q)

sub-t8 : tie.Need-overflow_sub-result
sub-t8 c =
    let s : tie.Start = c.before.before in
    let q : ℤ = s.args.r.quantity in
    subst (λ (z : ℤ). SFits w64 (pos 0 -ℤ z)) (sym (read_back q c.struct_told-1.given.1.1.1.1.1.1.1.1.0.1)) (negated_fits q s.requires)

returns : tie.Need-returns
unfolding inverse_record
returns c =
    let s : tie.Start = c.before.before.before in
    let r = s.args.r in
    let known = c.struct_told-2-1.given in
    simp (negated r.quantity known.1.1.1.1.1.1.1.1.0.1 s.requires)
    (simp (
      read_back r.id known.0.1,
      read_back r.suffix known.1.0.1,
      read_back r.account known.1.1.1.1.1.0.1,
      read_back r.series known.1.1.1.1.1.1.0.1,
      read_back r.side known.1.1.1.1.1.1.1.0.1,
      read_back r.price known.1.1.1.1.1.1.1.1.1.0.1,
      to_z-of_z s.ranges.today,
      to_z-of_z s.ranges.suffix,
      to_z-of_z s.ranges.kind,
      to_z-of_z s.ranges.long,
      to_z-of_z s.ranges.short,
      to_z-of_z s.ranges.into,
    ))

pub inverse_record_spec : {M : Type 1} → statement M
inverse_record_spec = tie.close (tie.spec sub-t8 returns)
