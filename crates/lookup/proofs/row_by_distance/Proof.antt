-- `lookup::row_by_distance` meets its contract: no figure between 0 and the greatest is negative, and none is above it. Assumes nothing.
use Prim.Native.Nat.{◌≤◌}
use mathlib.Core.Path.{◌≡◌}
use mathlib.Core.Bool.{false}
use lib.Dec.{T}
use borrow.Author.Rules.{rules}
use lib.IntN.{ℤ, pos, nat_abs}
use lib.Signed.{lt_z, non_neg}
use mir.Facts.{to_z-of_z, Fits-nat_abs}
use Rattle.integers.proofs.Linear.{zarith, abs-lin}
use Rattle.lookup.proofs.row_by_distance.Statement.{statement}
use Rattle.lookup.proofs.row_by_distance.Tie as tie

between : (greatest minor : ℤ) → lt_z minor (pos 0) ≡ false → lt_z greatest minor ≡ false → T (non_neg greatest) × T (non_neg minor) × (nat_abs minor ≤ nat_abs greatest)
between greatest minor low high = (omega zarith, omega zarith, omega (zarith, abs-lin greatest, abs-lin minor))

-- Past both tests.
told : (c : tie.Else-greatest-minor) → let a = c.args in T (non_neg a.greatest) × T (non_neg a.minor) × (nat_abs a.minor ≤ nat_abs a.greatest)
told c =
    let s : tie.Start = c.before.before in
    between s.args.greatest s.args.minor
    (simp (to_z-of_z s.ranges.minor) at c.if-minor-lt0.false)
    (simp (to_z-of_z s.ranges.greatest, to_z-of_z s.ranges.minor) at c.if-greatest-minor.false)

cast-distance : tie.Need-overflow_cast-distance
cast-distance c =
    let s : tie.Start = c.before.before in
    simp (to_z-of_z s.ranges.greatest) ((told c).0, Fits-nat_abs tt s.ranges.greatest)

cast-distance-2 : tie.Need-overflow_cast-distance-2
cast-distance-2 c =
    let s : tie.Start = c.before.before in
    simp (to_z-of_z s.ranges.minor) ((told c).1, Fits-nat_abs tt s.ranges.minor)

sub-distance : tie.Need-overflow_sub-distance
sub-distance c =
    let s : tie.Start = c.before.before in
    simp (to_z-of_z s.ranges.greatest, to_z-of_z s.ranges.minor) (told c).2

pub row_by_distance_spec : {M : Type 1} → statement M
row_by_distance_spec =
    tie.close
    (tie.spec
    (λ c. search rules)
    (λ c. search rules)
    (λ c. search rules)
    (λ c. search rules)
    cast-distance
    cast-distance-2
    sub-distance
    (λ c. search rules)
    (λ c. search rules)
    (λ c. search rules)
    (λ c. search rules)
    (λ c. search rules))
