-- `lookup::comes_before` meets its contract: it is the definition of `below`, over the figures' bits. Assumes nothing.
use mir.Facts.{to_z-of_z}
use Rattle.rules.specs.Keyed.{below}
use Rattle.integers.proofs.Bits.{eqb-of_z}
use Rattle.lookup.proofs.comes_before.Statement.{statement}
use Rattle.lookup.proofs.comes_before.Tie as tie

returns : tie.Need-returns
unfolding below
returns c =
    simp
    (to_z-of_z c.ranges.major, to_z-of_z c.ranges.major2, to_z-of_z c.ranges.minor, to_z-of_z c.ranges.minor2, eqb-of_z c.ranges.major c.ranges.major2)

pub comes_before_spec : {M : Type 1} → statement M
comes_before_spec = tie.close (tie.spec returns)
