-- `lookup::key_same` meets its contract: each way through it is one of the laws of `same` by figures.
-- Assumes nothing.
use mathlib.Core.Path.{ap}
use mir.Syntax.{w64}
use mir.Val.{of_z}
use Rattle.integers.proofs.Bits.{of_z-inj, eqb-of_z}
use Rattle.lookup.proofs.KeyTests.{not-same-by-major, same-by-minor}
use Rattle.lookup.proofs.key_same.Statement.{statement}
use Rattle.lookup.proofs.key_same.Tie as tie

returns : tie.Need-returns-then-major-major2
returns c = rw (not-same-by-major _ _ _ _ (λ e. c.if-major-major2.true (ap (of_z w64) e)))

returns-2 : tie.Need-returns
returns-2 c =
    let s : tie.Start = c.before in
    rw (same-by-minor _ _ _ _ (of_z-inj s.ranges.major s.ranges.major2 c.if-major-major2.false)) (eqb-of_z s.ranges.minor s.ranges.minor2)

pub key_same_spec : {M : Type 1} → statement M
key_same_spec = tie.close (tie.spec returns returns-2)
