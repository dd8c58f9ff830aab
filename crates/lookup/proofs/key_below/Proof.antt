-- `lookup::key_below` meets its contract: each way through it is one of the laws of `below` by figures.
-- Assumes nothing.
use mathlib.Core.Path.{◌≡◌, ap}
use mir.Facts.{to_z-of_z}
use mir.Syntax.{w64}
use mir.Val.{to_z, of_z}
use Rattle.integers.proofs.Bits.{of_z-inj}
use Rattle.lookup.proofs.KeyTests.{below-by-major, not-below-by-major, below-by-minor}
use Rattle.lookup.proofs.key_below.Statement.{statement}
use Rattle.lookup.proofs.key_below.Tie as tie

-- each figure, read back from its bits
module _ (s : tie.Start) where
  a : to_z w64 (of_z w64 s.args.major) ≡ s.args.major
  a = to_z-of_z s.ranges.major

  b : to_z w64 (of_z w64 s.args.minor) ≡ s.args.minor
  b = to_z-of_z s.ranges.minor

  a2 : to_z w64 (of_z w64 s.args.major2) ≡ s.args.major2
  a2 = to_z-of_z s.ranges.major2

  b2 : to_z w64 (of_z w64 s.args.minor2) ≡ s.args.minor2
  b2 = to_z-of_z s.ranges.minor2

returns : tie.Need-returns-then-major-major2
returns c =
    let s : tie.Start = c.before in
    rw (below-by-major _ _ _ _ (simp (a s, a2 s) at c.if-major-major2.true))

returns-2 : tie.Need-returns-then-major-major2-2
returns-2 c =
    let s : tie.Start = c.before.before in
    rw (not-below-by-major _ _ _ _ (simp (a s, a2 s) at c.if-major-major2.false) (λ e. c.if-major-major2-2.true (ap (of_z w64) e)))

returns-3 : tie.Need-returns
returns-3 c =
    let s : tie.Start = c.before.before in
    rw (below-by-minor _ _ _ _ (of_z-inj s.ranges.major s.ranges.major2 c.if-major-major2-2.false)) (simp (b s, b2 s))

pub key_below_spec : {M : Type 1} → statement M
key_below_spec = tie.close (tie.spec returns returns-2 returns-3)
