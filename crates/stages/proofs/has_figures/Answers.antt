-- `stages::has_figures`: bits are equal exactly where the figures are.
use Rattle.std.proofs.Common.{arith}
use Rattle.integers.proofs.Bits.{eqb-of_z, of_z-inj}
use Rattle.integers.proofs.Parts.{true-eq_z, false-eq_z}
use Rattle.rules.specs.GiveUp.{has_figures}
use Rattle.stages.proofs.has_figures.Goals as goal

pub returns-then-p-taking : goal.returns-then-p-taking
unfolding has_figures
returns-then-p-taking c = grind (arith, of_z-inj, true-eq_z, eqb-of_z)

pub returns-else-p-taking : goal.returns-else-p-taking
unfolding has_figures
returns-else-p-taking c = grind (arith, false-eq_z)
