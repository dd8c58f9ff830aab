use Rattle.std.proofs.Common.{rules}
use Rattle.integers.proofs.Bits.{eqb-of_z}
use Rattle.rules.specs.Transfer.{transfer_figures}
use Rattle.transfer.proofs.figures_valid.Goals as goal

pub returns-then-valid_series : goal.returns-then-valid_series
unfolding transfer_figures
returns-then-valid_series c = rw (eqb-of_z c.ranges.from c.ranges.to) (search rules)
