use Rattle.std.proofs.Common.{nat_abs}
use Rattle.lineage.proofs.+origin.Given as goal

abbrev pub decreases-origin : goal.decreases-origin
decreases-origin l = nat_abs l.suffix
