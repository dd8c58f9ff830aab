-- `requests::by_residual` meets its contract: the residual in cash and in the value. Assumes nothing.
use mir.Facts.{to_z-of_z}
use Rattle.requests.proofs.by_residual.Statement.{statement}
use Rattle.requests.proofs.by_residual.Tie as tie

returns : tie.Need-returns
returns c = simp (to_z-of_z c.ranges.residual)

pub by_residual_spec : {M : Type 1} → statement M
by_residual_spec = tie.close (tie.spec returns)
