-- The rows before this one have passed.
use Rattle.scan.proofs.RowsScan.{RowsPassed}
use Rattle.scan.proofs.soundness.rows_rise_sound.Given as goal

abbrev pub invariant-loop-row : goal.invariant-loop-row
invariant-loop-row g l = RowsPassed g.R.Row.layout g.R.Row.key (g.R.Row.sound_on l.today) l.cells l.count l.row
