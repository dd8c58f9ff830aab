use Rattle.merge_sources.proofs.AdjustingCells.{AdjustedSoFar}
use Rattle.merge.proofs.booking.adjust_sources.Given as goal

abbrev pub invariant-loop-source : goal.invariant-loop-source
invariant-loop-source l = AdjustedSoFar l.initial.records l.pairs l.records l.source-index
