use Rattle.merge_sources.proofs.InsertingCells.{InvertedSoFar}
use Rattle.merge.proofs.booking.insert_inverses.Given as goal

abbrev pub invariant-loop-id : goal.invariant-loop-id
invariant-loop-id l = InvertedSoFar l.today l.into l.initial.records l.pairs l.records l.id-index
