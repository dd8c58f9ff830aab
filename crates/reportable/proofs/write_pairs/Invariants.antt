use Rattle.reportable.proofs.Listing.{WrittenSoFar}
use Rattle.reportable.proofs.write_pairs.Given as goal

abbrev pub invariant-loop-row : goal.invariant-loop-row
invariant-loop-row l = WrittenSoFar l.today l.records l.fn.pairs l.pairs l.at l.row
