use Rattle.reportable.proofs.Listing.{CountedSoFar}
use Rattle.reportable.proofs.count_pairs.Given as goal

abbrev pub invariant-loop-row : goal.invariant-loop-row
invariant-loop-row l = CountedSoFar l.today l.records l.pairs l.row
