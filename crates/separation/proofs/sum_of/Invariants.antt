use Rattle.separation.proofs.PartsLeft.{SumSoFar}
use Rattle.separation.proofs.sum_of.Given as goal

-- The sum so far, with the parts that are left, is the sum of all.
abbrev pub invariant-loop-part : goal.invariant-loop-part
invariant-loop-part l = SumSoFar l.parts l.part-index l.sum
