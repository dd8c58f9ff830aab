use Rattle.std.proofs.Common.{ℕ, ◌<◌, false}
use Rattle.merge_sources.proofs.SourceTests.{Answered}
use Rattle.merge.proofs.sources.first_failing.Given as goal

abbrev pub invariant-loop-i : goal.invariant-loop-i
invariant-loop-i g l = (k : ℕ) → k < l.i → Answered l.records l.pairs (goal.F-post g l.fails) false k
