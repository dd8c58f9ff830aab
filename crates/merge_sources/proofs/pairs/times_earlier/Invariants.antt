use Rattle.std.proofs.Common.{◌≡◌}
use Rattle.rules.specs.Merge.{times_in}
use Rattle.merge_sources.specs.Pairs.{pair_at, earlier_ids}
use Rattle.merge_sources.proofs.pairs.times_earlier.Given as goal

-- The count so far is how often the id stands at the places that were looked at.
abbrev pub invariant-loop-other : goal.invariant-loop-other
invariant-loop-other l = l.times ≡ times_in (earlier_ids l.pairs l.other-index) (pair_at l.pairs l.place).major
