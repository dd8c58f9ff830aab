use Rattle.std.proofs.Common.{◌≡◌, take}
use Rattle.merge_sources.specs.Sources.{source_records}
use Rattle.merge_sources.proofs.Sums.{sum_over, value_of}
use Rattle.merge.proofs.sources.sum_of_values.Given as goal

abbrev pub invariant-loop-i : goal.invariant-loop-i
invariant-loop-i l = l.sum ≡ sum_over value_of (take l.i (source_records l.records l.pairs))
