use Rattle.std.proofs.Common.{◌≡◌, take, false}
use Rattle.rules.specs.Refusal.{any_of}
use Rattle.merge_sources.proofs.Inverses.{above}
use Rattle.merge.proofs.sources.suffix_above.Given as goal

abbrev pub invariant-loop-i : goal.invariant-loop-i
invariant-loop-i l = any_of (take l.i (above l.records l.pairs)) ≡ false
