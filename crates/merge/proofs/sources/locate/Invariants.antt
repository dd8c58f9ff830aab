use Rattle.std.proofs.Common.{◌≡◌, take, map, false}
use Rattle.rules.specs.Refusal.{any_of}
use Rattle.rules.specs.Merge.{is_missing}
use Rattle.merge_sources.specs.Sources.{sources_in}
use Rattle.merge_sources.proofs.SourceRows.{KnownTo, OfPair}
use Rattle.merge.proofs.sources.locate.Given as goal

abbrev pub invariant-loop-i : goal.invariant-loop-i
invariant-loop-i l = record {
  none : any_of (take l.i (map is_missing (sources_in l.records l.pairs))) ≡ false;
  known : KnownTo (OfPair l.records l.pairs) l.sources l.i;
}
