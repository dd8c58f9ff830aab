use Rattle.std.proofs.Common.{map, ◌∙◌, ap, sym}
use Rattle.merge_sources.specs.Pairs.{pair_of}
use Rattle.merge_sources.proofs.PairList.{pair-count, chunks-pairs}
use Rattle.merge_sources.proofs.pairs.in_pairs.Goals as goal

pub returns : goal.returns
returns c = record { are_pairs = ap (λ l. map pair_of l) c.as_chunks.ensures.front ∙ chunks-pairs c.args.figures.now; as_many = c.as_chunks.ensures.front_len ∙ sym (pair-count c.args.figures.now) }
