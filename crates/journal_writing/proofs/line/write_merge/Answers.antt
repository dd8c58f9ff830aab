use Rattle.std.proofs.Common.{sym, ◌∙◌, w64, arith}
use Rattle.std.proofs.lemmas.Int.{to_z-of_z}
use Rattle.rules.specs.Line.{passes_test3}
use Rattle.journal_writing.proofs.ShortLists.{pairs-few}
use Rattle.journal_writing.proofs.line.write_merge.Goals as goal

pub write-requires : goal.write-requires
unfolding passes_test3
write-requires c =
    let tested = simp (to_z-of_z w64 _ c.ranges.id, to_z-of_z w64 _ c.ranges.account, to_z-of_z w64 _ c.ranges.series) at c.figures_valid-valid.ensures in
    (omega arith, λ valid. pairs-few c.args.id c.args.account c.args.series c.args.pairs.now (sym tested ∙ valid))
