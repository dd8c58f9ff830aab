use Rattle.std.proofs.Common.{sym, ◌∙◌, w64, arith}
use Rattle.std.proofs.lemmas.Int.{to_z-of_z}
use Rattle.rules.specs.Line.{passes_test3}
use Rattle.journal_writing.proofs.ShortLists.{parts-few}
use Rattle.journal_writing.proofs.line.write_separation.Goals as goal

pub write-requires : goal.write-requires
unfolding passes_test3
write-requires c =
    let tested =
    simp (to_z-of_z w64 _ c.ranges.id, to_z-of_z w64 _ c.ranges.suffix, to_z-of_z w64 _ c.ranges.account, to_z-of_z w64 _ c.ranges.series) at c.figures_valid-valid.ensures in
    (omega arith, λ valid. parts-few c.args.id c.args.suffix c.args.account c.args.series c.args.parts.now (sym tested ∙ valid))
