use Rattle.std.proofs.Common.{◌∙◌, w64}
use Rattle.std.proofs.lemmas.Int.{to_z-of_z}
use Rattle.journal_writing.proofs.Steps.{no_step, of-step}
use Rattle.journal_writing.proofs.line.write_give_up.Goals as goal

pub returns-in_default : goal.returns-in_default
returns-in_default c =
    rw
    (c.from-in_default.ensures, c.from.ensures)
    (no_step c.args.step c.args.process c.args.id c.args.suffix c.args.giving c.args.taking c.args.series c.args.text.now (simp (to_z-of_z w64 _ c.ranges.step) at c.in_default.ensures))

pub returns : goal.returns
returns c =
    simp (
      to_z-of_z w64 _ c.ranges.process,
      to_z-of_z w64 _ c.ranges.id,
      to_z-of_z w64 _ c.ranges.suffix,
      to_z-of_z w64 _ c.ranges.giving,
      to_z-of_z w64 _ c.ranges.taking,
      to_z-of_z w64 _ c.ranges.series,
    ) at c.write.ensures
    ∙ of-step c.args.step c.args.process c.args.id c.args.suffix c.args.giving c.args.taking c.args.series c.args.text.now c.in-Some.named (simp (to_z-of_z w64 _ c.ranges.step) at c.in-Some.ensures)
    (simp (
      to_z-of_z w64 _ c.ranges.process,
      to_z-of_z w64 _ c.ranges.id,
      to_z-of_z w64 _ c.ranges.suffix,
      to_z-of_z w64 _ c.ranges.giving,
      to_z-of_z w64 _ c.ranges.taking,
      to_z-of_z w64 _ c.ranges.series,
    ) at c.figures_valid-valid.ensures)
