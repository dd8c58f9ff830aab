use Rattle.std.proofs.Common.{get_or, pos, refl, FitsSigned, w64, rules, arith}
use Rattle.std.proofs.lemmas.Int.{to_z-of_z}
use Rattle.text.specs.Fields.{fields_text}
use Rattle.writer.proofs.NumberTexts.{width-next}
use Rattle.writer.proofs.fields.fields_width.Goals as goal

pub loop-figure-init : goal.loop-figure-init
unfolding fields_text
loop-figure-init c = (refl, search rules)

pub loop-figure-preserved : goal.loop-figure-preserved
loop-figure-preserved c =
    let fits : FitsSigned w64 (get_or c.args.figures.now c.loop-figure.figure-index (pos 0)) = search rules in
    let number = simp (to_z-of_z w64 _ fits) at c.number_width.ensures in
    omega (arith, number, width-next c.args.figures.now c.loop-figure.figure-index (omega arith))
