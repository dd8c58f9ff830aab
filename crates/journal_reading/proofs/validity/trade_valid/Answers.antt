use Rattle.std.proofs.Common.{rules, arith, ◌∙◌, get_or, pos, FitsSigned, w64}
use Rattle.std.proofs.lemmas.Int.{to_z-of_z}
use Rattle.rules.specs.Reader.{has_its_figures, request_named}
use Rattle.rules.specs.Line.{passes_test3}
use borrow.Author.Tests.{eq-eqb}
use Rattle.rules.specs.declared.Heading.TheVariants.{Trade}
use Rattle.journal_reading.proofs.ValidLines.{counted}
use Rattle.journal_reading.proofs.validity.trade_valid.Goals as goal

pub returns : goal.returns
unfolding has_its_figures request_named passes_test3
returns c =
    let id : FitsSigned w64 (get_or c.args.figures.now 0 (pos 0)) = search rules in
    let account : FitsSigned w64 (get_or c.args.figures.now 1 (pos 0)) = search rules in
    let series : FitsSigned w64 (get_or c.args.figures.now 2 (pos 0)) = search rules in
    let side : FitsSigned w64 (get_or c.args.figures.now 3 (pos 0)) = search rules in
    let quantity : FitsSigned w64 (get_or c.args.figures.now 4 (pos 0)) = search rules in
    let price : FitsSigned w64 (get_or c.args.figures.now 5 (pos 0)) = search rules in
    simp (to_z-of_z w64 _ id, to_z-of_z w64 _ account, to_z-of_z w64 _ series, to_z-of_z w64 _ side, to_z-of_z w64 _ quantity, to_z-of_z w64 _ price) at c.figures_valid.ensures
    ∙ counted Trade _ (eq-eqb _ 6 (omega arith))
