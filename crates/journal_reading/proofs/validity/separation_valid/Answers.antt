use Rattle.std.proofs.Common.{rules, ◌∙◌, get_or, pos, FitsSigned, w64}
use Rattle.std.proofs.lemmas.Int.{to_z-of_z}
use Rattle.rules.specs.Reader.{has_its_figures, request_named}
use Rattle.rules.specs.Line.{passes_test3}
use borrow.Author.Tests.{le-leb}
use Rattle.rules.specs.declared.Heading.TheVariants.{Separation}
use Rattle.journal_reading.proofs.ValidLines.{figures-from, counted}
use Rattle.journal_reading.proofs.validity.separation_valid.Goals as goal

pub returns : goal.returns
unfolding has_its_figures request_named passes_test3
returns c =
    let id : FitsSigned w64 (get_or c.args.figures.now 0 (pos 0)) = search rules in
    let suffix : FitsSigned w64 (get_or c.args.figures.now 1 (pos 0)) = search rules in
    let account : FitsSigned w64 (get_or c.args.figures.now 2 (pos 0)) = search rules in
    let series : FitsSigned w64 (get_or c.args.figures.now 3 (pos 0)) = search rules in
    simp (to_z-of_z w64 _ id, to_z-of_z w64 _ suffix, to_z-of_z w64 _ account, to_z-of_z w64 _ series, figures-from 4 c.args.figures.now) at c.figures_valid.ensures
    ∙ counted Separation _ (le-leb 4 _ c.in-len4-up.len_at_least)
