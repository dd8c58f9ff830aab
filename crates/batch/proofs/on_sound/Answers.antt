-- Refused 3, or every trade in turn.
use Rattle.std.proofs.Common.{sym, ap, ◌∙◌}
use Rattle.rules.specs.Left.{left}
use Rattle.batch.proofs.Handled.{figures-left, booked-left}
use Rattle.batch.proofs.on_sound.Goals as goal

pub returns-then-not-figures_valid : goal.returns-then-not-figures_valid
returns-then-not-figures_valid c =
    ap (λ a. left a c.args.excess.now c.args.records.now c.args.positions.now) c.from.ensures
    ∙ figures-left _ _ _ _ _ c.requires.0 c.requires.1 (sym c.if-not-figures_valid.ensures)

pub book_each-requires : goal.book_each-requires
book_each-requires c = (c.requires.0, c.requires.1, sym c.if-not-figures_valid.ensures)

pub returns : goal.returns
returns c = booked-left _ _ _ _ _ c.requires.0 c.requires.1 (sym c.if-not-figures_valid.ensures) _ c.book_each.ensures
