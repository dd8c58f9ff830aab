-- On sound positions as any request; beside others a day is booked, and any other request refused 2.
use Rattle.std.proofs.Common.{◌≡◌, sym, ◌∙◌}
use borrow.Author.Tests.{eqb-true}
use Rattle.rules.specs.Reader.{has_its_figures}
use Rattle.rules.specs.declared.Heading.TheVariants.{Day}
use Rattle.journal_booking.proofs.Booked.{day-beside, its-figures}
use Rattle.journal_booking.proofs.UnsoundPositions.{day-named, line_refused}
use Rattle.journal_booking.proofs.book_line.Goals as goal

pub book_day-requires : goal.book_day-requires
unfolding has_its_figures
book_day-requires c = (c.requires.0, eqb-true _ 1 (its-figures Day _ (day-named c.args.heading (sym c.if-is_day.ensures)) c.requires.3))

pub returns-then-is_day : goal.returns-then-is_day
returns-then-is_day c =
    day-beside (day-named c.args.heading (sym c.if-is_day.ensures)) c.args.figures.now c.book_day.ensures c.args.positions.now c.args.processes.now

pub returns : goal.returns
returns c =
    rw c.from.ensures
    (line_refused c.args.records.now c.args.positions.now c.args.processes.now c.requires.0 (sym c.requires.1 ∙ c.if-passes2.false) c.args.heading c.args.figures.now (sym c.if-is_day.ensures))
