-- Each arm is given which heading it is, and so how many figures there are.
use Rattle.std.proofs.Common.{refl, sym}
use mathlib.Core.Path.{subst}
use borrow.Author.Tests.{eqb-true, leb-true}
use Rattle.rules.specs.Request.{is_step}
use Rattle.rules.specs.Reasons.{answer_of}
use Rattle.rules.specs.Reader.{has_its_figures, request_named}
use Rattle.rules.specs.Tables.{all_tables}
use Rattle.rules.specs.declared.Heading.{Heading}
use Rattle.rules.specs.declared.Heading.TheVariants.{Trade, Separation, Transfer, Merge, GiveUp, Day}
use Rattle.journal_booking.specs.RequestBooked.{RequestBooked, verdict_of_reply}
use Rattle.journal_booking.proofs.Booked.{line-beside, day-beside, its-figures}
use Rattle.journal_booking.proofs.book_on_positions.Goals as goal

pub book_trade-requires : goal.book_trade-requires
unfolding has_its_figures
book_trade-requires c = (c.requires.0, c.requires.1, eqb-true _ 6 (its-figures Trade _ c.in-Trade.is c.requires.3))

pub returns-in-Trade : goal.returns-in-Trade
unfolding is_step request_named
returns-in-Trade c = line-beside c.args.processes.now Trade c.args.figures.now c.in-Trade.is refl c.book_trade.ensures

pub book_separation-requires : goal.book_separation-requires
unfolding has_its_figures
book_separation-requires c = (c.requires.0, c.requires.1, leb-true 4 _ (its-figures Separation _ c.in-Separation.is c.requires.3))

pub returns-in-Separation : goal.returns-in-Separation
unfolding is_step request_named
returns-in-Separation c = line-beside c.args.processes.now Separation c.args.figures.now c.in-Separation.is refl c.book_separation.ensures

pub book_transfer-requires : goal.book_transfer-requires
unfolding has_its_figures
book_transfer-requires c = (c.requires.0, c.requires.1, eqb-true _ 5 (its-figures Transfer _ c.in-Transfer.is c.requires.3))

pub returns-in-Transfer : goal.returns-in-Transfer
unfolding is_step request_named
returns-in-Transfer c = line-beside c.args.processes.now Transfer c.args.figures.now c.in-Transfer.is refl c.book_transfer.ensures

pub book_merge-requires : goal.book_merge-requires
unfolding has_its_figures
book_merge-requires c = (c.requires.0, c.requires.1, leb-true 3 _ (its-figures Merge _ c.in-Merge.is c.requires.3))

pub returns-in-Merge : goal.returns-in-Merge
unfolding is_step request_named
returns-in-Merge c = line-beside c.args.processes.now Merge c.args.figures.now c.in-Merge.is refl c.book_merge.ensures

pub book_step-requires : goal.book_step-requires
unfolding has_its_figures
book_step-requires c = (c.requires.0, c.requires.1, c.requires.2, eqb-true _ 6 (its-figures (GiveUp c.in-GiveUp.step) _ c.in-GiveUp.is c.requires.3))

pub returns-in-GiveUp : goal.returns-in-GiveUp
returns-in-GiveUp c =
    let a = c.args in
    subst
    (λ (k : Heading). RequestBooked (all_tables a.records.now a.positions.now a.processes.now) (request_named k a.figures.now) (verdict_of_reply (answer_of c.book_step.result))
    (all_tables c.book_step.new.records c.book_step.new.positions c.book_step.new.processes))
    (sym c.in-GiveUp.is) c.book_step.ensures

pub book_day-requires : goal.book_day-requires
unfolding has_its_figures
book_day-requires c = (c.requires.0, eqb-true _ 1 (its-figures Day _ c.in-Day.is c.requires.3))

pub returns-in-Day : goal.returns-in-Day
returns-in-Day c = day-beside c.in-Day.is c.args.figures.now c.book_day.ensures c.args.positions.now c.args.processes.now
