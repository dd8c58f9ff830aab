-- The line as it was read, and what booking its request came to.
use Rattle.std.proofs.Common.{rules, ◌≡◌, subst, take, List, ℤ, Err}
use Rattle.rules.specs.Reader.{request_named}
use Rattle.rules.specs.Tables.{all_tables}
use Rattle.journal_booking.specs.RequestBooked.{RequestBooked}
use Rattle.journal_booking.proofs.Booked.{valid-counted, confirmed}
use Rattle.replaying.specs.declared.Unbooked.TheVariants as Unbooked
use Rattle.replaying.proofs.LinesReplayed.{bad-replayed, booked-replayed, refused-replayed}
use Rattle.replaying.proofs.each_line.replay_line.Goals as goal

pub returns-in_default : goal.returns-in_default
returns-in_default c = (bad-replayed _ _ c.args.at _ c.requires.0 c.in_default.ensures, c.read_request.ensures.cells)

pub slice_bounds-book_line-end : goal.slice_bounds-book_line-end
slice_bounds-book_line-end c = let w = c.in-Some.ensures in w.within.1

pub book_line-requires : goal.book_line-requires
book_line-requires c =
    let w = c.in-Some.ensures in
    (c.requires.0, c.requires.1, c.requires.2, valid-counted c.in-Some.line.heading (take c.in-Some.line.count c.read_request.new.figures) w.within.0)

pub returns-in_err-book_line : goal.returns-in_err-book_line
returns-in_err-book_line c =
    let refusal : c.from_residual.result ≡ Err (Unbooked.Refused c.in_err-book_line.field-0.0) = search rules in
    (rw refusal (refused-replayed _ _ c.args.at _ c.in-Some.line c.in-Some.ensures _ _ _ c.in_err-book_line.ensures), c.read_request.ensures.cells)

pub returns : goal.returns
returns c = (
  booked-replayed _ _ c.args.at _ c.in-Some.line c.in-Some.ensures _
      (subst
      (λ v. RequestBooked (all_tables c.args.records.now c.args.positions.now c.args.processes.now) (request_named c.in-Some.line.heading (take c.in-Some.line.count c.read_request.new.figures)) v
      (all_tables c.book_line.new.records c.book_line.new.positions c.book_line.new.processes))
      (confirmed c.in_ok-book_line.field-0) c.in_ok-book_line.ensures),
  c.read_request.ensures.cells,
)
