-- The position moved by what the trade books.
use Rattle.std.proofs.Common.{ap, ◌∙◌}
use Rattle.rules.specs.Rows.{moved}
use Rattle.trade.specs.Booking.{position_after}
use Rattle.trade.specs.declared.Booking.{Booking}
use Rattle.trade.proofs.TradeBooked.{booking-moves}
use Rattle.trade.proofs.position_after.Goals as goal

pub moved-requires : goal.moved-requires
moved-requires c =
    let t = c.args.t in
    booking-moves t.side t.quantity c.args.p c.requires.0 c.requires.1 t.price c.requires.2 c.booking_of-b.result c.booking_of-b.ensures

pub returns : goal.returns
unfolding position_after
returns c = c.moved.ensures ∙ ap (λ (b : Booking). moved c.args.p b.movement) c.booking_of-b.ensures
