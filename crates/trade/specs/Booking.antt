-- What a trade closes and books, as one value; and the position that it leaves.
use Rattle.std.specs.Prelude.{ℤ}
use Rattle.rules.specs.Rows.{in_booked, moved}
use Rattle.rules.specs.Trade.{closed_by, long_booked, short_booked, is_closing_error}
use Rattle.rules.specs.declared.Position.{Position}
use Rattle.trade.specs.declared.Booking.{Booking}

unfoldable pub booking_of : (side quantity price : ℤ) → Position → Booking
booking_of side quantity price p =
    let c : ℤ = closed_by side quantity p in
    record {
      closed = c;
      movement = in_booked side quantity price (long_booked side quantity c) (short_booked side quantity c);
      error = is_closing_error side quantity c;
    }

unfoldable pub position_after : (side quantity price : ℤ) → Position → Position
position_after side quantity price p = moved p (booking_of side quantity price p).movement
