-- The figure as it is read, handed to the request's own call.
use Rattle.std.proofs.Common.{rules, refl, pos, get_or, FitsSigned, w64}
use mir.Facts.{to_z-of_z}
use Rattle.rules.specs.Reader.{request_named}
use Rattle.journal_booking.proofs.Booked.{day-booked}
use Rattle.journal_booking.proofs.book_day.Goals as goal

pub returns : goal.returns
unfolding request_named
returns c =
    let fits : FitsSigned w64 (get_or c.args.figures.now 0 (pos 0)) = search rules in
    day-booked (simp (to_z-of_z fits) at c.on_sound.ensures) refl
