-- The room by the numbers of the layout.
use Rattle.std.proofs.Common.{refl}
use Rattle.rules.specs.Layout.{room_of}
use Rattle.scan.proofs.soundness.room.Goals as goal

pub returns : goal.returns
unfolding room_of
returns g c = rw (c.room_for.ensures, c.HEADER.ensures, c.WIDTH.ensures, c.MOST.ensures, g.met.R.Row.header_is, g.met.R.Row.width_is, g.met.R.Row.most_is) refl
