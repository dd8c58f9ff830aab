-- The amount goes into the figure of its side, 0 into the other, and both totals move.
use Rattle.std.proofs.Common.{◌≡◌}
use mir.Facts.{to_z-of_z}
use Rattle.rules.specs.Transfer.{in_long, in_short, in_side}
use Rattle.scan.proofs.ReadBack.{read_back}
use Rattle.verdict.proofs.Moves.{transfer-moves}
use Rattle.transfer.proofs.BySide.{told-long, told-short}
use Rattle.transfer.proofs.shifted.Goals as goal

change : (c : goal.After-in_booked) → c.in_booked.result ≡ in_side c.args.r.side c.args.amount c.args.r.price
change c =
    let r = c.args.r in
    let known = c.struct_told-1.given in
    let side = read_back r.side known.1.1.1.1.1.1.1.0.1 in
    let price = read_back r.price known.1.1.1.1.1.1.1.1.1.0.1 in
    let amount = to_z-of_z c.ranges.amount in
    let cells : c.in_cells-long.result ≡ (in_long r.side c.args.amount, in_short r.side c.args.amount) = simp (side, amount) at c.in_cells-long.ensures in
    simp (side, amount, price, told-long r.side c.ranges.amount cells, told-short r.side c.ranges.amount cells) at c.in_booked.ensures

pub moved-requires : goal.moved-requires
moved-requires c = rw (change c) (transfer-moves c.args.p c.args.r.side c.args.amount c.args.r.price c.requires.0 c.requires.1 c.requires.2)

pub returns : goal.returns
returns c = rw (change c.before) at c.moved.ensures
