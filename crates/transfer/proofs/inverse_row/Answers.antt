-- The quantity's negative goes into the booked cell of the side.
use Rattle.std.proofs.Common.{◌≡◌, neg_ℤ}
use mir.Facts.{to_z-of_z}
use Rattle.rules.specs.Transfer.{in_long, in_short}
use Rattle.scan.proofs.ReadBack.{read_back}
use Rattle.transfer.proofs.BySide.{told-long, told-short}
use Rattle.transfer.proofs.Negated.{negated_fits, neg-fits, negated}
use Rattle.transfer.proofs.inverse_row.Goals as goal

pub overflow_sub-r : goal.overflow_sub-r
overflow_sub-r c =
    simp (read_back c.args.r.quantity c.struct_told-1.given.1.1.1.1.1.1.1.1.0.1) (negated_fits c.args.r.quantity c.requires)

pub returns : goal.returns
returns c =
    let r = c.args.r in
    let known = c.struct_told-1.given in
    let left = neg-fits r.quantity c.requires in
    let cells : c.in_cells-long.result ≡ (in_long r.side (neg_ℤ r.quantity), in_short r.side (neg_ℤ r.quantity)) =
    simp (read_back r.side known.1.1.1.1.1.1.1.0.1) at (rw (negated r.quantity c.requires known.1.1.1.1.1.1.1.1.0.1) at c.in_cells-long.ensures) in
    simp (to_z-of_z c.ranges.today, to_z-of_z c.ranges.next, to_z-of_z c.ranges.kind, told-long r.side left cells, told-short r.side left cells) at c.inverse_record.ensures
