-- The quantity goes into the booked cell of the side.
use Rattle.std.proofs.Common.{◌≡◌}
use borrow.Author.Rules.{sfits_of}
use mir.Facts.{to_z-of_z}
use mir.Syntax.{w64}
use Rattle.rules.specs.Transfer.{in_long, in_short}
use Rattle.scan.proofs.ReadBack.{read_back}
use Rattle.transfer.proofs.BySide.{told-long, told-short}
use Rattle.transfer.proofs.arrived_row.Goals as goal

pub returns : goal.returns
returns c =
    let r = c.args.r in
    let known = c.struct_told-1.given in
    let quantity = read_back r.quantity known.1.1.1.1.1.1.1.1.0.1 in
    let fits = sfits_of {w = w64} {z = r.quantity} known.1.1.1.1.1.1.1.1.0.1 in
    let cells : c.in_cells-long.result ≡ (in_long r.side r.quantity, in_short r.side r.quantity) = simp (read_back r.side known.1.1.1.1.1.1.1.0.1, quantity) at c.in_cells-long.ensures in
    simp (
      to_z-of_z c.ranges.today,
      to_z-of_z c.ranges.suffix,
      to_z-of_z c.ranges.kind,
      to_z-of_z c.ranges.to,
      quantity,
      told-long r.side fits cells,
      told-short r.side fits cells,
    ) at c.adjustable_record.ensures
