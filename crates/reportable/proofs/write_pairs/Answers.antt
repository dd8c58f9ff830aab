-- `reportable::write_pairs` meets its contract. The loop's invariant: the pairs of the rows so far are written, and the place is the one after them. Assumes nothing.
use Rattle.std.proofs.Common.{arith, ◌<◌, length, FitsSigned, w64}
use Rattle.std.proofs.lemmas.Int.{to_z-of_z}
use Rattle.rules.specs.Layout.{rows_of}
use Rattle.rules.specs.Tables.{records_layout}
use Rattle.reportable.proofs.Listing.{none_written, row_room, row_written, all-written, row-has-parent}
use Rattle.reportable.proofs.write_pairs.Goals as goal

pub loop-row-init : goal.loop-row-init
loop-row-init c =
    let today-fits : FitsSigned w64 c.args.today = c.ranges.today in
    simp to_z-of_z (none_written c.args.today c.args.records.now c.args.pairs.now)

pub write_row-at-requires : goal.write_row-at-requires
write_row-at-requires c =
    let today-fits : FitsSigned w64 c.args.today = c.ranges.today in
    let rs = c.args.records.now in
    let so_far = simp to_z-of_z at c.loop-row.invariant in
    let below : c.loop-row.row < length (rows_of records_layout rs) = omega (arith, c.loop-row-test.true, c.count-row-end.ensures) in
    simp to_z-of_z (
      c.requires.0,
      below,
      row-has-parent c.args.today rs c.requires.1 c.loop-row.row below,
      row_room c.args.today rs c.args.pairs.now c.requires.2 _ _ _ so_far below,
    )

pub loop-row-preserved : goal.loop-row-preserved
loop-row-preserved c =
    let today-fits : FitsSigned w64 c.args.today = c.ranges.today in
    let rs = c.args.records.now in
    let so_far = simp to_z-of_z at c.loop-row.invariant in
    let below : c.loop-row.row < length (rows_of records_layout rs) = omega (arith, c.loop-row-test.true, c.count-row-end.ensures) in
    simp to_z-of_z (row_written c.args.today rs c.args.pairs.now c.requires.2 _ _ _ so_far below _ _ (simp to_z-of_z at c.write_row-at.ensures))

pub returns : goal.returns
returns c =
    let today-fits : FitsSigned w64 c.args.today = c.ranges.today in
    let so_far = simp to_z-of_z at c.loop-row.invariant in
    all-written c.args.today c.args.records.now c.args.pairs.now c.requires.2 _ _ _ so_far (omega (arith, c.loop-row-test.false, c.count-row-end.ensures))
