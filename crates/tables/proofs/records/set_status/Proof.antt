-- `tables::records::set_status` meets its contract: the status cell of a row set is the record in that status in its place. Assumes nothing.
use Prim.Native.Nat.{suc, ◌≤◌}
use native.Mathlib.Omega.{arith}
use lib.ListN.{length}
use mir.Facts.{to_z-of_z}
use borrow.Author.Rules.{rules}
use Rattle.rules.specs.Layout.{start_of}
use Rattle.rules.specs.Tables.{records_layout}
use Rattle.cells.proofs.SoundCells.{records-known}
use Rattle.tables.proofs.RowStatus.{row-cells, row-in-status}
use Rattle.tables.proofs.records.set_status.Statement.{statement}
use Rattle.tables.proofs.records.set_status.Tie as tie

module _ (s : tie.Start) where
  within : start_of records_layout (suc s.args.row) ≤ length s.args.cells.now
  within = row-cells s.args.cells.now (records-known s.args.cells.now s.requires.0) s.args.row s.requires.1

mul-status : tie.Need-overflow_mul-status
mul-status c = omega (arith, within c)

add-status : tie.Need-overflow_add-status
add-status c = omega (arith, within c)

add-status-2 : tie.Need-overflow_add-status-2
add-status-2 c = omega (arith, within c)

mul-status-2 : tie.Need-offset_bounds-cells-row
mul-status-2 c = omega (arith, within c)

slice-set-from-status : tie.Need-bounds-cells-row
slice-set-from-status c = omega (arith, within c)

same_length : tie.Need-shape_of-cells
same_length c = search rules

returns : tie.Need-returns
returns c =
    simp (to_z-of_z c.ranges.status)
    (row-in-status c.args.cells.now (records-known c.args.cells.now c.requires.0) c.args.row c.requires.1 c.args.status c.requires.2)

pub set_status_spec : {M : Type 1} → statement M
set_status_spec =
    tie.close
    (tie.spec
    mul-status
    add-status
    add-status-2
    mul-status-2
    slice-set-from-status
    same_length
    returns)
