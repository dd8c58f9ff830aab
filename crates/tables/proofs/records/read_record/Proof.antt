-- `tables::records::read_record` meets its contract: the cells of a row that the count names lie in the slice. Assumes nothing.
use native.Mathlib.Omega.{arith}
use Prim.Native.Nat.{suc, ◌≤◌}
use lib.ListN.{length}
use Rattle.rules.specs.Layout.{start_of}
use Rattle.rules.specs.Tables.{records_layout}
use Rattle.cells.proofs.SoundCells.{records-known}
use Rattle.tables.proofs.RowStatus.{row-cells}
use borrow.Author.Rules.{rules}
use Rattle.tables.proofs.records.read_record.Statement.{statement}
use Rattle.tables.proofs.records.read_record.Tie as tie

module _ (s : tie.Start) where
  within : start_of records_layout (suc s.args.row) ≤ length s.args.cells.now
  within = row-cells s.args.cells.now (records-known s.args.cells.now s.requires.0) s.args.row s.requires.1

mul-record-at : tie.Need-overflow_mul-row
mul-record-at c = omega (arith, within c)

add-record-at : tie.Need-overflow_add-row
add-record-at c = omega (arith, within c)

record-at-requires : tie.Need-record_at-requires
record-at-requires c κs = omega (arith, within c)

returns : tie.Need-returns
returns c = search rules

pub read_record_spec : {M : Type 1} → statement M
read_record_spec = tie.close (tie.spec mul-record-at add-record-at record-at-requires returns)
