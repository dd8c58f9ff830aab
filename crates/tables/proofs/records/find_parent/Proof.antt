-- `tables::records::find_parent` meets its contract: the search among the rows up to the record's. Assumes nothing.
use Prim.Native.Nat.{suc, ◌≤◌}
use native.Mathlib.Omega.{arith}
use lib.ListN.{length}
use Rattle.rules.specs.Rows.{record_key, sound_record}
use Rattle.rules.specs.Layout.{start_of}
use Rattle.rules.specs.Tables.{records_layout}
use Rattle.cells.specs.SoundTable.{SoundRecords}
use Rattle.cells.proofs.SoundCells.{records-known}
use Rattle.scan.proofs.ReadBack.{read_back}
use Rattle.lookup.proofs.TableLookup.{records-first}
use Rattle.lookup.proofs.FirstRows.{first-searchable}
use Rattle.tables.proofs.RowStatus.{row-cells}
use Rattle.tables.proofs.ParentRow.{parent-at}
use Rattle.tables.proofs.records.find_parent.Statement.{statement}
use Rattle.tables.proofs.records.find_parent.Tie as tie

module _ (s : tie.Start) where
  table : SoundRecords s.args.cells.now
  table = records-known s.args.cells.now s.requires.0

  within : start_of records_layout (suc s.args.row) ≤ length s.args.cells.now
  within = row-cells s.args.cells.now table s.args.row s.requires.1

find-by-distance-requires : tie.Need-find_by_distance-requires
find-by-distance-requires c κs =
    let s : tie.Start = c.before.before.before in
    (first-searchable records_layout record_key records-first sound_record s.args.cells.now (table s) _ (omega (arith, s.requires.1)), omega arith)

returns : tie.Need-returns
returns c =
    let told : tie.After-struct_told-1 = c.before.before.before in
    let s : tie.Start = told.before in
    parent-at s.args.cells.now s.args.r (table s) s.args.row s.requires.1 s.requires.2
    (find-by-distance-requires c.before c.find_by_distance.lifetimes).0 (omega arith) (omega (arith, s.requires.1))
    c.find_by_distance.result
    (simp (read_back s.args.r.id told.struct_told-1.given.0.1, read_back s.args.r.parent told.struct_told-1.given.1.1.0.1) at c.find_by_distance.ensures)

pub find_parent_spec : {M : Type 1} → statement M
find_parent_spec = tie.close (tie.spec (λ c. omega (arith, within c)) find-by-distance-requires returns)
