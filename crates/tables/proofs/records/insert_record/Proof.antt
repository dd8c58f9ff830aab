-- `tables::records::insert_record` meets its contract: the row's cells go in at the place of its key, where the key is absent. Assumes nothing.
use native.Mathlib.Omega.{arith}
use borrow.Author.Rules.{rules}
use Rattle.rules.specs.Rows.{record_key, sound_record}
use Rattle.rules.specs.Tables.{records_layout, sound_record_rows}
use Rattle.cells.specs.SoundTable.{SoundRecords}
use Rattle.cells.proofs.RowCells.{records-lawful}
use Rattle.cells.proofs.SoundCells.{records-known}
use Rattle.lookup.proofs.TableLookup.{records-first}
use Rattle.tables.proofs.RowFits.{insertion-fits}
use Rattle.tables.proofs.RowPut.{put-inserted}
use Rattle.tables.proofs.records.insert_record.Statement.{statement}
use Rattle.tables.proofs.records.insert_record.Tie as tie

table : (s : tie.Start) → SoundRecords s.args.cells.now
table s = records-known s.args.cells.now s.requires.0

insert-row-requires : tie.Need-insert_row-requires
insert-row-requires c κs =
    let r : tie.After-record_cells-row = c.before.before in
    let n : tie.After-count-n = r.before in
    let s : tie.Start = n.before in
    omega (
      arith,
      insertion-fits records_layout records-lawful record_key records-first sound_record s.args.cells.now (table s) n.count-n.result n.count-n.ensures
          (record_key s.args.r) r.record_cells-row.result s.args.r r.record_cells-row.ensures (omega arith) s.requires.3 s.args.place s.requires.4,
    )

returns : tie.Need-returns
unfolding sound_record_rows
returns c =
    let r : tie.After-record_cells-row = c.before.before.before.before in
    let n : tie.After-count-n = r.before in
    let s : tie.Start = n.before in
    put-inserted records_layout records-lawful record_key records-first sound_record s.args.cells.now (table s)
    s.args.r s.requires.1 n.count-n.result n.count-n.ensures r.record_cells-row.result r.record_cells-row.ensures
    c.insert_row.new.cells s.requires.2 s.requires.3 s.args.place s.requires.4 c.insert_row.ensures

pub insert_record_spec : {M : Type 1} → statement M
insert_record_spec =
    tie.close (tie.spec (λ c κs. search rules) (λ c κs. search rules) (λ c. search rules) insert-row-requires (λ c. search rules) returns)
