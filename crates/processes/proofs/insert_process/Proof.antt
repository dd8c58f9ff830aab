-- `processes::insert_process` meets its contract: the row's cells go in at the place of its key, where no row has the process id. Assumes nothing.
use native.Mathlib.Omega.{arith}
use borrow.Author.Rules.{rules}
use Rattle.rules.specs.ProcessRows.{process_key, sound_process, row_of_process}
use Rattle.rules.specs.Tables.{processes_layout, sound_processes}
use Rattle.cells.proofs.RowCells.{processes-lawful}
use Rattle.cells.proofs.SoundCells.{processes-known}
use Rattle.tables.proofs.RowFits.{insertion-fits}
use Rattle.processes.proofs.NumberedRows.{number-inserted}
use Rattle.processes.proofs.ProcessTable.{processes-first, processes-by-key}
use Rattle.processes.proofs.insert_process.Statement.{statement}
use Rattle.processes.proofs.insert_process.Tie as tie

insert-row-requires : tie.Need-insert_row-requires
insert-row-requires c κs =
    let r : tie.After-process_cells-row = c.before.before in
    let n : tie.After-count-n = r.before in
    let s : tie.Start = n.before in
    omega (
      arith,
      insertion-fits processes_layout processes-lawful process_key processes-first sound_process s.args.cells.now (processes-by-key s.args.cells.now s.requires.sound) n.count-n.result n.count-n.ensures
          (process_key (row_of_process s.args.p)) r.process_cells-row.result (row_of_process s.args.p) r.process_cells-row.ensures (omega arith) s.requires.room s.args.place s.requires.place_is,
    )

returns : tie.Need-returns
unfolding sound_processes
returns c =
    let r : tie.After-process_cells-row = c.before.before.before.before in
    let n : tie.After-count-n = r.before in
    let s : tie.Start = n.before in
    number-inserted processes_layout processes-lawful process_key processes-first sound_process s.args.cells.now (processes-known s.args.cells.now s.requires.sound)
    (row_of_process s.args.p) s.requires.row-sound r.process_cells-row.result r.process_cells-row.ensures c.insert_row.new.cells
    s.requires.unused s.requires.room n.count-n.result n.count-n.ensures s.args.place s.requires.place_is c.insert_row.ensures

pub insert_process_spec : {M : Type 1} → statement M
insert_process_spec =
    tie.close (tie.spec (λ c κs. search rules) (λ c κs. search rules) (λ c. search rules) insert-row-requires (λ c. search rules) returns)
