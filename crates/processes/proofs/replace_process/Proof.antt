-- `processes::replace_process` meets its contract: the row's cells are written over those of the row with its key. Assumes nothing.
use native.Mathlib.Omega.{arith}
use mathlib.Core.Path.{refl}
use borrow.Author.Rules.{rules}
use lib.ListN.{length}
use Rattle.rules.specs.ProcessRows.{process_key, sound_process, row_of_process}
use Rattle.rules.specs.Layout.{rows_of}
use Rattle.rules.specs.Tables.{processes_layout, sound_processes}
use Rattle.cells.proofs.RowCells.{processes-lawful}
use Rattle.cells.proofs.SoundCells.{processes-known}
use Rattle.tables.proofs.RowFits.{replacement-fits}
use Rattle.processes.proofs.NumberedRows.{number-replaced}
use Rattle.processes.proofs.ProcessTable.{processes-first, processes-by-key, replaced-there}
use Rattle.processes.proofs.replace_process.Statement.{statement}
use Rattle.processes.proofs.replace_process.Tie as tie

replace-row-requires : tie.Need-replace_row-requires
replace-row-requires c κs =
    let r : tie.After-process_cells-row_cells = c.before.before in
    let s : tie.Start = r.before in
    omega (
      arith,
      replacement-fits processes_layout processes-lawful process_key processes-first sound_process s.args.cells.now (processes-by-key s.args.cells.now s.requires.sound)
          (length (rows_of processes_layout s.args.cells.now)) refl (process_key (row_of_process s.args.p))
          r.process_cells-row_cells.result (row_of_process s.args.p) r.process_cells-row_cells.ensures
          s.args.row (replaced-there s.args.cells.now s.args.row s.args.p s.requires),
    )

returns : tie.Need-returns
unfolding sound_processes
returns c =
    let r : tie.After-process_cells-row_cells = c.before.before.before.before in
    let s : tie.Start = r.before in
    number-replaced processes_layout processes-lawful process_key processes-first sound_process s.args.cells.now (processes-known s.args.cells.now s.requires.sound)
    (row_of_process s.args.p) s.requires.row-sound r.process_cells-row_cells.result r.process_cells-row_cells.ensures c.replace_row.new.cells
    s.args.row (replaced-there s.args.cells.now s.args.row s.args.p s.requires) c.replace_row.ensures

pub replace_process_spec : {M : Type 1} → statement M
replace_process_spec = tie.close (tie.spec (λ c κs. search rules) (λ c. search rules) replace-row-requires (λ c. search rules) returns)
