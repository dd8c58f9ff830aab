-- The cells of a row that the count names lie in the slice, and its stage is one, since the row is sound.
use Rattle.rules.specs.Layout.{row_at}
use Rattle.rules.specs.Tables.{processes_layout}
use Rattle.processes.proofs.ProcessTable.{process-cells-within, process-row-sound, sound-stage}
use Rattle.processes.proofs.read_process.Goals as goal

pub row_at-requires : goal.row_at-requires
row_at-requires c = process-cells-within c.args.cells.now c.requires.0 c.args.row c.requires.1

pub process_of-requires : goal.process_of-requires
process_of-requires c =
    rw c.row_at.ensures
    (sound-stage (row_at processes_layout c.args.cells.now c.args.row) (process-row-sound c.args.cells.now c.requires.0 c.args.row c.requires.1))
