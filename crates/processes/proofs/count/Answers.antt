-- The count of a sound table is sound.
use Rattle.cells.proofs.SoundCells.{processes-known}
use Rattle.processes.proofs.count.Goals as goal

pub count-requires : goal.count-requires
count-requires c = (processes-known c.args.cells.now c.requires).count-sound
