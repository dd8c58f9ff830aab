-- The count of a sound table is sound.
use Rattle.cells.proofs.SoundCells.{positions-known}
use Rattle.tables.proofs.positions.count.Goals as goal

pub count-requires : goal.count-requires
count-requires c = (positions-known c.args.cells.now c.requires).count-sound
