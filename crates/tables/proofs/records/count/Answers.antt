-- The count of a sound table is sound.
use Rattle.cells.proofs.SoundCells.{records-known}
use Rattle.tables.proofs.records.count.Goals as goal

pub count-requires : goal.count-requires
count-requires c = (records-known c.args.cells.now c.requires).count-sound
