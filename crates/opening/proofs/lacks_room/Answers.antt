use Rattle.std.proofs.Common.{arith}
use Rattle.rules.specs.Tables.{processes_layout}
use Rattle.cells.proofs.Count.{room_most}
use Rattle.cells.proofs.SoundCells.{processes-known}
use Rattle.opening.proofs.lacks_room.Goals as goal

pub overflow_add-result : goal.overflow_add-result
overflow_add-result c = omega (arith, c.count.ensures, (processes-known c.args.processes.now c.requires).rows_fit, room_most processes_layout c.args.processes.now)
