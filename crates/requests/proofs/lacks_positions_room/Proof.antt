-- `requests::lacks_positions_room` meets its contract: the sum of the count and the rows asked for is far below 64 bits. Assumes nothing.
use native.Mathlib.Omega.{arith}
use mathlib.Core.Path.{ap₂}
use Prim.Native.Nat.{ℕ, ◌+◌}
use lib.Dec.{ltb}
use borrow.Author.Rules.{rules}
use Rattle.rules.specs.Tables.{positions_layout}
use Rattle.cells.proofs.Count.{room_most}
use Rattle.cells.proofs.SoundCells.{positions-known}
use Rattle.requests.proofs.lacks_positions_room.Statement.{statement}
use Rattle.requests.proofs.lacks_positions_room.Tie as tie

room-requires : tie.Need-room-requires
room-requires c κs = search rules

count-requires : tie.Need-count-requires
count-requires c κs = search rules

add-result : tie.Need-overflow_add-result
add-result c =
    let s : tie.Start = c.before.before in
    omega (arith, c.count.ensures, (positions-known s.args.cells.now s.requires.0).rows_fit, room_most positions_layout s.args.cells.now)

returns : tie.Need-returns
returns c =
    let s : tie.Start = c.before.before in
    ap₂ (λ (room count : ℕ). ltb room (count + s.args.added)) c.room.ensures c.count.ensures

pub lacks_positions_room_spec : {M : Type 1} → statement M
lacks_positions_room_spec = tie.close (tie.spec room-requires count-requires add-result returns)
