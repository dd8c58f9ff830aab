-- The test of the count as the layout says it.
use Rattle.std.proofs.Common.{◌≡◌, ◌≤◌, ◌<◌, rules, arith, slice_index_or, pos, to_z, of_z, w64, refl, length}
use borrow.Author.Tests.{lt-leb, le-leb}
use mir.Facts.{to_z_pos}
use Rattle.rules.specs.Layout.{room_of, count_is_sound}
use Rattle.cells.proofs.Count.{room_most}
use Rattle.scan.proofs.soundness.count_sound.Goals as goal

pub overflow_cast-room : goal.overflow_cast-room
overflow_cast-room g c = omega (arith, c.room.ensures, room_most g.R.Row.layout c.args.cells.now, g.met.R.Row.most_small)

pub returns-then-HEADER-cells : goal.returns-then-HEADER-cells
unfolding count_is_sound
returns-then-HEADER-cells g c =
    let cells = c.args.cells.now in
    let l = g.R.Row.layout in
    let header : l.header ≤ length cells = omega (arith, c.HEADER.ensures, g.met.R.Row.header_is) in
    let count : to_z w64 (of_z w64 (slice_index_or cells 0 (pos 0))) ≡ slice_index_or cells 0 (pos 0) = search rules in
    let room : to_z w64 c.room.result ≡ pos (room_of l cells) =
    rw c.room.ensures (to_z_pos w64 (omega (arith, room_most l cells, g.met.R.Row.most_small))) in
    rw (le-leb l.header (length cells) header) (rw (count, room) at c.in_range.ensures)

pub returns-else-HEADER-cells : goal.returns-else-HEADER-cells
unfolding count_is_sound
returns-else-HEADER-cells g c =
    let cells = c.args.cells.now in
    let l = g.R.Row.layout in
    let header : length cells < l.header = omega (arith, c.HEADER.ensures, g.met.R.Row.header_is) in
    rw (lt-leb c.HEADER.result (length cells) c.if-HEADER-cells.false, lt-leb l.header (length cells) header) refl
