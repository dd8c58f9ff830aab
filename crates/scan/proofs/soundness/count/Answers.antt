-- The count of a sound table is the number of its rows, which are within the room.
use Rattle.std.proofs.Common.{◌≡◌, rules, arith, slice_index_or, pos, to_z, of_z, w64, refl}
use Rattle.cells.proofs.Count.{room_most, sound-header, sound-count, sound-rows-fit}
use Rattle.scan.proofs.soundness.count.Goals as goal

pub bounds-cells-0 : goal.bounds-cells-0
bounds-cells-0 g c = let lawful = g.met.R.Row.lawful in omega (arith, lawful.counted, sound-header g.R.Row.layout lawful c.args.cells.now c.requires)

pub overflow_cast-result : goal.overflow_cast-result
overflow_cast-result g c =
    let cells = c.args.cells.now in
    let lawful = g.met.R.Row.lawful in
    let back : to_z w64 (of_z w64 (slice_index_or cells 0 (pos 0))) ≡ slice_index_or cells 0 (pos 0) = search rules in
    rw (back, sound-count g.R.Row.layout lawful cells c.requires) (tt, omega (arith, sound-rows-fit g.R.Row.layout lawful cells c.requires, room_most g.R.Row.layout cells, g.met.R.Row.most_small))

pub returns : goal.returns
returns g c =
    let cells = c.args.cells.now in
    let back : to_z w64 (of_z w64 (slice_index_or cells 0 (pos 0))) ≡ slice_index_or cells 0 (pos 0) = search rules in
    rw (back, sound-count g.R.Row.layout g.met.R.Row.lawful cells c.requires) refl
