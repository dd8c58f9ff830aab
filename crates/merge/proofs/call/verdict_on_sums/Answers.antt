use Rattle.std.proofs.Common.{arith, sym, ◌∙◌, ap, not}
use Rattle.rules.specs.Rows.{sound_position}
use Rattle.verdict.proofs.Remaining.{◌past◌, stops, ends}
use Rattle.verdict.proofs.Room.{absent-at-most-one}
use Rattle.scan.proofs.ReadBack.{read_back}
use Rattle.requests.proofs.AbsentRow.{absent-is}
use Rattle.merge_sources.specs.Sources.{source_records}
use Rattle.merge.proofs.Tests.{count, at_11, sum_small, averageable, movable, left-of, residual-of}
use Rattle.merge.proofs.call.verdict_on_sums.Goals as goal

pub sum_of_quantities-quantity-requires : goal.sum_of_quantities-quantity-requires
sum_of_quantities-quantity-requires c = let f = c.requires.found in (f.records-sound, f.rows-known, f.all-there, (count f).1)

pub returns-then-quantity-gt-MOST_QUANTITY : goal.returns-then-quantity-gt-MOST_QUANTITY
returns-then-quantity-gt-MOST_QUANTITY c =
    let q = read_back c.sum_of_quantities-quantity.result c.sum_of_quantities-quantity.type_inv ∙ c.sum_of_quantities-quantity.ensures in
    stops (at_11 c.requires.found c.requires.passed) (rw q at c.if-quantity-gt-MOST_QUANTITY.true)

pub suffix_above-requires : goal.suffix_above-requires
suffix_above-requires c = let f = c.requires.found in (f.records-sound, (count f).1, f.suffixes-known)

pub returns-then-suffix_above : goal.returns-then-suffix_above
returns-then-suffix_above c =
    let q = read_back c.sum_of_quantities-quantity.result c.sum_of_quantities-quantity.type_inv ∙ c.sum_of_quantities-quantity.ensures in
    stops (at_11 c.requires.found c.requires.passed past rw q at c.if-quantity-gt-MOST_QUANTITY.false) (sym c.suffix_above.ensures ∙ c.if-suffix_above.true)

pub lacks_records_room-requires : goal.lacks_records_room-requires
lacks_records_room-requires c = let f = c.requires.found in (f.records-sound, omega (arith, (count f).1))

pub returns-then-lacks_records_room : goal.returns-then-lacks_records_room
returns-then-lacks_records_room c =
    let q = read_back c.sum_of_quantities-quantity.result c.sum_of_quantities-quantity.type_inv ∙ c.sum_of_quantities-quantity.ensures in
    stops (at_11 c.requires.found c.requires.passed past rw q at c.if-quantity-gt-MOST_QUANTITY.false past sym c.suffix_above.ensures ∙ c.if-suffix_above.false)
    (sym c.lacks_records_room.ensures ∙ c.if-lacks_records_room.true)

pub lacks_positions_room-requires : goal.lacks_positions_room-requires
lacks_positions_room-requires c =
    let absent = c.absent_row-absent.ensures ∙ absent-is c.args.positions.now c.args.account c.args.series c.args.held.found c.requires.found.position-known.found-is in
    (c.requires.found.positions-sound, omega (arith, absent, absent-at-most-one c.args.positions.now c.args.account c.args.series))

pub returns-then-lacks_positions_room : goal.returns-then-lacks_positions_room
returns-then-lacks_positions_room c =
    let q = read_back c.sum_of_quantities-quantity.result c.sum_of_quantities-quantity.type_inv ∙ c.sum_of_quantities-quantity.ensures in
    let absent = c.absent_row-absent.ensures ∙ absent-is c.args.positions.now c.args.account c.args.series c.args.held.found c.requires.found.position-known.found-is in
    let room = rw absent at c.lacks_positions_room.ensures in
    stops (at_11 c.requires.found c.requires.passed past rw q at c.if-quantity-gt-MOST_QUANTITY.false past sym c.suffix_above.ensures ∙ c.if-suffix_above.false
    past sym c.lacks_records_room.ensures ∙ c.if-lacks_records_room.false)
    (sym room ∙ c.if-lacks_positions_room.true)

pub sum_of_values-value-requires : goal.sum_of_values-value-requires
sum_of_values-value-requires c =
    let f = c.requires.found in
    let q = read_back c.sum_of_quantities-quantity.result c.sum_of_quantities-quantity.type_inv ∙ c.sum_of_quantities-quantity.ensures in
    let least = rw q at c.if-quantity-gt-MOST_QUANTITY.false in
    (f.records-sound, f.rows-known, f.all-there, (count f).1, c.requires.passed.all-adjustable, sum_small f c.requires.passed least)

pub residual-residual-requires : goal.residual-residual-requires
residual-residual-requires c =
    let q = read_back c.sum_of_quantities-quantity.result c.sum_of_quantities-quantity.type_inv ∙ c.sum_of_quantities-quantity.ensures in
    let v = read_back c.sum_of_values-value.result c.sum_of_values-value.type_inv ∙ c.sum_of_values-value.ensures in
    let least = rw q at c.if-quantity-gt-MOST_QUANTITY.false in
    rw (v, q) (averageable c.requires.found c.requires.passed least)

pub moved-requires : goal.moved-requires
moved-requires c =
    let q = read_back c.sum_of_quantities-quantity.result c.sum_of_quantities-quantity.type_inv ∙ c.sum_of_quantities-quantity.ensures in
    let v = read_back c.sum_of_values-value.result c.sum_of_values-value.type_inv ∙ c.sum_of_values-value.ensures in
    let least = rw q at c.if-quantity-gt-MOST_QUANTITY.false in
    let residual = residual-of (source_records c.args.records.now c.args.pairs.now) _ _ _ c.args.buy v q c.requires.side_is (read_back c.residual-residual.result c.residual-residual.type_inv ∙ c.residual-residual.ensures) in
    movable c.requires.found c.requires.passed least c.by_residual-m.result _ residual c.by_residual-m.ensures

pub returns-then-not-sound_position : goal.returns-then-not-sound_position
returns-then-not-sound_position c =
    let q = read_back c.sum_of_quantities-quantity.result c.sum_of_quantities-quantity.type_inv ∙ c.sum_of_quantities-quantity.ensures in
    let v = read_back c.sum_of_values-value.result c.sum_of_values-value.type_inv ∙ c.sum_of_values-value.ensures in
    let least = rw q at c.if-quantity-gt-MOST_QUANTITY.false in
    let absent = c.absent_row-absent.ensures ∙ absent-is c.args.positions.now c.args.account c.args.series c.args.held.found c.requires.found.position-known.found-is in
    let room = rw absent at c.lacks_positions_room.ensures in
    let residual = residual-of (source_records c.args.records.now c.args.pairs.now) _ _ _ c.args.buy v q c.requires.side_is (read_back c.residual-residual.result c.residual-residual.type_inv ∙ c.residual-residual.ensures) in
    let left = left-of c.requires.found c.requires.passed least c.by_residual-m.result c.moved.result _ residual c.by_residual-m.ensures c.moved.ensures in
    let sound = c.sound_position.ensures ∙ ap sound_position left in
    stops (at_11 c.requires.found c.requires.passed past least past sym c.suffix_above.ensures ∙ c.if-suffix_above.false
    past sym c.lacks_records_room.ensures ∙ c.if-lacks_records_room.false past sym room ∙ c.if-lacks_positions_room.false)
    (ap not (sym sound ∙ c.if-not-sound_position.true))

pub returns : goal.returns
returns c =
    let q = read_back c.sum_of_quantities-quantity.result c.sum_of_quantities-quantity.type_inv ∙ c.sum_of_quantities-quantity.ensures in
    let v = read_back c.sum_of_values-value.result c.sum_of_values-value.type_inv ∙ c.sum_of_values-value.ensures in
    let least = rw q at c.if-quantity-gt-MOST_QUANTITY.false in
    let absent = c.absent_row-absent.ensures ∙ absent-is c.args.positions.now c.args.account c.args.series c.args.held.found c.requires.found.position-known.found-is in
    let room = rw absent at c.lacks_positions_room.ensures in
    let residual = residual-of (source_records c.args.records.now c.args.pairs.now) _ _ _ c.args.buy v q c.requires.side_is (read_back c.residual-residual.result c.residual-residual.type_inv ∙ c.residual-residual.ensures) in
    let left = left-of c.requires.found c.requires.passed least c.by_residual-m.result c.moved.result _ residual c.by_residual-m.ensures c.moved.ensures in
    let sound = c.sound_position.ensures ∙ ap sound_position left in
    ends (at_11 c.requires.found c.requires.passed past least past sym c.suffix_above.ensures ∙ c.if-suffix_above.false
    past sym c.lacks_records_room.ensures ∙ c.if-lacks_records_room.false past sym room ∙ c.if-lacks_positions_room.false past ap not (sym sound ∙ c.if-not-sound_position.false))
