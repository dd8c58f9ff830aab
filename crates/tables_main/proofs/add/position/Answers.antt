use Rattle.std.proofs.Common.{rules, sym, arith, w64, of_z, to_z, ℤ}
use Rattle.rules.specs.declared.Position.{Position}
use Rattle.tables_main.proofs.Fits.{fits}
use Rattle.tables_main.proofs.add.position.Goals as goal
use Rattle.tables_main.proofs.add.position.Goals.{else-is_err-via-then-is_err+else-room-count, else-is_err-via-else-is_err}

-- A figure, as it is read from its local.
abbrev read : ℤ → ℤ
read z = to_z w64 (of_z w64 z)

pub write_position-requires : goal.write_position-requires
write_position-requires c =
    let cells = c.args.cells.now in
    let new : Position =
    record {
      account = read c.args.account;
      series = read c.args.series;
      long = read c.args.long;
      short = read c.args.short;
      cash = read c.args.cash;
      quantity = read c.args.quantity;
      value = read c.args.value;
    } in
    let sound = sym c.if-not-positions_sound.ensures in (
      sound,
      sym c.if-not-sound_position.ensures,
      fits cells new sound c.find_position-found.result c.is_err.result c.is_err.ensures.value c.find_position-found.ensures (elim c.else-is_err.branch [
        | else-is_err-via-then-is_err+else-room-count w ↦ λ absent. omega (arith, w.if-room-count.false, w.count.ensures, w.room.ensures)
        | else-is_err-via-else-is_err w ↦ λ absent. search rules
      ]),
      c.find_position-found.ensures,
    )
