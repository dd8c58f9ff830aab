-- `requests::moved` meets its contract: each sum fits, since the figures are in range and the amounts small. Assumes nothing.
use mir.Facts.{to_z-of_z}
use Rattle.rules.specs.Rows.{moved}
use Rattle.scan.proofs.ReadBack.{read_back}
use Rattle.requests.proofs.PositionRange.{long-fits, short-fits, moved-cash-fits, quantity-fits, value-fits}
use Rattle.requests.proofs.moved.Statement.{statement}
use Rattle.requests.proofs.moved.Tie as tie

abbrev start2 : tie.After-struct_told-2-1 → tie.Start
start2 c = c.before.before.before.before

abbrev start4 : tie.After-struct_told-4-1 → tie.Start
start4 c = start2 c.before.before.before.before

abbrev start6 : tie.After-struct_told-6-1 → tie.Start
start6 c = start4 c.before.before.before.before

abbrev start8 : tie.After-struct_told-8-1 → tie.Start
start8 c = start6 c.before.before.before.before

abbrev start10 : tie.After-struct_told-10-1 → tie.Start
start10 c = start8 c.before.before.before.before

add-t3 : tie.Need-overflow_add-result
add-t3 c =
    let s : tie.Start = start2 c in
    simp (read_back s.args.p.long c.struct_told-1.given.1.1.0.1, read_back s.args.m.long c.struct_told-2-1.given.0.1)
    (long-fits s.args.p s.args.m s.requires)

add-t4 : tie.Need-overflow_add-result-2
add-t4 c =
    let s : tie.Start = start4 c in
    simp (read_back s.args.p.short c.struct_told-3-1.given.1.1.1.0.1, read_back s.args.m.short c.struct_told-4-1.given.1.0.1)
    (short-fits s.args.p s.args.m s.requires)

add-t5 : tie.Need-overflow_add-result-3
add-t5 c =
    let s : tie.Start = start6 c in
    simp (read_back s.args.p.cash c.struct_told-5-1.given.1.1.1.1.0.1, read_back s.args.m.cash c.struct_told-6-1.given.1.1.0.1)
    (moved-cash-fits s.args.p s.args.m s.requires)

add-t6 : tie.Need-overflow_add-result-4
add-t6 c =
    let s : tie.Start = start8 c in
    simp (read_back s.args.p.quantity c.struct_told-7-1.given.1.1.1.1.1.0.1, read_back s.args.m.quantity c.struct_told-8-1.given.1.1.1.0.1)
    (quantity-fits s.args.p s.args.m s.requires)

add-t7 : tie.Need-overflow_add-result-5
add-t7 c =
    let s : tie.Start = start10 c in
    simp (read_back s.args.p.value c.struct_told-9-1.given.1.1.1.1.1.1.0.1, read_back s.args.m.value c.struct_told-10-1.given.1.1.1.1.0.1)
    (value-fits s.args.p s.args.m s.requires)

returns : tie.Need-returns
unfolding moved
returns c =
    let s : tie.Start = start10 c.before in
    let p = s.args.p in
    let m = s.args.m in
    let known = c.struct_told-11-1.given in
    let changes = c.struct_told-10-1.given in
    simp (
      read_back p.account known.0.1,
      read_back p.series known.1.0.1,
      read_back p.long known.1.1.0.1,
      read_back p.short known.1.1.1.0.1,
      read_back p.cash known.1.1.1.1.0.1,
      read_back p.quantity known.1.1.1.1.1.0.1,
      read_back p.value known.1.1.1.1.1.1.0.1,
      read_back m.long changes.0.1,
      read_back m.short changes.1.0.1,
      read_back m.cash changes.1.1.0.1,
      read_back m.quantity changes.1.1.1.0.1,
      read_back m.value changes.1.1.1.1.0.1,
      to_z-of_z (long-fits p m s.requires),
      to_z-of_z (short-fits p m s.requires),
      to_z-of_z (moved-cash-fits p m s.requires),
      to_z-of_z (quantity-fits p m s.requires),
      to_z-of_z (value-fits p m s.requires),
    )

pub moved_spec : {M : Type 1} → statement M
moved_spec = tie.close (tie.spec add-t3 add-t4 add-t5 add-t6 add-t7 returns)
