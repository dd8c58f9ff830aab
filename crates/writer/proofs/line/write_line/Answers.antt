use Rattle.std.proofs.Common.{arith}
use Rattle.writer.proofs.LineWritten.{line-length, line-written}
use Rattle.writer.proofs.line.write_line.Goals as goal

pub write_heading-first-requires : goal.write_heading-first-requires
write_heading-first-requires c = omega (arith, line-length c.args.heading c.args.figures.now c.args.more.now)

pub write_fields-second-requires : goal.write_fields-second-requires
write_fields-second-requires c = omega (arith, line-length c.args.heading c.args.figures.now c.args.more.now)

pub write_fields-end-requires : goal.write_fields-end-requires
write_fields-end-requires c = omega (arith, line-length c.args.heading c.args.figures.now c.args.more.now)

pub write_byte-requires : goal.write_byte-requires
write_byte-requires c = omega (arith, line-length c.args.heading c.args.figures.now c.args.more.now)

pub returns : goal.returns
returns c =
    line-written c.args.heading c.args.figures.now c.args.more.now _ _ _ _ _ _ _ _ _ _ c.requires c.write_heading-first.ensures c.write_fields-second.ensures c.write_fields-end.ensures
    c.write_byte.ensures
