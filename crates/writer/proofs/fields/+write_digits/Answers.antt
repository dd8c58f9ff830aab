use Rattle.std.proofs.Common.{arith}
use Rattle.writer.proofs.NumbersWritten.{one_written, more-written}
use Rattle.writer.proofs.Widths.{width_one, width-more}
use Rattle.writer.proofs.fields.+write_digits.Goals as goal

-- One digit.

pub write_byte-requires : goal.write_byte-requires
write_byte-requires t c = omega (arith, width_one c.args.n c.if-n-lt10.true)

pub returns-then-n-lt10 : goal.returns-then-n-lt10
returns-then-n-lt10 t c = one_written _ _ _ _ _ c.if-n-lt10.true c.write_byte.ensures

-- Those of a tenth, and the last one.

pub write_digits-last-requires : goal.write_digits-last-requires
write_digits-last-requires t c = omega (arith, width-more c.args.n c.if-n-lt10.false)

pub write_byte-requires-2 : goal.write_byte-requires-2
write_byte-requires-2 t c = omega (arith, width-more c.args.n c.if-n-lt10.false, c.write_digits-last.auto.text)

pub returns : goal.returns
returns t c = more-written _ _ _ _ _ _ _ c.if-n-lt10.false c.requires c.write_digits-last.ensures c.write_byte-2.ensures
