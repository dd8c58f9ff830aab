use Rattle.std.proofs.Common.{length, ap, arith}
use Rattle.writer.proofs.NumberTexts.{magnitude, text-below, text-not-below}
use Rattle.writer.proofs.NumbersWritten.{negative-written}
use Rattle.writer.proofs.fields.write_number.Goals as goal

-- Below zero.

pub write_byte-after-requires : goal.write_byte-after-requires
write_byte-after-requires c = omega (arith, ap length (text-below c.ranges.z c.if-z-lt0.true))

pub write_digits-requires : goal.write_digits-requires
write_digits-requires c =
    rw (magnitude c.ranges.z c.unsigned_abs.ensures.value) (omega (arith, ap length (text-below c.ranges.z c.if-z-lt0.true), c.write_byte-after.auto.text))

pub returns-then-z-lt0 : goal.returns-then-z-lt0
returns-then-z-lt0 c =
    negative-written _ _ _ _ _ _ _ _ (text-below c.ranges.z c.if-z-lt0.true) (magnitude c.ranges.z c.unsigned_abs.ensures.value) c.requires c.write_byte-after.ensures c.write_digits.ensures

-- Not below zero.

pub write_digits-requires-2 : goal.write_digits-requires-2
write_digits-requires-2 c = omega (arith, ap length (text-not-below c.ranges.z c.if-z-lt0.false c.unsigned_abs-2.ensures.value))

pub returns : goal.returns
returns c = rw (text-not-below c.ranges.z c.if-z-lt0.false c.unsigned_abs-2.ensures.value) c.write_digits-2.ensures
