use Rattle.std.proofs.Common.{arith}
use Rattle.writer.proofs.NumberTexts.{signed-width, one_byte}
use Rattle.writer.proofs.fields.number_width.Goals as goal

pub returns : goal.returns
returns c = omega (arith, signed-width c.ranges.z c.unsigned_abs.ensures.value, one_byte, c.digits_width.ensures, c.from.ensures)
