use Rattle.std.proofs.Common.{refl, arith}
use Rattle.text.proofs.WrittenLaws.{written_byte}
use Rattle.writer.proofs.fields.write_byte.Goals as goal

pub returns : goal.returns
returns c = (refl, written_byte c.args.b c.args.at c.args.text.now (omega arith))
