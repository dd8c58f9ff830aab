use Rattle.std.proofs.Common.{arith}
use Rattle.writer.proofs.LineWritten.{line-length}
use Rattle.writer.proofs.line.line_width.Goals as goal

pub returns : goal.returns
returns c = omega (arith, line-length c.args.heading c.args.figures.now c.args.more.now)
