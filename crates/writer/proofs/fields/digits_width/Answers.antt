use Rattle.std.proofs.Common.{arith}
use Rattle.writer.proofs.Widths.{width_one, width-of-tenth, width-bound}
use Rattle.writer.proofs.fields.digits_width.Goals as goal

pub loop-left-init : goal.loop-left-init
loop-left-init c = width-of-tenth c.args.n

pub overflow_add-width : goal.overflow_add-width
overflow_add-width c = omega (arith, width-bound c.args.n c.ranges.n.fits)

pub loop-left-preserved : goal.loop-left-preserved
loop-left-preserved c = omega (arith, width-of-tenth c.loop-left.left)

pub returns : goal.returns
returns c = omega (arith, width_one c.loop-left.left (omega arith), width-bound c.args.n c.ranges.n.fits)
