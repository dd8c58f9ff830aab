use Rattle.std.proofs.Common.{arith, ◌∙◌, ap}
use Rattle.std.proofs.Math.Option.{some}
use Rattle.reader.proofs.Numbers.{no-magnitude, magnitude-zero, magnitude-more}
use Rattle.reader.proofs.fields.read_magnitude.Goals as goal

pub returns-in-48 : goal.returns-in-48
returns-in-48 c = magnitude-zero c.args.text.now c.args.at c.byte_at-b.ensures c.in-48.is

pub returns-in-49-to-57 : goal.returns-in-49-to-57
returns-in-49-to-57 c = ap some (rw c.from.ensures at c.more_digits.ensures) ∙ magnitude-more c.args.text.now c.args.at c.byte_at-b.ensures (omega arith) (omega arith)

pub returns-in_default : goal.returns-in_default
returns-in_default c = no-magnitude c.args.text.now c.args.at c.byte_at-b.ensures (λ least most. omega arith)

pub returns-in_default-2 : goal.returns-in_default-2
returns-in_default-2 c = no-magnitude c.args.text.now c.args.at c.byte_at-b.ensures (λ least most. omega arith)
