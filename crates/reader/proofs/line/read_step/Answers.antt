use Rattle.reader.proofs.Headings.{no-letter, letter-of, no-tab, no_step, step-there}
use Rattle.reader.proofs.line.read_step.Goals as goal

pub returns-then-byte_at-ne9 : goal.returns-then-byte_at-ne9
returns-then-byte_at-ne9 c = no-tab c.args.text.now c.args.at c.byte_at.ensures c.if-byte_at-ne9.true

pub returns-in_err-step : goal.returns-in_err-step
returns-in_err-step c =
    rw c.from_residual.ensures
    (no_step c.args.text.now c.args.at c.byte_at.ensures c.if-byte_at-ne9.false c.byte_at-2.ensures (no-letter _ _ c.try_from.ensures c.in_err-step.ensures.value))

pub returns : goal.returns
returns c = step-there c.args.text.now c.args.at c.byte_at.ensures c.if-byte_at-ne9.false c.byte_at-2.ensures (letter-of _ _ c.try_from.ensures c.in_ok-step.ensures.value)
