use Rattle.std.proofs.Common.{sym, ◌∙◌, ap, drop, ℤ}
use Rattle.std.proofs.Math.Option.{some}
use Rattle.text.specs.Scan.{taken}
use Rattle.reader.proofs.Numbers.{magnitude-small, below_none, below-zero, below-some, plain-none, plain-some, value-fits, value-back, negated_fits, negated_back, number-below, number-not-below}
use Rattle.reader.proofs.fields.read_number.Goals as goal

-- Where there is no minus.

pub returns-in_err-value : goal.returns-in_err-value
returns-in_err-value c = rw c.from_residual.ensures (plain-none c.in_err-value.ensures ∙ sym (number-not-below c.args.text.now c.args.at c.byte_at.ensures c.if-byte_at-ne45.true))

pub overflow_cast-result : goal.overflow_cast-result
overflow_cast-result c = value-fits (magnitude-small _ c.in_ok-value.ensures)

pub returns-then-byte_at-ne45 : goal.returns-then-byte_at-ne45
returns-then-byte_at-ne45 c =
    ap (λ (z : ℤ). some (taken z (drop c.in_ok-value.field-0.next c.args.text.now))) (value-back (magnitude-small _ c.in_ok-value.ensures))
    ∙ plain-some c.in_ok-value.ensures ∙ sym (number-not-below c.args.text.now c.args.at c.byte_at.ensures c.if-byte_at-ne45.true)

-- After a minus.

pub returns-in_err-value-2 : goal.returns-in_err-value-2
returns-in_err-value-2 c =
    rw c.from_residual-in_err-value-2.ensures
    (below_none c.in_err-value-2.ensures ∙ sym (number-below c.args.text.now c.args.at c.byte_at.ensures c.if-byte_at-ne45.false))

pub returns-then-value-eq0 : goal.returns-then-value-eq0
returns-then-value-eq0 c =
    below-zero c.in_ok-value-2.ensures c.if-value-eq0.true ∙ sym (number-below c.args.text.now c.args.at c.byte_at.ensures c.if-byte_at-ne45.false)

pub overflow_cast-result-2 : goal.overflow_cast-result-2
overflow_cast-result-2 c = value-fits (magnitude-small _ c.in_ok-value-2.ensures)

pub overflow_sub-result : goal.overflow_sub-result
overflow_sub-result c = negated_fits (magnitude-small _ c.in_ok-value-2.ensures)

pub returns : goal.returns
returns c =
    ap (λ (z : ℤ). some (taken z (drop c.in_ok-value-2.field-0.next c.args.text.now))) (negated_back (magnitude-small _ c.in_ok-value-2.ensures))
    ∙ below-some c.in_ok-value-2.ensures c.if-value-eq0.false ∙ sym (number-below c.args.text.now c.args.at c.byte_at.ensures c.if-byte_at-ne45.false)
