use Rattle.std.proofs.Common.{◌≡◌, ◌+◌, ◌-◌, sym, ◌∙◌, arith}
use Rattle.reader.proofs.Places.{before-end}
use Rattle.reader.proofs.MoreDigits.{digit-range, no-digits, value-widens, digit-read, digits-end, digits-full}
use Rattle.reader.proofs.fields.more_digits.Goals as goal

pub loop-init : goal.loop-init
loop-init c = no-digits c.requires

pub returns-then-not-is_digit : goal.returns-then-not-is_digit
returns-then-not-is_digit c = digits-end c.loop.invariant c.byte_at-b.ensures (sym c.is_digit.ensures ∙ c.if-not-is_digit.true)

pub overflow_mul-value : goal.overflow_mul-value
overflow_mul-value c = omega (arith, value-widens c.loop.invariant (omega arith))

pub overflow_sub-b : goal.overflow_sub-b
overflow_sub-b c = (digit-range c.byte_at-b.result (sym c.if-not-is_digit.ensures)).0

pub overflow_add-value : goal.overflow_add-value
overflow_add-value c =
    omega (arith, c.from.ensures, value-widens c.loop.invariant (omega arith), (digit-range c.byte_at-b.result (sym c.if-not-is_digit.ensures)).1)

pub overflow_add-next : goal.overflow_add-next
overflow_add-next c =
    omega (arith, before-end c.args.text.now c.loop.next c.byte_at-b.ensures (omega (arith, (digit-range c.byte_at-b.result (sym c.if-not-is_digit.ensures)).0)))

pub loop-preserved : goal.loop-preserved
loop-preserved c =
    let one_less : 12 - (c.loop.counter + 1) ≡ 12 - c.loop.counter - 1 = omega arith in
    rw (one_less, c.from.ensures) (digit-read c.loop.invariant (omega arith) c.byte_at-b.ensures (sym c.if-not-is_digit.ensures))

pub returns : goal.returns
returns c = digits-full c.loop.invariant (omega arith)
