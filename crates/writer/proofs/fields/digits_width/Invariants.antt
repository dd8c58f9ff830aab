-- The digits counted and those of what is left are all, where those of nothing left don't count.
use Rattle.std.proofs.Common.{◌≡◌, ◌+◌, ◌-◌, length}
use Rattle.text.specs.Decimal.{digits_of}
use Rattle.writer.proofs.fields.digits_width.Given as goal

abbrev pub invariant-loop-left : goal.invariant-loop-left
invariant-loop-left l = l.width + length (digits_of l.left) ≡ length (digits_of l.n) + (1 - l.left)

abbrev pub decreases-loop-left : goal.decreases-loop-left
decreases-loop-left l = l.left
