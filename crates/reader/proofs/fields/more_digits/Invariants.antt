-- The digits from here on, after the value so far, are those after the first.
use Rattle.std.proofs.Common.{◌-◌}
use Rattle.reader.proofs.MoreDigits.{DigitsSoFar}
use Rattle.reader.proofs.fields.more_digits.Given as goal

abbrev pub invariant-loop : goal.invariant-loop
invariant-loop l = DigitsSoFar l.text l.at l.first l.value l.next (12 - l.counter)
