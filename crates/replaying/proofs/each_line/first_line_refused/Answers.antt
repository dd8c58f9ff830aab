-- No byte, a bad first line, or one that names a request.
use Rattle.std.proofs.Common.{rules}
use Rattle.replaying.proofs.FirstLine.{no_line, first-bad, first-named}
use Rattle.replaying.proofs.each_line.first_line_refused.Goals as goal

pub returns-then-is_empty : goal.returns-then-is_empty
returns-then-is_empty c = no_line _ (search rules)

pub returns-in-None : goal.returns-in-None
returns-in-None c = let w = c.in-None.ensures in let h = c.if-is_empty.ensures in first-bad _ (search rules) w.request

pub returns-in-Some : goal.returns-in-Some
returns-in-Some c = let w = c.in-Some.ensures in rw c.number.ensures (first-named _ (search rules) _ w.request)
