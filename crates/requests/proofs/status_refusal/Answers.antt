use Rattle.figures.proofs.Tests.{is-literal, not-literal}
use Rattle.rules.specs.NamedRecord.{status_refusal}
use Rattle.requests.proofs.status_refusal.Goals as goal

pub returns-then-status-eq-UNDER_GIVE_UP : goal.returns-then-status-eq-UNDER_GIVE_UP
unfolding status_refusal
returns-then-status-eq-UNDER_GIVE_UP c = simp (is-literal {z = c.args.status} 3 tt c.ranges.status c.if-status-eq-UNDER_GIVE_UP.true)

pub returns-else-status-eq-UNDER_GIVE_UP : goal.returns-else-status-eq-UNDER_GIVE_UP
unfolding status_refusal
returns-else-status-eq-UNDER_GIVE_UP c = simp (not-literal {z = c.args.status} 3 c.ranges.status c.if-status-eq-UNDER_GIVE_UP.false)
