-- Refused by tests 1 and 2, or the batch's own call on sound tables.
use Rattle.std.proofs.Common.{ap, ◌∙◌, pos}
use Rattle.rules.specs.Call.{handle_call}
use Rattle.rules.specs.Left.{left}
use Rattle.verdict.specs.Verdict.{judged}
use Rattle.verdict.proofs.Handled.{sound-accepted}
use Rattle.batch.proofs.Handled.{unsound-left}
use Rattle.book.proofs.trades.Goals as goal

pub on_sound-requires : goal.on_sound-requires
on_sound-requires c = sound-accepted _ _ c.verdict_on_tables.ensures (ap judged c.in-Ok.is)

pub returns-in-Err : goal.returns-in-Err
returns-in-Err c =
    ap (λ a. left a c.args.excess.now c.args.records.now c.args.positions.now) c.from.ensures
    ∙ unsound-left _ _ _ _ _ c.verdict_on_tables.ensures _ (pos 0) (ap judged c.in-Err.is)

pub returns-in-Ok : goal.returns-in-Ok
unfolding handle_call
returns-in-Ok c = c.on_sound.ensures
