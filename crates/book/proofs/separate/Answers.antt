-- Refused by tests 1 and 2, or the request's own call on sound tables, each figure handed on as it came.
use Rattle.std.proofs.Common.{ap, refl, ◌∙◌, pos}
use mir.Facts.{to_z-of_z}
use Rattle.rules.specs.Handle.{answered}
use Rattle.verdict.specs.Verdict.{judged}
use Rattle.verdict.proofs.Handled.{unsound-refused, sound-accepted}
use Rattle.book.proofs.separate.Goals as goal

pub on_sound-requires : goal.on_sound-requires
on_sound-requires c = sound-accepted _ _ c.verdict_on_tables.ensures (ap judged c.in-Ok.is)

pub returns-in-Err : goal.returns-in-Err
returns-in-Err c =
    ap (λ a. answered a c.args.records.now c.args.positions.now) c.from.ensures
    ∙ unsound-refused _ _ c.verdict_on_tables.ensures _ refl _ (pos 0) (ap judged c.in-Err.is)

pub returns-in-Ok : goal.returns-in-Ok
returns-in-Ok c =
    ap (λ a. answered a c.on_sound.new.records c.on_sound.new.positions) c.answer.ensures
    ∙ (simp (to_z-of_z c.ranges.id, to_z-of_z c.ranges.suffix, to_z-of_z c.ranges.account, to_z-of_z c.ranges.series) at c.on_sound.ensures.handled)
