-- Refused by tests 1, 2 and 19, or the step on sound tables, each figure handed on as it came.
use Rattle.std.proofs.Common.{ap, ◌∙◌, pos}
use mir.Facts.{to_z-of_z}
use Rattle.rules.specs.Handle.{answered_by}
use Rattle.rules.specs.Tables.{all_tables}
use Rattle.verdict.specs.Verdict.{judged}
use Rattle.give_up_steps.proofs.OnAllTables.{unsound-refused, all_sound}
use Rattle.book.proofs.give_up.Goals as goal

pub on_sound-requires : goal.on_sound-requires
on_sound-requires c = all_sound _ _ _ c.verdict_on_all_tables.ensures (ap judged c.in-Ok.is)

pub returns-in-Err : goal.returns-in-Err
returns-in-Err c =
    ap (λ a. answered_by a (all_tables c.args.records.now c.args.positions.now c.args.processes.now)) c.from.ensures
    ∙ unsound-refused _ _ _ c.verdict_on_all_tables.ensures c.args.step c.args.process c.args.id c.args.suffix c.args.giving c.args.taking c.args.series _ (pos 0) (ap judged c.in-Err.is)

pub returns-in-Ok : goal.returns-in-Ok
returns-in-Ok c =
    ap (λ a. answered_by a (all_tables c.on_sound.new.records c.on_sound.new.positions c.on_sound.new.processes)) c.answer.ensures
    ∙ (simp (to_z-of_z c.ranges.process, to_z-of_z c.ranges.id, to_z-of_z c.ranges.suffix, to_z-of_z c.ranges.giving, to_z-of_z c.ranges.taking, to_z-of_z c.ranges.series) at c.on_sound.ensures.handled)
