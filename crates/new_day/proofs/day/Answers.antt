-- `new_day::day` meets its contract: refused by test 1, or the call on sound records, beside no positions. Assumes nothing.
use Rattle.std.proofs.Common.{sym, ◌∙◌, [], ℤ, FitsSigned, w64}
use Rattle.std.proofs.lemmas.Int.{to_z-of_z}
use Rattle.rules.specs.Tables.{no_processes}
use Rattle.new_day.proofs.DayMoved.{unsound}
use Rattle.new_day.proofs.day.Goals.{then-records_sound, else-records_sound}
use Rattle.new_day.proofs.day.Goals as goal

pub returns : goal.returns
returns c =
    let day : ℤ = c.args.day in
    let day-fits : FitsSigned w64 day = c.ranges.day in
    elim c.if-records_sound.branch [
      | then-records_sound w ↦ rw (c.answer.ensures, w.outcome-is, w.records-is) ((simp to_z-of_z at w.on_sound-outcome.ensures).handled [] no_processes)
      | else-records_sound w ↦ rw (c.answer.ensures, w.outcome-is, w.records-is, w.into.ensures) (unsound c.args.records.now day (sym c.records_sound.ensures ∙ w.if-records_sound.false))
    ]
