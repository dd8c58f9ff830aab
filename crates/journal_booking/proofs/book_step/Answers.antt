-- Refused 19 beside processes that are not sound, otherwise the figures as they are read, handed to the step's own call.
use Rattle.std.proofs.Common.{rules, ◌≡◌, true, refl, sym, ◌∙◌, ℕ, List, ℤ, pos, get_or, FitsSigned, w64}
use mir.Facts.{to_z-of_z}
use Rattle.rules.specs.Reader.{request_named}
use Rattle.rules.specs.Tables.{all_tables}
use Rattle.soundness.specs.SoundTables.{SoundTables}
use Rattle.journal_booking.proofs.Booked.{step-booked, step-refused}
use Rattle.journal_booking.proofs.book_step.Goals as goal

pub returns-then-not-sound : goal.returns-then-not-sound
unfolding request_named
returns-then-not-sound c =
    rw c.from.ensures (step-refused _ _ _ c.args.step _ _ _ _ _ _ c.requires.0 c.requires.1 (sym c.requires.2 ∙ c.if-not-sound.true))

pub returns : goal.returns
unfolding request_named
returns c =
    let sound : SoundTables (all_tables c.args.records.now c.args.positions.now c.args.processes.now)
    = record { records = c.requires.0; positions = c.requires.1; processes = sym c.requires.2 ∙ c.if-not-sound.false } in
    let f0 : FitsSigned w64 (get_or c.args.figures.now 0 (pos 0)) = search rules in
    let f1 : FitsSigned w64 (get_or c.args.figures.now 1 (pos 0)) = search rules in
    let f2 : FitsSigned w64 (get_or c.args.figures.now 2 (pos 0)) = search rules in
    let f3 : FitsSigned w64 (get_or c.args.figures.now 3 (pos 0)) = search rules in
    let f4 : FitsSigned w64 (get_or c.args.figures.now 4 (pos 0)) = search rules in
    let f5 : FitsSigned w64 (get_or c.args.figures.now 5 (pos 0)) = search rules in
    step-booked sound (simp (to_z-of_z f0, to_z-of_z f1, to_z-of_z f2, to_z-of_z f3, to_z-of_z f4, to_z-of_z f5) at c.on_sound.ensures) refl
