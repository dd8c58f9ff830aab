use Rattle.std.proofs.Common.{◌∙◌, ap}
use Rattle.std.proofs.lemmas.Int.{to_z-of_z}
use Rattle.std.proofs.Common.{w64}
use Rattle.journal_writing.specs.StepNamed.{as_step}
use Rattle.journal_writing.proofs.Steps.{no-byte, by-letter, told-step}
use Rattle.journal_writing.proofs.line.step_named.Goals as goal

pub returns-in_err-letter : goal.returns-in_err-letter
returns-in_err-letter c = rw c.from_residual.ensures (no-byte c.try_from.result c.args.number (rw (to_z-of_z w64 _ c.ranges.number) at c.try_from.ensures) c.in_err-letter.ensures.value)

pub returns : goal.returns
returns c =
    ap as_step c.ok-2.ensures.value ∙ told-step c.try_from-2.result ∙ c.try_from-2.ensures
    ∙ by-letter c.try_from.result c.args.number c.in_ok-letter.letter (rw (to_z-of_z w64 _ c.ranges.number) at c.try_from.ensures) c.in_ok-letter.ensures.value
