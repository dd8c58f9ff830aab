-- What a letter tells of a step and a number of a stage, as the code answers it.
use Rattle.std.specs.Prelude.{ℕ, ◌≡◌, false, ℤ, Result, Ok, Err}
use Rattle.std.proofs.Math.Option.{Option, none, some}
use Rattle.rules.specs.ProcessRows.{stage_number, valid_stage}
use Rattle.rules.specs.Reader.{step_of_letter}
use Rattle.rules.specs.declared.Step.{Step}
use Rattle.rules.specs.declared.Stage.{Stage}
use Rattle.rules.specs.declared.numbers.NoStep.{NoStep}
use Rattle.rules.specs.declared.numbers.NoStage.{NoStage}

abbrev pub step_told : Result Step NoStep → Option Step
step_told (Ok step) = some step
step_told (Err _) = none

abbrev pub StepTold : ℕ → Result Step NoStep → Type 0
StepTold letter r = step_told r ≡ step_of_letter letter

abbrev pub StageTold : ℤ → Result Stage NoStage → Type 0
StageTold number (Ok stage) = stage_number stage ≡ number
StageTold number (Err _) = valid_stage number ≡ false
