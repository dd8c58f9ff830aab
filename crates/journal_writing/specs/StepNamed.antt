-- What a number tells of a step, as the code answers it.
use Rattle.std.specs.Prelude.{◌≡◌, ℤ, Some, None}
use Rattle.std.specs.Prelude.{Option as Answer}
use Rattle.std.proofs.Math.Option.{Option, none, some}
use Rattle.rules.specs.Writing.{step_named}
use Rattle.rules.specs.declared.Step.{Step}

abbrev pub as_step : Answer Step → Option Step
as_step (Some step) = some step
as_step None = none

abbrev pub StepNamed : ℤ → Answer Step → Type 0
StepNamed number r = as_step r ≡ step_named number
