-- The number that `requests::status_refusal` answered, as the verdict gives it: it and the status are read back from their bits. Assumes nothing.
use mathlib.Core.Path.{◌≡◌, ap, ◌∙◌}
use lib.IntN.{ℤ, pos}
use mir.Facts.{to_z-of_z}
use mir.Syntax.{w64}
use mir.Val.{SFits, to_z, of_z}
use Rattle.rules.specs.NamedRecord.{status_refusal}

pub status-number : {number status : ℤ} → SFits w64 number → SFits w64 status → number ≡ pos (status_refusal (to_z w64 (of_z w64 status)))
    → to_z w64 (of_z w64 number) ≡ pos (status_refusal status)
status-number n s e = to_z-of_z n ∙ e ∙ ap (λ (z : ℤ). pos (status_refusal z)) (to_z-of_z s)
