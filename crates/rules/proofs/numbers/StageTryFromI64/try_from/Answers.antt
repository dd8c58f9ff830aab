use Rattle.std.proofs.Common.{rules, ◌≡◌, false, ℤ, pos, of_z, w64}
use Rattle.integers.proofs.Parts.{false-eq_z}
use Rattle.rules.specs.ProcessRows.{valid_stage}
use Rattle.rules.proofs.numbers.StageTryFromI64.try_from.Goals as goal

-- A number that is none of the five.
no-stage : (z : ℤ) → (of_z w64 z ≡ 6 → ⊥) → (of_z w64 z ≡ 9 → ⊥) → (of_z w64 z ≡ 10 → ⊥) → (of_z w64 z ≡ 12 → ⊥) → (of_z w64 z ≡ 0 → ⊥) → valid_stage z ≡ false
unfolding valid_stage
no-stage z a b c d e =
    rw (false-eq_z z (pos 6) (λ h. a (rw h)), false-eq_z z (pos 9) (λ h. b (rw h)), false-eq_z z (pos 10) (λ h. c (rw h)), false-eq_z z (pos 12) (λ h. d (rw h)), false-eq_z z (pos 0) (λ h. e (rw h)))

pub returns-in_default : goal.returns-in_default
returns-in_default c = search (rules, no-stage)
