-- A step by the number of its letter, as two calls tell it: whether the number is a byte, and whether the byte is a letter; and what the writing call then answers. Assumes nothing.
use Rattle.std.proofs.Common.{◌≡◌, ℕ, ◌<◌, Bool, List, [], ◌∷◌, ℤ, pos, negsuc, Result, Ok, Err, Some, None, nat_abs, refl, sym, ap, arith}
use Rattle.std.specs.Result.{result_ok, OkIff}
use Rattle.std.specs.Int.{FitsUnsignedBits}
use mathlib.Core.Option.{none, some}
use borrow.Author.Tests.{ne_eqb}
use Rattle.rules.specs.GiveUp.{give_up_figures}
use Rattle.rules.specs.Keyed.{is_some}
use Rattle.rules.specs.Line.{line_text, line_of}
use Rattle.rules.specs.Numbers.{step_told}
use Rattle.rules.specs.Reader.{step_of_letter}
use Rattle.rules.specs.Writing.{text_left, writing, step_named, or_open, write_give_up}
use Rattle.rules.specs.declared.Heading.TheVariants.{GiveUp}
use Rattle.rules.specs.declared.Reply.TheVariants.{Refused}
use Rattle.rules.specs.declared.Step.{Step}
use Rattle.rules.specs.declared.numbers.NoStep.{NoStep}
use Rattle.journal_writing.specs.StepNamed.{as_step}
use Rattle.journal_writing.proofs.WritingAnswers.{refused-3}

no-letter : (n : ℕ) → (n < 256 → ⊥) → step_of_letter n ≡ none
unfolding step_of_letter
no-letter n big =
    rw (
      ne_eqb n 79 (λ (e : n ≡ 79). big (omega arith)),
      ne_eqb n 67 (λ (e : n ≡ 67). big (omega arith)),
      ne_eqb n 88 (λ (e : n ≡ 88). big (omega arith)),
      ne_eqb n 82 (λ (e : n ≡ 82). big (omega arith)),
      ne_eqb n 71 (λ (e : n ≡ 71). big (omega arith)),
      ne_eqb n 84 (λ (e : n ≡ 84). big (omega arith)),
    )

module _ {E : Type 0} where
  pub no-byte : (r : Result ℕ E) (z : ℤ) → OkIff r (FitsUnsignedBits 8 z) (nat_abs z) → None ≡ result_ok r → none ≡ step_named z
  unfolding step_named
  no-byte (Ok x) z h e = cc
  no-byte (Err x) (pos n) h e = sym (no-letter n h)
  no-byte (Err x) (negsuc n) h e = refl

  pub by-letter : (r : Result ℕ E) (z : ℤ) (letter : ℕ) → OkIff r (FitsUnsignedBits 8 z) (nat_abs z) → Some letter ≡ result_ok r → step_of_letter letter ≡ step_named z
  unfolding step_named
  by-letter (Ok x) (pos n) letter h e = let same : letter ≡ n = cc (h.1) in ap step_of_letter same
  by-letter (Ok x) (negsuc n) letter h e = absurd h.0
  by-letter (Err x) z letter h e = cc

pub told-step : (r : Result Step NoStep) → as_step (result_ok r) ≡ step_told r
told-step (Ok step) = refl
told-step (Err e) = refl

-- ---- the answers

module _ (z process id suffix giving taking series : ℤ) (buffer : List ℕ) where
  pub no_step : none ≡ step_named z → text_left (Refused (pos 3) (pos 0)) buffer ≡ write_give_up z process id suffix giving taking series buffer
  unfolding write_give_up is_some
  no_step e = rw (← e) (refused-3 _ buffer)

  pub of-step : (step : Step) {valid : Bool} → some step ≡ step_named z → valid ≡ give_up_figures process id suffix giving taking series
      → writing valid (line_text (GiveUp step) (process ∷ id ∷ suffix ∷ giving ∷ taking ∷ series ∷ [])) buffer ≡ write_give_up z process id suffix giving taking series buffer
  unfolding write_give_up is_some or_open line_of
  of-step step e v = rw (← e) (ap (λ (b : Bool). writing b (line_text (GiveUp step) (process ∷ id ∷ suffix ∷ giving ∷ taking ∷ series ∷ [])) buffer) v)
