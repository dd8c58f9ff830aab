-- A heading from a place on, by the bytes that stand there. Assumes nothing.
use Prim.Native.Nat.{ℕ, zero, suc, ◌+◌, ◌<◌}
use native.Mathlib.Omega.{arith}
use mathlib.Core.Path.{◌≡◌, refl, sym, ◌∙◌, ap}
use mathlib.Core.List.{List, ◌∷◌}
use mathlib.Core.Option.{Option, none, some}
use borrow.Author.Tests.{ne_eqb}
use lib.ListN.{get_or, drop}
use Rattle.std.specs.Prelude.{Result, Ok, Err, Some, None}
use Rattle.std.specs.Result.{result_ok}
use Rattle.text.specs.Scan.{taken, first}
use Rattle.rules.specs.Reader.{step_of_letter, step_heading, take_step, take_heading}
use Rattle.rules.specs.Numbers.{step_told}
use Rattle.rules.specs.declared.Step.{Step}
use Rattle.rules.specs.declared.Heading.TheVariants.{GiveUp}
use Rattle.rules.specs.declared.numbers.NoStep.{NoStep}
use Rattle.reader.proofs.Places.{first-there, begins}

-- What the letter tells, by the call's answer.
pub no-letter : (r : Result Step NoStep) (l : ℕ) → step_told r ≡ step_of_letter l → None ≡ result_ok r → step_of_letter l ≡ none
no-letter (Ok step) l told h = cc
no-letter (Err e) l told h = sym told

pub letter-of : (r : Result Step NoStep) (l : ℕ) {step : Step} → step_told r ≡ step_of_letter l → Some step ≡ result_ok r → step_of_letter l ≡ some step
letter-of (Ok step) l told h = cc
letter-of (Err e) l told h = cc

letter-above : (l : ℕ) {step : Step} → step_of_letter l ≡ some step → 0 < l
unfolding step_of_letter
letter-above zero e = cc
letter-above (suc l) e = omega arith

module _ (text : List ℕ) (at : ℕ) {b : ℕ} (read : b ≡ get_or text at 0) where
  pub no-tab : (b ≡ 9 → ⊥) → none ≡ take_step (drop at text)
  unfolding take_step
  no-tab other = rw (first-there text at read, ne_eqb b 9 other)

  -- The text from there on, where these two bytes stand.
  pub begins-step : {l letter : ℕ} → b ≡ 9 → l ≡ get_or text (at + 1) 0 → l ≡ letter → 0 < letter → drop at text ≡ 9 ∷ letter ∷ drop (at + 2) text
  begins-step {l} {letter} tab second e above =
      let two : at + 1 + 1 ≡ at + 2 = omega arith in
      begins text at read tab (omega arith) ∙ ap (λ (rest : List ℕ). 9 ∷ rest) (begins text (at + 1) second e above) ∙ ap (λ (place : ℕ). 9 ∷ letter ∷ drop place text) two

  pub no_step : {l : ℕ} → b ≡ 9 → l ≡ get_or text (at + 1) 0 → step_of_letter l ≡ none → none ≡ take_step (drop at text)
  unfolding take_step step_heading
  no_step {l} tab second h =
      let letter : step_of_letter (first (drop (at + 1) text)) ≡ none = rw (first-there text (at + 1) second) h in
      rw (begins text at read tab (omega arith), letter)

  pub step-there : {l : ℕ} {step : Step} → b ≡ 9 → l ≡ get_or text (at + 1) 0 → step_of_letter l ≡ some step → some (taken (GiveUp step) (drop (at + 2) text)) ≡ take_step (drop at text)
  unfolding take_step step_heading
  step-there {l} {step} tab second e =
      sym (ap take_step (begins-step tab second refl (letter-above l e)) ∙ ap (λ (s : Option Step). step_heading s (drop (at + 2) text)) e)

  pub no-heading : (b ≡ 84 → ⊥) → (b ≡ 83 → ⊥) → (b ≡ 65 → ⊥) → (b ≡ 77 → ⊥) → (b ≡ 71 → ⊥) → (b ≡ 68 → ⊥) → none ≡ take_heading (drop at text)
  unfolding take_heading
  no-heading t s a m g d = rw (first-there text at read, ne_eqb b 84 t, ne_eqb b 83 s, ne_eqb b 65 a, ne_eqb b 77 m, ne_eqb b 71 g, ne_eqb b 68 d)
