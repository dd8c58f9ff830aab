-- The heading of a line: what is taken is what would be written, and what is written is taken back. Of every text. Assumes nothing.
use Prim.Native.Nat.{ℕ}
use mathlib.Core.Path.{◌≡◌, refl, ap, ◌∙◌}
use mathlib.Core.Bool.{true, false, cond}
use mathlib.Core.List.{List, [], ◌∷◌, ◌++◌}
use mathlib.Core.Logic.{◌⊎◌, inl, inr}
use mathlib.Core.Option.{Option, none, some, none-ne-some, some-injective}
use borrow.Author.Tests.{eqb-true}
use lib.Dec.{eqb}
use Rattle.text.specs.Fields.{tab}
use Rattle.text.specs.Scan.{Taken, taken}
use Rattle.rules.specs.Line.{step_letter, heading_text}
use Rattle.rules.specs.Reader.{step_of_letter, step_heading, take_step, take_heading}
use Rattle.rules.specs.declared.Step.{Step}
use Rattle.rules.specs.declared.Step.TheVariants.{Open, Claim, Cancel, Refuse, ApproveGiver, ApproveTaker}
use Rattle.rules.specs.declared.Heading.{Heading}
use Rattle.rules.specs.declared.Heading.TheVariants.{Trade, Separation, Transfer, Merge, GiveUp, Day}
use Rattle.lines.proofs.Chosen.{chosen, chosen-only}

-- ---- written is taken

pub heading-taken : (heading : Heading) (rest : List ℕ) → take_heading (heading_text heading ++ rest) ≡ some (taken heading rest)
unfolding take_heading take_step step_heading step_of_letter
heading-taken Trade rest = refl
heading-taken Separation rest = refl
heading-taken Transfer rest = refl
heading-taken Merge rest = refl
heading-taken (GiveUp Open) rest = refl
heading-taken (GiveUp Claim) rest = refl
heading-taken (GiveUp Cancel) rest = refl
heading-taken (GiveUp Refuse) rest = refl
heading-taken (GiveUp ApproveGiver) rest = refl
heading-taken (GiveUp ApproveTaker) rest = refl
heading-taken Day rest = refl

-- ---- taken is written

-- One letter tried: it is the step's, or the letters after it are tried.
step-tried : (b : ℕ) (step s : Step) (others : Option Step) → cond (eqb b (step_letter s)) (some s) others ≡ some step → (others ≡ some step → b ≡ step_letter step) → b ≡ step_letter step
step-tried b step s others h onward = go (chosen (eqb b (step_letter s)) (some s) others step h)
  where
    go : ((eqb b (step_letter s) ≡ true) × (some s ≡ some step)) ⊎ ((eqb b (step_letter s) ≡ false) × (others ≡ some step)) → b ≡ step_letter step
    go (inl g) = eqb-true b (step_letter s) g.0 ∙ ap step_letter (some-injective s step g.1)
    go (inr g) = onward g.1

step-letter : (b : ℕ) (step : Step) → step_of_letter b ≡ some step → b ≡ step_letter step
unfolding step_of_letter
step-letter b step h =
    step-tried b step Open _ h λ h.
    step-tried b step Claim _ h λ h.
    step-tried b step Cancel _ h λ h.
    step-tried b step Refuse _ h λ h.
    step-tried b step ApproveGiver _ h λ h.
    step-tried b step ApproveTaker none h λ h. absurd (none-ne-some step h)

-- A heading taken, as it would be written.
abbrev Written : List ℕ → Taken Heading → Type 0
Written text t = text ≡ heading_text t.value ++ t.rest

same-heading : (heading : Heading) (rest : List ℕ) (t : Taken Heading) → some (taken heading rest) ≡ some t → Written (heading_text heading ++ rest) t
same-heading heading rest t h = ap (λ (t : Taken Heading). heading_text t.value ++ t.rest) (some-injective (taken heading rest) t h)

step-written : (b : ℕ) (o : Option Step) (rest : List ℕ) (t : Taken Heading) → step_of_letter b ≡ o → step_heading o rest ≡ some t → Written (71 ∷ tab ∷ b ∷ rest) t
unfolding step_heading
step-written b none rest t e h = absurd (none-ne-some t h)
step-written b (some step) rest t e h = ap (λ (b : ℕ). 71 ∷ tab ∷ b ∷ rest) (step-letter b step e) ∙ same-heading (GiveUp step) rest t h

give-up-written : (text : List ℕ) (t : Taken Heading) → take_step text ≡ some t → Written (71 ∷ text) t
unfolding take_step step_heading step_of_letter
give-up-written [] t h = absurd (none-ne-some t h)
give-up-written (a ∷ []) t h = absurd (none-ne-some t (chosen-only (eqb a tab) none t h).1)
give-up-written (a ∷ b ∷ rest) t h =
    let (e, g) = chosen-only (eqb a tab) (step_heading (step_of_letter b) rest) t h in
    ap (λ (a : ℕ). 71 ∷ a ∷ b ∷ rest) (eqb-true a tab e) ∙ step-written b (step_of_letter b) rest t refl g

-- One letter tried: it is the heading's, or the letters after it are tried.
heading-tried : (b : ℕ) (rest : List ℕ) (letter : ℕ) (heading : Heading) (others : Option (Taken Heading)) (t : Taken Heading) → letter ∷ rest ≡ heading_text heading ++ rest
    → cond (eqb b letter) (some (taken heading rest)) others ≡ some t → (others ≡ some t → Written (b ∷ rest) t) → Written (b ∷ rest) t
heading-tried b rest letter heading others t letters h onward = go (chosen (eqb b letter) (some (taken heading rest)) others t h)
  where
    go : ((eqb b letter ≡ true) × (some (taken heading rest) ≡ some t)) ⊎ ((eqb b letter ≡ false) × (others ≡ some t)) → Written (b ∷ rest) t
    go (inl g) = ap (λ (b : ℕ). b ∷ rest) (eqb-true b letter g.0) ∙ letters ∙ same-heading heading rest t g.1
    go (inr g) = onward g.1

pub heading-written : (text : List ℕ) (t : Taken Heading) → take_heading text ≡ some t → text ≡ heading_text t.value ++ t.rest
unfolding take_heading
heading-written [] t h = absurd (none-ne-some t h)
heading-written (b ∷ rest) t h =
    heading-tried b rest 84 Trade _ t refl h λ h.
    heading-tried b rest 83 Separation _ t refl h λ h.
    heading-tried b rest 65 Transfer _ t refl h λ h.
    heading-tried b rest 77 Merge _ t refl h λ h.
    step-or-day (chosen (eqb b 71) (take_step rest) _ t h)
  where
    step-or-day : ((eqb b 71 ≡ true) × (take_step rest ≡ some t)) ⊎ ((eqb b 71 ≡ false) × (cond (eqb b 68) (some (taken Day rest)) none ≡ some t)) → Written (b ∷ rest) t
    step-or-day (inl g) = ap (λ (b : ℕ). b ∷ rest) (eqb-true b 71 g.0) ∙ give-up-written rest t g.1
    step-or-day (inr g) = heading-tried b rest 68 Day none t refl g.1 λ h. absurd (none-ne-some t h)
