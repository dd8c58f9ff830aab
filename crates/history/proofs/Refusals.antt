-- No refusal of a list applies exactly where none of its parts does. By the definitions. Assumes nothing.
use mathlib.Core.Path.{◌≡◌, refl, sym, ◌∙◌}
use mathlib.Core.Bool.{Bool, false}
use mathlib.Core.List.{List, [], ◌∷◌, ◌++◌}
use mathlib.Core.Option.{none, some}
use Prim.Native.Nat.{ℕ}
use Rattle.rules.specs.Refusal.{Test, test, test_each, any_of, first_refusal}
use Rattle.keys.proofs.Split.{is_false, none-some, cond-true, cond-false}

pub no-refusal : first_refusal [] ≡ none
unfolding first_refusal
no-refusal = refl

pub first_passes : (t : Test) (rest : List Test) → first_refusal (t ∷ rest) ≡ none → t.applies ≡ false
unfolding first_refusal
first_passes t rest h = is_false t.applies (λ a. none-some h (cond-true (some t) (first_refusal rest) a))

pub rest-passes : (t : Test) (rest : List Test) → first_refusal (t ∷ rest) ≡ none → first_refusal rest ≡ none
unfolding first_refusal
rest-passes t rest h = sym (cond-false (some t) (first_refusal rest) (first_passes t rest h)) ∙ h

pub passes : (t : Test) (rest : List Test) → t.applies ≡ false → first_refusal rest ≡ none → first_refusal (t ∷ rest) ≡ none
unfolding first_refusal
passes t rest a h = cond-false (some t) (first_refusal rest) a ∙ h

pub left-passes : (xs ys : List Test) → first_refusal (xs ++ ys) ≡ none → first_refusal xs ≡ none
left-passes [] ys h = no-refusal
left-passes (t ∷ rest) ys h = passes t rest (first_passes t (rest ++ ys) h) (left-passes rest ys (rest-passes t (rest ++ ys) h))

pub right-passes : (xs ys : List Test) → first_refusal (xs ++ ys) ≡ none → first_refusal ys ≡ none
right-passes [] ys h = h
right-passes (t ∷ rest) ys h = right-passes rest ys (rest-passes t (rest ++ ys) h)

pub both-pass : (xs ys : List Test) → first_refusal xs ≡ none → first_refusal ys ≡ none → first_refusal (xs ++ ys) ≡ none
both-pass [] ys h k = k
both-pass (t ∷ rest) ys h k = passes t (rest ++ ys) (first_passes t rest h) (both-pass rest ys (rest-passes t rest h) k)

-- The first of a list's tests, by its number.
pub test-passes : (n : ℕ) (b : Bool) (rest : List Test) → first_refusal (test n b ∷ rest) ≡ none → b ≡ false
unfolding test
test-passes n b rest h = first_passes (test n b) rest h

pub passes-test : (n : ℕ) (b : Bool) (rest : List Test) → b ≡ false → first_refusal rest ≡ none → first_refusal (test n b ∷ rest) ≡ none
unfolding test
passes-test n b rest a h = passes (test n b) rest a h

pub each-passes : (n : ℕ) (fails : List Bool) (rest : List Test) → first_refusal (test_each n fails ∷ rest) ≡ none → any_of fails ≡ false
unfolding test_each
each-passes n fails rest h = first_passes (test_each n fails) rest h
