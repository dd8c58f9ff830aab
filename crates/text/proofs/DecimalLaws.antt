-- The digits of a number: one of a number below 10, otherwise those of a tenth of it and then the last one; and the induction that goes by them. A greater bound than the
-- number itself changes nothing. Assumes nothing.
use Prim.Native.Nat.{ℕ, zero, suc, ◌/◌, ◌%◌, ◌≤◌, ◌<◌}
use mathlib.Core.Path.{◌≡◌, refl, ap, ◌∙◌, sym}
use mathlib.Core.List.{List, [], ◌∷◌, ◌++◌}
use mathlib.Core.Logic.{◌⊎◌, inl, inr}
use native.Mathlib.Nat.{eq-zero-or-pos}
use native.Mathlib.Omega.{arith}
use Rattle.text.specs.Decimal.{digit, digits_before, digits_within, digits_of}

none_before : (tenth last n : ℕ) (onward : ℕ → List ℕ) → tenth ≡ 0 → last ≡ n → digits_before tenth onward ++ (digit last ∷ []) ≡ digit n ∷ []
unfolding digits_before
none_before zero last n onward h e = ap (λ (d : ℕ). digit d ∷ []) e
none_before (suc tenth) last n onward h e = absurd (omega arith)

some-before : (tenth : ℕ) (onward : ℕ → List ℕ) → 0 < tenth → digits_before tenth onward ≡ onward tenth
unfolding digits_before
some-before zero onward h = absurd (omega arith)
some-before (suc tenth) onward h = refl

within-one : (most n : ℕ) → n < 10 → digits_within (suc most) n ≡ digit n ∷ []
unfolding digits_within
within-one most n h = none_before _ _ n _ (omega arith) (omega arith)

within_more : (most n : ℕ) → 10 ≤ n → digits_within (suc most) n ≡ digits_within most (n / 10) ++ (digit (n % 10) ∷ [])
unfolding digits_within
within_more most n h = ap (λ (l : List ℕ). l ++ (digit (n % 10) ∷ [])) (some-before (n / 10) (λ (m : ℕ). digits_within most m) (omega arith))

-- A number has one digit or more.
pub one-or-more : (n : ℕ) → (n < 10) ⊎ (10 ≤ n)
one-or-more n = go (eq-zero-or-pos (n / 10))
  where
    go : (n / 10 ≡ 0) ⊎ (0 < n / 10) → (n < 10) ⊎ (10 ≤ n)
    go (inl h) = inl (omega arith)
    go (inr h) = inr (omega arith)

-- To allow for more digits than the number counts changes nothing.
within-enough : (most other n : ℕ) → n ≤ most → n ≤ other → digits_within (suc most) n ≡ digits_within (suc other) n
within-enough zero other n h g = within-one zero n (omega arith) ∙ sym (within-one other n (omega arith))
within-enough (suc most) zero n h g = within-one (suc most) n (omega arith) ∙ sym (within-one zero n (omega arith))
within-enough (suc most) (suc other) n h g = go (one-or-more n) (within-enough most other (n / 10))
  where
    go : (n < 10) ⊎ (10 ≤ n) → (n / 10 ≤ most → n / 10 ≤ other → digits_within (suc most) (n / 10) ≡ digits_within (suc other) (n / 10))
        → digits_within (suc (suc most)) n ≡ digits_within (suc (suc other)) n
    go (inl one) onward = within-one (suc most) n one ∙ sym (within-one (suc other) n one)
    go (inr more) onward =
        within_more (suc most) n more ∙ ap (λ (before : List ℕ). before ++ (digit (n % 10) ∷ [])) (onward (omega arith) (omega arith)) ∙ sym (within_more (suc other) n more)

pub digits-one : (n : ℕ) → n < 10 → digits_of n ≡ digit n ∷ []
unfolding digits_of
digits-one n h = within-one n n h

pub digits_more : (n : ℕ) → 10 ≤ n → digits_of n ≡ digits_of (n / 10) ++ (digit (n % 10) ∷ [])
unfolding digits_of
digits_more zero h = absurd (omega arith)
digits_more (suc n) h =
    within_more (suc n) (suc n) h
    ∙ ap (λ (before : List ℕ). before ++ (digit (suc n % 10) ∷ [])) (within-enough n (suc n / 10) (suc n / 10) (omega arith) (omega arith))

-- ---- induction by digits

by-digits-within : (P : ℕ → Type 0) → ((n : ℕ) → n < 10 → P n) → ((n : ℕ) → 10 ≤ n → P (n / 10) → P n) → (most n : ℕ) → n ≤ most → P n
by-digits-within P one more zero n h = one n (omega arith)
by-digits-within P one more (suc most) n h = go (one-or-more n) (by-digits-within P one more most (n / 10))
  where
    go : (n < 10) ⊎ (10 ≤ n) → (n / 10 ≤ most → P (n / 10)) → P n
    go (inl few) onward = one n few
    go (inr many) onward = more n many (onward (omega arith))

pub by_digits : (P : ℕ → Type 0) → ((n : ℕ) → n < 10 → P n) → ((n : ℕ) → 10 ≤ n → P (n / 10) → P n) → (n : ℕ) → P n
by_digits P one more n = by-digits-within P one more n n (omega arith)
