-- Keys: `same` decides equality and `below` is a strict linear order, so of two keys one is below the other or both are the same.
-- By the laws of the two figures. Assumes nothing.
use mathlib.Core.Path.{◌≡◌, sym, ◌∙◌, ap, subst}
use mathlib.Core.Bool.{true, false, ◌&&◌}
use mathlib.Core.Logic.{◌⊎◌, inl, inr}
use lib.IntN.{ℤ}
use lib.Signed.{lt_z}
use Rattle.integers.specs.Order.{eq_z}
use Rattle.rules.specs.Keyed.{Key, below, same}
use Rattle.keys.proofs.Split.{split, clash, is_false, both_ways, and_intro, and_left, and_right, or_left, or_right, or_cases}
use Rattle.keys.proofs.Equal.{eq_z-refl, eq_z-true, eq_z-eq, lt_z-irrefl, lt_z-trans, lt_z-level}

pub same_refl : (a : Key) → same a a ≡ true
unfolding same
same_refl a = and_intro (eq_z-refl a.major) (eq_z-refl a.minor)

pub same-eq : (a b : Key) → same a b ≡ true → a ≡ b
unfolding same
same-eq a b h =
    let p : a.major ≡ b.major = eq_z-true a.major b.major (and_left (eq_z a.major b.major) (eq_z a.minor b.minor) h) in
    let q : a.minor ≡ b.minor = eq_z-true a.minor b.minor (and_right (eq_z a.major b.major) (eq_z a.minor b.minor) h) in
    λ i. record { major = p i; minor = q i }

pub eq-same : (a b : Key) → a ≡ b → same a b ≡ true
eq-same a b p = subst (λ (k : Key). same a k ≡ true) p (same_refl a)

pub same-ne : (a b : Key) → (a ≡ b → ⊥) → same a b ≡ false
same-ne a b h = is_false (same a b) (λ t. h (same-eq a b t))

pub ne_same : (a b : Key) → same a b ≡ false → a ≡ b → ⊥
ne_same a b h p = clash (eq-same a b p) h

pub same-sym : (a b : Key) → same a b ≡ same b a
same-sym a b = both_ways (same a b) (same b a) (λ t. eq-same b a (sym (same-eq a b t))) (λ t. eq-same a b (sym (same-eq b a t)))

-- The same first figure and the same second one, read apart.
pub same-major : (a b : Key) → same a b ≡ true → eq_z a.major b.major ≡ true
same-major a b h = eq_z-eq a.major b.major (ap (λ (k : Key). k.major) (same-eq a b h))

pub major-differs : (a b : Key) → eq_z a.major b.major ≡ false → same a b ≡ false
major-differs a b h = is_false (same a b) (λ t. clash (same-major a b t) h)

-- How one key lies below another: by the first figure, or by the second where the first is the same.
pub below-cases : (a b : Key) → below a b ≡ true → (lt_z a.major b.major ≡ true) ⊎ ((a.major ≡ b.major) × (lt_z a.minor b.minor ≡ true))
unfolding below
below-cases a b h = go (or_cases (lt_z a.major b.major) (eq_z a.major b.major && lt_z a.minor b.minor) h)
  where
    go : (lt_z a.major b.major ≡ true) ⊎ ((eq_z a.major b.major && lt_z a.minor b.minor) ≡ true) →
        (lt_z a.major b.major ≡ true) ⊎ ((a.major ≡ b.major) × (lt_z a.minor b.minor ≡ true))
    go (inl p) = inl p
    go (inr q) = inr (eq_z-true a.major b.major (and_left (eq_z a.major b.major) (lt_z a.minor b.minor) q), and_right (eq_z a.major b.major) (lt_z a.minor b.minor) q)

pub below-major : (a b : Key) → lt_z a.major b.major ≡ true → below a b ≡ true
unfolding below
below-major a b h = or_left (eq_z a.major b.major && lt_z a.minor b.minor) h

pub below-minor : (a b : Key) → a.major ≡ b.major → lt_z a.minor b.minor ≡ true → below a b ≡ true
unfolding below
below-minor a b p h = or_right (lt_z a.major b.major) (and_intro (eq_z-eq a.major b.major p) h)

pub below_irrefl : (a : Key) → below a a ≡ false
below_irrefl a = is_false (below a a) (λ t. go (below-cases a a t))
  where
    go : (lt_z a.major a.major ≡ true) ⊎ ((a.major ≡ a.major) × (lt_z a.minor a.minor ≡ true)) → ⊥
    go (inl p) = clash p (lt_z-irrefl a.major)
    go (inr q) = clash q.1 (lt_z-irrefl a.minor)

pub below-trans : (a b c : Key) → below a b ≡ true → below b c ≡ true → below a c ≡ true
below-trans a b c h k = go (below-cases a b h) (below-cases b c k)
  where
    go : (lt_z a.major b.major ≡ true) ⊎ ((a.major ≡ b.major) × (lt_z a.minor b.minor ≡ true)) →
        (lt_z b.major c.major ≡ true) ⊎ ((b.major ≡ c.major) × (lt_z b.minor c.minor ≡ true)) → below a c ≡ true
    go (inl p) (inl q) = below-major a c (lt_z-trans a.major b.major c.major p q)
    go (inl p) (inr q) = below-major a c (subst (λ (x : ℤ). lt_z a.major x ≡ true) q.0 p)
    go (inr p) (inl q) = below-major a c (subst (λ (x : ℤ). lt_z x c.major ≡ true) (sym p.0) q)
    go (inr p) (inr q) = below-minor a c (p.0 ∙ q.0) (lt_z-trans a.minor b.minor c.minor p.1 q.1)

pub below-asym : (a b : Key) → below a b ≡ true → below b a ≡ false
below-asym a b h = is_false (below b a) (λ t. clash (below-trans a b a h t) (below_irrefl a))

pub below-not-same : (a b : Key) → below a b ≡ true → same a b ≡ false
below-not-same a b h = same-ne a b (λ p. clash (subst (λ (k : Key). below a k ≡ true) (sym p) h) (below_irrefl a))

pub above-not-same : (a b : Key) → below b a ≡ true → same a b ≡ false
above-not-same a b h = same-sym a b ∙ below-not-same b a h

pub same-not-below : (a b : Key) → same a b ≡ true → below a b ≡ false
same-not-below a b h = is_false (below a b) (λ t. clash h (below-not-same a b t))

-- The three ways in which two keys can lie, each with the tests that it decides.
pub data Way (a b : Key) : Type 0 where
  lower : below a b ≡ true → same a b ≡ false → below b a ≡ false → Way a b
  level : a ≡ b → same a b ≡ true → below a b ≡ false → below b a ≡ false → Way a b
  upper : below b a ≡ true → same a b ≡ false → below a b ≡ false → Way a b

pub way : (a b : Key) → Way a b
way a b = go (split (below a b)) (split (below b a))
  where
    level-eq : below a b ≡ false → below b a ≡ false → a ≡ b
    level-eq h k =
        let p : a.major ≡ b.major = lt_z-level a.major b.major (is_false (lt_z a.major b.major) (λ t. clash (below-major a b t) h)) (is_false (lt_z b.major a.major) (λ t. clash (below-major b a t) k)) in
        let q : a.minor ≡ b.minor = lt_z-level a.minor b.minor (is_false (lt_z a.minor b.minor) (λ t. clash (below-minor a b p t) h)) (is_false (lt_z b.minor a.minor) (λ t. clash (below-minor b a (sym p) t) k)) in
        λ i. record { major = p i; minor = q i }

    go : (below a b ≡ true) ⊎ (below a b ≡ false) → (below b a ≡ true) ⊎ (below b a ≡ false) → Way a b
    go (inl p) q = lower p (below-not-same a b p) (below-asym a b p)
    go (inr p) (inl q) = upper q (above-not-same a b q) p
    go (inr p) (inr q) = level (level-eq p q) (eq-same a b (level-eq p q)) p q
