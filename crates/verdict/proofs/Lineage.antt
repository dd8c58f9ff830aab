-- The way from a suffix to its origin: one step at a time, and in a table in which parents are below their suffixes one more step than the suffix is enough,
-- more make no difference, and there are no more links than the suffix. By induction on the steps. Assumes nothing.
use Prim.Native.Nat.{ℕ, zero, suc, ◌<◌}
use native.Mathlib.Omega.{arith}
use mathlib.Core.Path.{◌≡◌, refl, sym, ◌∙◌, ap, subst}
use mathlib.Core.Bool.{true, false}
use mathlib.Core.Logic.{◌⊎◌, inl, inr}
use mathlib.Core.Option.{Option, none, some}
use lib.IntN.{ℤ, pos, nat_abs, ◌+ℤ◌}
use lib.Signed.{◌≤ℤ◌, ◌<ℤ◌}
use Rattle.integers.specs.Order.{eq_z}
use Rattle.integers.proofs.Linear.{zarith, +-lin, abs-lin}
use Rattle.rules.specs.Lineage.{Origin, one_more_link, origin_via, origin_of}
use Rattle.rules.specs.declared.Record.{Record}
use Rattle.keys.proofs.Split.{split, Found, absent, present, found, none-some, some_inj}

-- The price of the row with suffix 0, and no link.
abbrev pub first_origin : Record → Origin
first_origin r = record { price = r.price; links = pos 0 }

module _ (f : ℤ → Option Record) where
  -- ---- one step

  pub origin-missing : (n : ℕ) (suffix : ℤ) → f suffix ≡ none → origin_of f (suc n) suffix ≡ none
  unfolding origin_of origin_via
  origin-missing n suffix e = rw e

  pub origin-first : (n : ℕ) (suffix : ℤ) (r : Record) → f suffix ≡ some r → eq_z suffix (pos 0) ≡ true → origin_of f (suc n) suffix ≡ some (first_origin r)
  unfolding origin_of origin_via
  origin-first n suffix r e z = rw (e, z)

  pub origin-onward : (n : ℕ) (suffix : ℤ) (r : Record) → f suffix ≡ some r → eq_z suffix (pos 0) ≡ false
      → origin_of f (suc n) suffix ≡ one_more_link (origin_of f n r.parent)
  unfolding origin_of origin_via
  origin-onward n suffix r e z = rw (e, z)

  -- ---- parents below their suffixes

  -- Every record but that of suffix 0 has its parent below it, and not below 0.
  abbrev pub Descending : Type 0
  Descending = (suffix : ℤ) (r : Record) → f suffix ≡ some r → eq_z suffix (pos 0) ≡ false → (pos 0 ≤ℤ r.parent) × (r.parent <ℤ suffix)

  module _ (descending : Descending) where
    below_steps : (suffix parent : ℤ) (n : ℕ) → pos 0 ≤ℤ parent → parent <ℤ suffix → nat_abs suffix < suc n → nat_abs parent < n
    below_steps suffix parent n low below enough = omega (zarith, abs-lin suffix, abs-lin parent)

    -- With enough steps their number does not matter.
    pub origin-enough : (n m : ℕ) (suffix : ℤ) → nat_abs suffix < n → nat_abs suffix < m → origin_of f n suffix ≡ origin_of f m suffix
    origin-enough zero m suffix h k = absurd (omega arith)
    origin-enough (suc n) zero suffix h k = absurd (omega arith)
    origin-enough (suc n) (suc m) suffix h k = go (found (f suffix)) (split (eq_z suffix (pos 0))) (origin-enough n m)
      where
        go : Found (f suffix) → (eq_z suffix (pos 0) ≡ true) ⊎ (eq_z suffix (pos 0) ≡ false)
            → ((parent : ℤ) → nat_abs parent < n → nat_abs parent < m → origin_of f n parent ≡ origin_of f m parent)
            → origin_of f (suc n) suffix ≡ origin_of f (suc m) suffix
        go (absent e) z again = origin-missing n suffix e ∙ sym (origin-missing m suffix e)
        go (present r e) (inl z) again = origin-first n suffix r e z ∙ sym (origin-first m suffix r e z)
        go (present r e) (inr z) again =
            let d : (pos 0 ≤ℤ r.parent) × (r.parent <ℤ suffix) = descending suffix r e z in
            origin-onward n suffix r e z
            ∙ ap one_more_link (again r.parent (below_steps suffix r.parent n d.0 d.1 h) (below_steps suffix r.parent m d.0 d.1 k))
            ∙ sym (origin-onward m suffix r e z)

    -- From a suffix to its parent, each with one more step than itself.
    pub origin-parent : (suffix : ℤ) (r : Record) → f suffix ≡ some r → eq_z suffix (pos 0) ≡ false
        → origin_of f (suc (nat_abs suffix)) suffix ≡ one_more_link (origin_of f (suc (nat_abs r.parent)) r.parent)
    origin-parent suffix r e z =
        let d : (pos 0 ≤ℤ r.parent) × (r.parent <ℤ suffix) = descending suffix r e z in
        origin-onward (nat_abs suffix) suffix r e z
        ∙ ap one_more_link
        (origin-enough (nat_abs suffix) (suc (nat_abs r.parent)) r.parent
        (below_steps suffix r.parent (nat_abs suffix) d.0 d.1 (omega arith)) (omega arith))

    -- There are no more links than the suffix.
    pub origin-links : (n : ℕ) (suffix : ℤ) (o : Origin) → origin_of f n suffix ≡ some o → pos 0 ≤ℤ suffix → (pos 0 ≤ℤ o.links) × (o.links ≤ℤ suffix)
    unfolding origin_of one_more_link
    origin-links zero suffix o h low = none-some refl h
    origin-links (suc n) suffix o h low = go (found (f suffix)) (split (eq_z suffix (pos 0))) (origin-links n)
      where
        onward : (parent : ℤ) → pos 0 ≤ℤ parent → parent <ℤ suffix → Found (origin_of f n parent) → one_more_link (origin_of f n parent) ≡ some o
            → ((p : ℤ) (w : Origin) → origin_of f n p ≡ some w → pos 0 ≤ℤ p → (pos 0 ≤ℤ w.links) × (w.links ≤ℤ p))
            → (pos 0 ≤ℤ o.links) × (o.links ≤ℤ suffix)
        onward parent z b (absent e) q again = none-some (ap one_more_link e) q
        onward parent z b (present w e) q again =
            let range : (pos 0 ≤ℤ w.links) × (w.links ≤ℤ parent) = again parent w e z in
            let same : (w.links +ℤ pos 1) ≡ o.links = ap (λ (x : Origin). x.links) (some_inj (ap one_more_link e) q) in
            subst (λ (l : ℤ). (pos 0 ≤ℤ l) × (l ≤ℤ suffix)) same (omega (zarith, +-lin w.links (pos 1)), omega (zarith, +-lin w.links (pos 1)))

        go : Found (f suffix) → (eq_z suffix (pos 0) ≡ true) ⊎ (eq_z suffix (pos 0) ≡ false)
            → ((p : ℤ) (w : Origin) → origin_of f n p ≡ some w → pos 0 ≤ℤ p → (pos 0 ≤ℤ w.links) × (w.links ≤ℤ p))
            → (pos 0 ≤ℤ o.links) × (o.links ≤ℤ suffix)
        go (absent e) z again = none-some (origin-missing n suffix e) h
        go (present r e) (inl z) again =
            let same : pos 0 ≡ o.links = ap (λ (x : Origin). x.links) (some_inj (origin-first n suffix r e z) h) in
            subst (λ (l : ℤ). (pos 0 ≤ℤ l) × (l ≤ℤ suffix)) same (omega zarith, low)
        go (present r e) (inr z) again =
            let d : (pos 0 ≤ℤ r.parent) × (r.parent <ℤ suffix) = descending suffix r e z in
            onward r.parent d.0 d.1 (found (origin_of f n r.parent)) (sym (origin-onward n suffix r e z) ∙ h) again
