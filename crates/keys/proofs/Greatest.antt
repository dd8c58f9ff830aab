-- The greatest second figure among the rows of a first figure, in a table of any rows: it is that of a row which is there, no row has a greater one,
-- and there is none exactly where no row has that first figure. By induction on the table. Assumes nothing.
use mathlib.Core.Path.{◌≡◌, refl, sym, ◌∙◌, ap, subst}
use mathlib.Core.Bool.{true, false, cond}
use mathlib.Core.List.{List, [], ◌∷◌}
use mathlib.Core.Logic.{◌⊎◌, inl, inr}
use mathlib.Core.Option.{Option, none, some}
use lib.IntN.{ℤ}
use lib.Signed.{lt_z, le_z}
use Rattle.integers.specs.Order.{eq_z}
use Rattle.rules.specs.Keyed.{Key, same, at_least, find, greatest}
use Rattle.rules.specs.Rows.{key_of}
use Rattle.keys.proofs.Split.{split, clash, none-some, some_inj, Found, absent, present, found, cond-true, cond-false}
use Rattle.keys.proofs.Equal.{eq_z-true, le_z-refl, le_z-trans, le_z-of-lt_z, lt_z-of-not-le_z, not-lt_z-of-le_z}
use Rattle.keys.proofs.KeyOrder.{same-eq, eq-same, major-differs}
use Rattle.keys.proofs.Clauses.{find-nil, find-here, find-there, greatest-nil, greatest-here, greatest-there}

pub at_least-none : (a : ℤ) → at_least a none ≡ a
unfolding at_least
at_least-none a = refl

pub at_least-either : (a b : ℤ) → (at_least a (some b) ≡ a) ⊎ (at_least a (some b) ≡ b)
unfolding at_least
at_least-either a b = go (split (le_z a b))
  where
    go : (le_z a b ≡ true) ⊎ (le_z a b ≡ false) → (cond (le_z a b) b a ≡ a) ⊎ (cond (le_z a b) b a ≡ b)
    go (inl h) = inr (cond-true b a h)
    go (inr h) = inl (cond-false b a h)

pub at_least-left : (a : ℤ) (o : Option ℤ) → le_z a (at_least a o) ≡ true
unfolding at_least
at_least-left a none = le_z-refl a
at_least-left a (some b) = go (split (le_z a b))
  where
    go : (le_z a b ≡ true) ⊎ (le_z a b ≡ false) → le_z a (cond (le_z a b) b a) ≡ true
    go (inl h) = ap (λ (x : ℤ). le_z a x) (cond-true b a h) ∙ h
    go (inr h) = ap (λ (x : ℤ). le_z a x) (cond-false b a h) ∙ le_z-refl a

pub at_least-right : (a b : ℤ) → le_z b (at_least a (some b)) ≡ true
unfolding at_least
at_least-right a b = go (split (le_z a b))
  where
    go : (le_z a b ≡ true) ⊎ (le_z a b ≡ false) → le_z b (cond (le_z a b) b a) ≡ true
    go (inl h) = ap (λ (x : ℤ). le_z b x) (cond-true b a h) ∙ le_z-refl b
    go (inr h) = ap (λ (x : ℤ). le_z b x) (cond-false b a h) ∙ le_z-of-lt_z b a (lt_z-of-not-le_z a b h)

module _ {Row : Type 0} (key : Row → Key) where
  -- A row of that first figure has this key.
  row-key : (m g : ℤ) (r : Row) → eq_z (key r).major m ≡ true → (key r).minor ≡ g → same (key r) (key_of m g) ≡ true
  row-key m g r e p =
      let q : (key r).major ≡ m = eq_z-true (key r).major m e in
      let k : key r ≡ key_of m g = λ i. record { major = q i; minor = p i } in
      eq-same (key r) (key_of m g) k

  -- The greatest one stands in a row.
  pub greatest-found : (m g : ℤ) (t : List Row) → greatest key m t ≡ some g → (x : Row) × (find key (key_of m g) t ≡ some x)
  greatest-found m g [] h = none-some (greatest-nil key m) h
  greatest-found m g (r ∷ rest) h = go (λ w. greatest-found m g rest w) (split (eq_z (key r).major m))
    where
      here : eq_z (key r).major m ≡ true → (key r).minor ≡ g → (x : Row) × (find key (key_of m g) (r ∷ rest) ≡ some x)
      here e p = (r, find-here key (key_of m g) r rest (row-key m g r e p))

      there : ((x : Row) × (find key (key_of m g) rest ≡ some x)) → (x : Row) × (find key (key_of m g) (r ∷ rest) ≡ some x)
      there f = pick (split (same (key r) (key_of m g)))
        where
          pick : (same (key r) (key_of m g) ≡ true) ⊎ (same (key r) (key_of m g) ≡ false) → (x : Row) × (find key (key_of m g) (r ∷ rest) ≡ some x)
          pick (inl s) = (r, find-here key (key_of m g) r rest s)
          pick (inr s) = (f.0, find-there key (key_of m g) r rest s ∙ f.1)

      first : eq_z (key r).major m ≡ true → g ≡ at_least (key r).minor (greatest key m rest)
      first e = some_inj h (greatest-here key m r rest e)

      either : eq_z (key r).major m ≡ true → (greatest key m rest ≡ some g → (x : Row) × (find key (key_of m g) rest ≡ some x)) →
          (b : ℤ) → greatest key m rest ≡ some b → (at_least (key r).minor (some b) ≡ (key r).minor) ⊎ (at_least (key r).minor (some b) ≡ b) →
          (x : Row) × (find key (key_of m g) (r ∷ rest) ≡ some x)
      either e again b q (inl w) = here e (sym (first e ∙ ap (λ (o : Option ℤ). at_least (key r).minor o) q ∙ w))
      either e again b q (inr w) =
          there (again (q ∙ ap {B = Option ℤ} some (sym (first e ∙ ap (λ (o : Option ℤ). at_least (key r).minor o) q ∙ w))))

      rows : eq_z (key r).major m ≡ true → (greatest key m rest ≡ some g → (x : Row) × (find key (key_of m g) rest ≡ some x)) →
          Found (greatest key m rest) → (x : Row) × (find key (key_of m g) (r ∷ rest) ≡ some x)
      rows e again (absent q) = here e (sym (first e ∙ ap (λ (o : Option ℤ). at_least (key r).minor o) q ∙ at_least-none (key r).minor))
      rows e again (present b q) = either e again b q (at_least-either (key r).minor b)

      go : (greatest key m rest ≡ some g → (x : Row) × (find key (key_of m g) rest ≡ some x)) → (eq_z (key r).major m ≡ true) ⊎ (eq_z (key r).major m ≡ false) →
          (x : Row) × (find key (key_of m g) (r ∷ rest) ≡ some x)
      go again (inl e) = rows e again (found (greatest key m rest))
      go again (inr e) = there (again (sym (greatest-there key m r rest e) ∙ h))

  -- A key that is found makes a greatest one, and is not above it.
  pub found-greatest : (m s : ℤ) (t : List Row) (x : Row) → find key (key_of m s) t ≡ some x → (g : ℤ) × (greatest key m t ≡ some g) × (le_z s g ≡ true)
  found-greatest m s [] x f = none-some (find-nil key (key_of m s)) f
  found-greatest m s (r ∷ rest) x f = go (found-greatest m s rest x) (split (eq_z (key r).major m)) (split (same (key r) (key_of m s)))
    where
      wider : eq_z (key r).major m ≡ true → ((g : ℤ) × (greatest key m rest ≡ some g) × (le_z s g ≡ true)) →
          (g : ℤ) × (greatest key m (r ∷ rest) ≡ some g) × (le_z s g ≡ true)
      wider e w = (
        at_least (key r).minor (some w.0),
        greatest-here key m r rest e ∙ ap (λ (o : Option ℤ). some (at_least (key r).minor o)) w.1,
        le_z-trans s w.0 (at_least (key r).minor (some w.0)) w.2 (at_least-right (key r).minor w.0),
      )

      go : (find key (key_of m s) rest ≡ some x → (g : ℤ) × (greatest key m rest ≡ some g) × (le_z s g ≡ true)) →
          (eq_z (key r).major m ≡ true) ⊎ (eq_z (key r).major m ≡ false) → (same (key r) (key_of m s) ≡ true) ⊎ (same (key r) (key_of m s) ≡ false) →
          (g : ℤ) × (greatest key m (r ∷ rest) ≡ some g) × (le_z s g ≡ true)
      go again (inl e) (inl k) = (
        at_least (key r).minor (greatest key m rest),
        greatest-here key m r rest e,
        subst (λ (y : ℤ). le_z y (at_least (key r).minor (greatest key m rest)) ≡ true) (ap (λ (w : Key). w.minor) (same-eq (key r) (key_of m s) k)) (at_least-left (key r).minor (greatest key m rest)),
      )
      go again (inl e) (inr k) = wider e (again (sym (find-there key (key_of m s) r rest k) ∙ f))
      go again (inr e) (inl k) = clash k (major-differs (key r) (key_of m s) e)
      go again (inr e) (inr k) =
          let w : (g : ℤ) × (greatest key m rest ≡ some g) × (le_z s g ≡ true) = again (sym (find-there key (key_of m s) r rest k) ∙ f) in
          (w.0, greatest-there key m r rest e ∙ w.1, w.2)

  pub greatest-bounds : (m s g : ℤ) (t : List Row) (x : Row) → greatest key m t ≡ some g → find key (key_of m s) t ≡ some x → le_z s g ≡ true
  greatest-bounds m s g t x h f =
      let w : (b : ℤ) × (greatest key m t ≡ some b) × (le_z s b ≡ true) = found-greatest m s t x f in
      subst (λ (b : ℤ). le_z s b ≡ true) (some_inj w.1 h) w.2

  -- Nothing of that first figure is found where there is no greatest one, nor above the greatest one.
  pub greatest-none : (m s : ℤ) (t : List Row) → greatest key m t ≡ none → find key (key_of m s) t ≡ none
  greatest-none m s t h = go (found (find key (key_of m s) t))
    where
      go : Found (find key (key_of m s) t) → find key (key_of m s) t ≡ none
      go (absent f) = f
      go (present x f) = none-some h (found-greatest m s t x f).1

  pub none-greatest : (m : ℤ) (t : List Row) → ((s : ℤ) → find key (key_of m s) t ≡ none) → greatest key m t ≡ none
  none-greatest m t h = go (found (greatest key m t))
    where
      go : Found (greatest key m t) → greatest key m t ≡ none
      go (absent f) = f
      go (present g f) = none-some (h g) (greatest-found m g t f).1

  pub above-greatest : (m s g : ℤ) (t : List Row) → greatest key m t ≡ some g → lt_z g s ≡ true → find key (key_of m s) t ≡ none
  above-greatest m s g t h l = go (found (find key (key_of m s) t))
    where
      go : Found (find key (key_of m s) t) → find key (key_of m s) t ≡ none
      go (absent f) = f
      go (present x f) = clash l (not-lt_z-of-le_z s g (greatest-bounds m s g t x h f))
