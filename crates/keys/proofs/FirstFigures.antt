-- Tables whose rows strictly rise by the first figure of their key, so that no two have the same: they rise by the key too, and still rise by the first figure after a row is put
-- whose first figure no row has, or whose key is there. By induction on the table. Assumes nothing.
use mathlib.Core.Path.{◌≡◌, sym, ◌∙◌, ap, subst}
use mathlib.Core.Bool.{true, false}
use mathlib.Core.List.{List, [], ◌∷◌}
use mathlib.Core.Logic.{◌⊎◌, inl, inr}
use mathlib.Core.Option.{none, some}
use lib.IntN.{ℤ, pos}
use lib.Signed.{lt_z}
use Rattle.integers.specs.Order.{eq_z}
use Rattle.rules.specs.Keyed.{Key, below, rising, find, greatest, upsert}
use Rattle.rules.specs.Rows.{key_of}
use Rattle.keys.proofs.Split.{split, clash, none-some}
use Rattle.keys.proofs.Equal.{eq_z-eq, lt_z-irrefl}
use Rattle.keys.proofs.KeyOrder.{same-sym, below-cases, below-major, Way, lower, level, upper, way}
use Rattle.keys.proofs.Clauses.{below_all, all_of-nil, rising-nil, find-nil, find-there, greatest-here, greatest-there, upsert-nil, upsert-lower, upsert-level, upsert-upper}
use Rattle.keys.proofs.Lookup.{find-key, find-all, all-upsert}
use Rattle.keys.proofs.Rising.{below_all-head, below_all-tail, below_all-intro, below_all-lower, rising-head, rising-tail, rising-intro, find-low}

-- The first figure alone decides, where the second figures are level.
first_below : (a b : ℤ) → below (key_of a (pos 0)) (key_of b (pos 0)) ≡ true → lt_z a b ≡ true
first_below a b h = go (below-cases (key_of a (pos 0)) (key_of b (pos 0)) h)
  where
    go : (lt_z a b ≡ true) ⊎ ((a ≡ b) × (lt_z (pos 0) (pos 0) ≡ true)) → lt_z a b ≡ true
    go (inl p) = p
    go (inr q) = clash q.1 (lt_z-irrefl (pos 0))

module _ {Row : Type 0} (key : Row → Key) where
  abbrev pub first_figure : Row → Key
  first_figure r = record { major = (key r).major; minor = pos 0 }

  key_below : (r s : Row) → below (first_figure r) (first_figure s) ≡ true → below (key r) (key s) ≡ true
  key_below r s h = below-major (key r) (key s) (first_below (key r).major (key s).major h)

  key-below-all : (r : Row) (rows : List Row) → below_all first_figure (first_figure r) rows ≡ true → below_all key (key r) rows ≡ true
  key-below-all r [] h = all_of-nil
  key-below-all r (s ∷ rest) h =
      below_all-intro key (key r) s rest (key_below r s (below_all-head first_figure (first_figure r) s rest h)) (key-below-all r rest (below_all-tail first_figure (first_figure r) s rest h))

  pub rises-by-key : (rows : List Row) → rising first_figure rows ≡ true → rising key rows ≡ true
  rises-by-key [] h = rising-nil key
  rises-by-key (r ∷ rest) h = rising-intro key r rest (key-below-all r rest (rising-head first_figure r rest h)) (rises-by-key rest (rising-tail first_figure r rest h))

  other-first : (new r : Row) (rest : List Row) → greatest key (key new).major (r ∷ rest) ≡ none → eq_z (key r).major (key new).major ≡ false
  other-first new r rest g = go (split (eq_z (key r).major (key new).major))
    where
      go : (eq_z (key r).major (key new).major ≡ true) ⊎ (eq_z (key r).major (key new).major ≡ false) → eq_z (key r).major (key new).major ≡ false
      go (inl e) = none-some g (greatest-here key (key new).major r rest e)
      go (inr e) = e

  -- Of two rows with other first figures, the lower key has the lower first figure.
  first-of-below : (r s : Row) → ((key r).major ≡ (key s).major → ⊥) → below (key r) (key s) ≡ true → below (first_figure r) (first_figure s) ≡ true
  first-of-below r s d h = go (below-cases (key r) (key s) h)
    where
      go : (lt_z (key r).major (key s).major ≡ true) ⊎ (((key r).major ≡ (key s).major) × (lt_z (key r).minor (key s).minor ≡ true)) → below (first_figure r) (first_figure s) ≡ true
      go (inl p) = below-major (first_figure r) (first_figure s) p
      go (inr q) = absurd (d q.0)

  pub new-rises : (new : Row) (rows : List Row) → rising first_figure rows ≡ true → greatest key (key new).major rows ≡ none → rising first_figure (upsert key new rows) ≡ true
  new-rises new [] h g = rw (upsert-nil key new) (rising-intro first_figure new [] all_of-nil h)
  new-rises new (r ∷ rest) h g =
      let e : eq_z (key r).major (key new).major ≡ false = other-first new r rest g in
      go e (new-rises new rest (rising-tail first_figure r rest h) (sym (greatest-there key (key new).major r rest e) ∙ g)) (way (key new) (key r))
    where
      go : eq_z (key r).major (key new).major ≡ false → rising first_figure (upsert key new rest) ≡ true → Way (key new) (key r) → rising first_figure (upsert key new (r ∷ rest)) ≡ true
      go e again (lower b _ _) =
          let f : below (first_figure new) (first_figure r) ≡ true = first-of-below new r (λ p. clash (eq_z-eq (key r).major (key new).major (sym p)) e) b in
          rw (upsert-lower key new r rest b)
          (rising-intro first_figure new (r ∷ rest) (below_all-intro first_figure (first_figure new) r rest f (below_all-lower first_figure (first_figure new) (first_figure r) rest f (rising-head first_figure r rest h))) h)
      go e again (level p _ _ _) = clash (eq_z-eq (key r).major (key new).major (ap (λ (k : Key). k.major) (sym p))) e
      go e again (upper a s b) =
          let f : below (first_figure r) (first_figure new) ≡ true = first-of-below r new (λ p. clash (eq_z-eq (key r).major (key new).major p) e) a in
          rw (upsert-upper key new r rest b s)
          (rising-intro first_figure r (upsert key new rest) (all-upsert key (λ (x : Row). below (first_figure r) (first_figure x)) new rest f (rising-head first_figure r rest h)) again)

  pub same-rises : (new x : Row) (rows : List Row) → rising first_figure rows ≡ true → find key (key new) rows ≡ some x → rising first_figure (upsert key new rows) ≡ true
  same-rises new x [] h f = none-some (find-nil key (key new)) f
  same-rises new x (r ∷ rest) h f = go (same-rises new x rest (rising-tail first_figure r rest h)) (way (key new) (key r))
    where
      head : below_all first_figure (first_figure r) rest ≡ true
      head = rising-head first_figure r rest h

      -- The row that is found rises above this one, and the new one has its key.
      over : find key (key new) rest ≡ some x → below (first_figure r) (first_figure new) ≡ true
      over g =
          subst (λ (k : Key). below (first_figure r) (key_of k.major (pos 0)) ≡ true) (find-key key (key new) rest x g)
          (find-all key (λ (y : Row). below (first_figure r) (first_figure y)) (key new) rest x head g)

      go : (find key (key new) rest ≡ some x → rising first_figure (upsert key new rest) ≡ true) → Way (key new) (key r) → rising first_figure (upsert key new (r ∷ rest)) ≡ true
      go again (lower b _ _) = none-some (find-low key (key new) (r ∷ rest) (below_all-intro key (key new) r rest b (below_all-lower key (key new) (key r) rest b (key-below-all r rest head)))) f
      go again (level e s _ _) =
          rw (upsert-level key new r rest s)
          (rising-intro first_figure new rest (subst (λ (k : Key). below_all first_figure (key_of k.major (pos 0)) rest ≡ true) (sym e) head) (rising-tail first_figure r rest h))
      go again (upper a s b) =
          let g : find key (key new) rest ≡ some x = sym (find-there key (key new) r rest (same-sym (key r) (key new) ∙ s)) ∙ f in
          rw (upsert-upper key new r rest b s)
          (rising-intro first_figure r (upsert key new rest) (all-upsert key (λ (y : Row). below (first_figure r) (first_figure y)) new rest (over g) head) (again g))
