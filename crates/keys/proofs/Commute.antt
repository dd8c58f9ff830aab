-- Puts of rows with different keys commute, in any table, sorted or not. By induction on the table, with the ways in which both keys lie to its first row's.
-- Assumes nothing.
use mathlib.Core.Path.{◌≡◌, sym, ◌∙◌, ap, subst}
use mathlib.Core.Bool.{true, false}
use mathlib.Core.List.{List, [], ◌∷◌}
use Rattle.rules.specs.Keyed.{Key, below, same, upsert}
use Rattle.keys.proofs.Split.{clash}
use Rattle.keys.proofs.KeyOrder.{eq-same, below-trans, below-asym, below-not-same, above-not-same, Way, lower, level, upper, way}
use Rattle.keys.proofs.Clauses.{upsert-nil, upsert-lower, upsert-level, upsert-upper}

module _ {Row : Type 0} (key : Row → Key) where
  -- A row put above the first row of a table, by a key that is above.
  pub upsert-past : (new r : Row) (rest : List Row) → below (key r) (key new) ≡ true → upsert key new (r ∷ rest) ≡ r ∷ upsert key new rest
  upsert-past new r rest h = upsert-upper key new r rest (below-asym (key r) (key new) h) (above-not-same (key new) (key r) h)

  -- Where one row's key is below the other's, whatever the table.
  both : (a b : Row) (t : List Row) → below (key a) (key b) ≡ true → upsert key a (upsert key b t) ≡ upsert key b (upsert key a t)
  both a b [] h = rw (upsert-nil key a, upsert-nil key b) (upsert-lower key a b [] h ∙ ap (λ (l : List Row). a ∷ l) (sym (upsert-nil key b)) ∙ sym (upsert-past b a [] h))
  both a b (r ∷ rest) h = go (both a b rest h) (way (key a) (key r)) (way (key b) (key r))
    where
      go : upsert key a (upsert key b rest) ≡ upsert key b (upsert key a rest) → Way (key a) (key r) → Way (key b) (key r) →
          upsert key a (upsert key b (r ∷ rest)) ≡ upsert key b (upsert key a (r ∷ rest))
      go again (lower ar _ _) (lower br _ _) =
          rw (upsert-lower key b r rest br, upsert-lower key a r rest ar)
          (upsert-lower key a b (r ∷ rest) h ∙ ap (λ (l : List Row). a ∷ l) (sym (upsert-lower key b r rest br)) ∙ sym (upsert-past b a (r ∷ rest) h))
      go again (lower ar _ _) (level be bs _ _) =
          rw (upsert-level key b r rest bs, upsert-lower key a r rest ar)
          (upsert-lower key a b rest h ∙ ap (λ (l : List Row). a ∷ l) (sym (upsert-level key b r rest bs)) ∙ sym (upsert-past b a (r ∷ rest) h))
      go again (lower ar _ _) (upper br _ _) =
          rw (upsert-past b r rest br, upsert-lower key a r rest ar)
          (upsert-lower key a r (upsert key b rest) ar ∙ ap (λ (l : List Row). a ∷ l) (sym (upsert-past b r rest br)) ∙ sym (upsert-past b a (r ∷ rest) h))
      go again (level ae sa _ _) (lower br _ _) = clash br (subst (λ (k : Key). below (key b) k ≡ false) ae (below-asym (key a) (key b) h))
      go again (level ae sa _ _) (level be bs _ _) = clash (eq-same (key a) (key b) (ae ∙ sym be)) (below-not-same (key a) (key b) h)
      go again (level ae sa _ _) (upper br _ _) =
          rw (upsert-past b r rest br, upsert-level key a r rest sa)
          (upsert-level key a r (upsert key b rest) sa ∙ sym (upsert-past b a rest h))
      go again (upper ar _ _) (lower br _ _) = clash (below-trans (key r) (key a) (key b) ar h) (below-asym (key b) (key r) br)
      go again (upper ar _ _) (level be bs _ _) = clash (subst (λ (k : Key). below k (key a) ≡ true) (sym be) ar) (below-asym (key a) (key b) h)
      go again (upper ar _ _) (upper br _ _) =
          rw (upsert-past b r rest br, upsert-past a r rest ar)
          (upsert-past a r (upsert key b rest) ar ∙ ap (λ (l : List Row). r ∷ l) again ∙ sym (upsert-past b r (upsert key a rest) br))

  pub upsert-commute : (a b : Row) (t : List Row) → same (key a) (key b) ≡ false → upsert key a (upsert key b t) ≡ upsert key b (upsert key a t)
  upsert-commute a b t d = go (way (key a) (key b))
    where
      go : Way (key a) (key b) → upsert key a (upsert key b t) ≡ upsert key b (upsert key a t)
      go (lower h _ _) = both a b t h
      go (level e s _ _) = clash s d
      go (upper h _ _) = sym (both b a t h)
