-- Lookups in a table of any rows, sorted or not: a found row has the key asked for and every property of the table's rows; a row that is put is found at its key,
-- and at other keys nothing changes. By induction on the table. Assumes nothing.
use mathlib.Core.Path.{◌≡◌, sym, ◌∙◌, ap, subst}
use mathlib.Core.Bool.{Bool, true, false}
use mathlib.Core.List.{List, [], ◌∷◌, map}
use mathlib.Core.Logic.{◌⊎◌, inl, inr}
use mathlib.Core.Option.{Option, some}
use lib.IntN.{ℤ}
use Rattle.integers.specs.Order.{eq_z}
use Rattle.rules.specs.Keyed.{Key, same, at_least, find, greatest, upsert}
use Rattle.rules.specs.Refusal.{all_of}
use Rattle.keys.proofs.Split.{split, none-some, some_inj}
use Rattle.keys.proofs.KeyOrder.{same_refl, same-eq, same-sym, Way, lower, level, upper, way}
use Rattle.keys.proofs.Clauses.{find-nil, find-here, find-there, greatest-here, greatest-there, upsert-nil, upsert-lower, upsert-level, upsert-upper, all_of-intro, all_of-head, all_of-tail}

module _ {Row : Type 0} (key : Row → Key) where
  pub find-key : (k : Key) (t : List Row) (x : Row) → find key k t ≡ some x → key x ≡ k
  find-key k [] x h = none-some (find-nil key k) h
  find-key k (r ∷ rest) x h = go (find-key k rest x) (split (same (key r) k))
    where
      go : (find key k rest ≡ some x → key x ≡ k) → (same (key r) k ≡ true) ⊎ (same (key r) k ≡ false) → key x ≡ k
      go again (inl s) = ap key (some_inj h (find-here key k r rest s)) ∙ same-eq (key r) k s
      go again (inr s) = again (sym (find-there key k r rest s) ∙ h)

  pub find-all : (p : Row → Bool) (k : Key) (t : List Row) (x : Row) → all_of (map p t) ≡ true → find key k t ≡ some x → p x ≡ true
  find-all p k [] x a h = none-some (find-nil key k) h
  find-all p k (r ∷ rest) x a h = go (find-all p k rest x (all_of-tail (p r) (map p rest) a)) (split (same (key r) k))
    where
      go : (find key k rest ≡ some x → p x ≡ true) → (same (key r) k ≡ true) ⊎ (same (key r) k ≡ false) → p x ≡ true
      go again (inl s) = ap p (some_inj h (find-here key k r rest s)) ∙ all_of-head (p r) (map p rest) a
      go again (inr s) = again (sym (find-there key k r rest s) ∙ h)

  pub find-upsert : (new : Row) (t : List Row) → find key (key new) (upsert key new t) ≡ some new
  find-upsert new [] = rw (upsert-nil key new) (find-here key (key new) new [] (same_refl (key new)))
  find-upsert new (r ∷ rest) = go (find-upsert new rest) (way (key new) (key r))
    where
      go : find key (key new) (upsert key new rest) ≡ some new → Way (key new) (key r) → find key (key new) (upsert key new (r ∷ rest)) ≡ some new
      go again (lower b s a) = rw (upsert-lower key new r rest b) (find-here key (key new) new (r ∷ rest) (same_refl (key new)))
      go again (level e s b a) = rw (upsert-level key new r rest s) (find-here key (key new) new rest (same_refl (key new)))
      go again (upper a s b) = rw (upsert-upper key new r rest b s) (find-there key (key new) r (upsert key new rest) (same-sym (key r) (key new) ∙ s) ∙ again)

  pub find-upsert-other : (k : Key) (new : Row) (t : List Row) → same (key new) k ≡ false → find key k (upsert key new t) ≡ find key k t
  find-upsert-other k new [] d = rw (upsert-nil key new) (find-there key k new [] d)
  find-upsert-other k new (r ∷ rest) d = go (find-upsert-other k new rest d) (way (key new) (key r)) (split (same (key r) k))
    where
      go : find key k (upsert key new rest) ≡ find key k rest → Way (key new) (key r) → (same (key r) k ≡ true) ⊎ (same (key r) k ≡ false) →
          find key k (upsert key new (r ∷ rest)) ≡ find key k (r ∷ rest)
      go again (lower b s a) q = rw (upsert-lower key new r rest b) (find-there key k new (r ∷ rest) d)
      go again (level e s b a) q = rw (upsert-level key new r rest s) (find-there key k new rest d ∙ sym (find-there key k r rest (subst (λ (x : Key). same x k ≡ false) e d)))
      go again (upper a s b) (inl q) = rw (upsert-upper key new r rest b s) (find-here key k r (upsert key new rest) q ∙ sym (find-here key k r rest q))
      go again (upper a s b) (inr q) = rw (upsert-upper key new r rest b s) (find-there key k r (upsert key new rest) q ∙ again ∙ sym (find-there key k r rest q))

  pub greatest-upsert-other : (m : ℤ) (new : Row) (t : List Row) → eq_z (key new).major m ≡ false → greatest key m (upsert key new t) ≡ greatest key m t
  greatest-upsert-other m new [] d = rw (upsert-nil key new) (greatest-there key m new [] d)
  greatest-upsert-other m new (r ∷ rest) d = go (greatest-upsert-other m new rest d) (way (key new) (key r)) (split (eq_z (key r).major m))
    where
      go : greatest key m (upsert key new rest) ≡ greatest key m rest → Way (key new) (key r) → (eq_z (key r).major m ≡ true) ⊎ (eq_z (key r).major m ≡ false) →
          greatest key m (upsert key new (r ∷ rest)) ≡ greatest key m (r ∷ rest)
      go again (lower b s a) q = rw (upsert-lower key new r rest b) (greatest-there key m new (r ∷ rest) d)
      go again (level e s b a) q = rw (upsert-level key new r rest s) (greatest-there key m new rest d ∙ sym (greatest-there key m r rest (subst (λ (x : Key). eq_z x.major m ≡ false) e d)))
      go again (upper a s b) (inl q) = rw (upsert-upper key new r rest b s) (greatest-here key m r (upsert key new rest) q ∙ ap (λ (g : Option ℤ). some (at_least (key r).minor g)) again ∙ sym (greatest-here key m r rest q))
      go again (upper a s b) (inr q) = rw (upsert-upper key new r rest b s) (greatest-there key m r (upsert key new rest) q ∙ again ∙ sym (greatest-there key m r rest q))

  -- What every row of the table has, and the new row, every row has after the put.
  pub all-upsert : (p : Row → Bool) (new : Row) (t : List Row) → p new ≡ true → all_of (map p t) ≡ true → all_of (map p (upsert key new t)) ≡ true
  all-upsert p new [] n a = rw (upsert-nil key new) (all_of-intro (p new) [] n a)
  all-upsert p new (r ∷ rest) n a = go (all-upsert p new rest n (all_of-tail (p r) (map p rest) a)) (way (key new) (key r))
    where
      go : all_of (map p (upsert key new rest)) ≡ true → Way (key new) (key r) → all_of (map p (upsert key new (r ∷ rest))) ≡ true
      go again (lower b s _) = rw (upsert-lower key new r rest b) (all_of-intro (p new) (map p (r ∷ rest)) n a)
      go again (level e s b _) = rw (upsert-level key new r rest s) (all_of-intro (p new) (map p rest) n (all_of-tail (p r) (map p rest) a))
      go again (upper _ s b) = rw (upsert-upper key new r rest b s) (all_of-intro (p r) (map p (upsert key new rest)) (all_of-head (p r) (map p rest) a) again)
