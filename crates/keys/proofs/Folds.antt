-- Rows put one after the other. Where every row's key has a property: other keys see nothing of the puts, and puts under properties that exclude one another commute.
-- The table rises, keeps what every row has, and never gets shorter; in a rising table, rows of different keys add as many as were absent.
-- By induction on the rows that are put. Assumes nothing.
use Prim.Native.Nat.{◌≤◌}
use mathlib.Core.Path.{◌≡◌, sym, ◌∙◌, ap, subst}
use mathlib.Core.Bool.{Bool, true, false}
use mathlib.Core.List.{List, [], ◌∷◌, ◌++◌, map}
use lib.IntN.{ℤ}
use lib.ListN.{length}
use native.Mathlib.Omega.{arith}
use Rattle.integers.specs.Order.{eq_z}
use Rattle.rules.specs.Keyed.{Key, same, rising, find, greatest, upsert, upsert_all}
use Rattle.rules.specs.Refusal.{all_of}
use Rattle.keys.proofs.Split.{clash, is_false}
use Rattle.keys.proofs.KeyOrder.{same-eq}
use Rattle.keys.proofs.Clauses.{all_of-nil, all_of-intro, all_of-head, all_of-tail, upsert_all-nil, upsert_all-cons}
use Rattle.keys.proofs.Lookup.{find-upsert-other, greatest-upsert-other, all-upsert}
use Rattle.keys.proofs.Commute.{upsert-commute}
use Rattle.keys.proofs.Rising.{upsert-rises, upsert-longer}

module _ {Row : Type 0} (key : Row → Key) where
  -- Every row's key has the property.
  abbrev pub Only : (Key → Bool) → List Row → Type 0
  Only p rs = all_of (map (λ (r : Row). p (key r)) rs) ≡ true

  pub only-head : (p : Key → Bool) (r : Row) (rest : List Row) → Only p (r ∷ rest) → p (key r) ≡ true
  only-head p r rest h = all_of-head (p (key r)) (map (λ (x : Row). p (key x)) rest) h

  pub only-tail : (p : Key → Bool) (r : Row) (rest : List Row) → Only p (r ∷ rest) → Only p rest
  only-tail p r rest h = all_of-tail (p (key r)) (map (λ (x : Row). p (key x)) rest) h

  pub only-intro : (p : Key → Bool) (r : Row) (rest : List Row) → p (key r) ≡ true → Only p rest → Only p (r ∷ rest)
  only-intro p r rest h k = all_of-intro (p (key r)) (map (λ (x : Row). p (key x)) rest) h k

  pub only-append : (p : Key → Bool) (xs ys : List Row) → Only p xs → Only p ys → Only p (xs ++ ys)
  only-append p [] ys h k = k
  only-append p (r ∷ rest) ys h k = only-intro p r (rest ++ ys) (only-head p r rest h) (only-append p rest ys (only-tail p r rest h) k)

  pub only-weaken : (p q : Key → Bool) (rs : List Row) → ((k : Key) → p k ≡ true → q k ≡ true) → Only p rs → Only q rs
  only-weaken p q [] w h = all_of-nil
  only-weaken p q (r ∷ rest) w h = only-intro q r rest (w (key r) (only-head p r rest h)) (only-weaken p q rest w (only-tail p r rest h))

  pub upsert_all-append : (xs ys t : List Row) → upsert_all key (xs ++ ys) t ≡ upsert_all key ys (upsert_all key xs t)
  upsert_all-append [] ys t = ap (λ (x : List Row). upsert_all key ys x) (sym (upsert_all-nil key t))
  upsert_all-append (r ∷ rest) ys t =
      upsert_all-cons key r (rest ++ ys) t ∙ upsert_all-append rest ys (upsert key r t) ∙ ap (λ (x : List Row). upsert_all key ys x) (sym (upsert_all-cons key r rest t))

  pub find-upsert_all-other : (p : Key → Bool) (k : Key) (rs t : List Row) → Only p rs → p k ≡ false → find key k (upsert_all key rs t) ≡ find key k t
  find-upsert_all-other p k [] t o h = ap (λ (x : List Row). find key k x) (upsert_all-nil key t)
  find-upsert_all-other p k (r ∷ rest) t o h =
      ap (λ (x : List Row). find key k x) (upsert_all-cons key r rest t)
      ∙ find-upsert_all-other p k rest (upsert key r t) (only-tail p r rest o) h
      ∙ find-upsert-other key k r t
      (is_false (same (key r) k) (λ s. clash (only-head p r rest o) (subst (λ (x : Key). p x ≡ false) (sym (same-eq (key r) k s)) h)))

  pub greatest-upsert_all-other : (p : Key → Bool) (m : ℤ) (rs t : List Row) → Only p rs → ((k : Key) → p k ≡ true → eq_z k.major m ≡ false) →
      greatest key m (upsert_all key rs t) ≡ greatest key m t
  greatest-upsert_all-other p m [] t o h = ap (λ (x : List Row). greatest key m x) (upsert_all-nil key t)
  greatest-upsert_all-other p m (r ∷ rest) t o h =
      ap (λ (x : List Row). greatest key m x) (upsert_all-cons key r rest t)
      ∙ greatest-upsert_all-other p m rest (upsert key r t) (only-tail p r rest o) h
      ∙ greatest-upsert-other key m r t (h (key r) (only-head p r rest o))

  -- One put, past puts at other keys.
  pub upsert-upsert_all : (p : Key → Bool) (r : Row) (rs t : List Row) → Only p rs → p (key r) ≡ false → upsert key r (upsert_all key rs t) ≡ upsert_all key rs (upsert key r t)
  upsert-upsert_all p r [] t o h = ap (λ (x : List Row). upsert key r x) (upsert_all-nil key t) ∙ sym (upsert_all-nil key (upsert key r t))
  upsert-upsert_all p r (s ∷ rest) t o h =
      ap (λ (x : List Row). upsert key r x) (upsert_all-cons key s rest t)
      ∙ upsert-upsert_all p r rest (upsert key s t) (only-tail p s rest o) h
      ∙ ap (λ (x : List Row). upsert_all key rest x)
      (upsert-commute key r s t
      (is_false (same (key r) (key s)) (λ w. clash (only-head p s rest o) (subst (λ (x : Key). p x ≡ false) (same-eq (key r) (key s) w) h))))
      ∙ sym (upsert_all-cons key s rest (upsert key r t))

  pub upsert_all-commute : (p q : Key → Bool) (rs qs t : List Row) → Only p rs → Only q qs → ((k : Key) → p k ≡ true → q k ≡ false) →
      upsert_all key rs (upsert_all key qs t) ≡ upsert_all key qs (upsert_all key rs t)
  upsert_all-commute p q [] qs t o w d = upsert_all-nil key (upsert_all key qs t) ∙ ap (λ (x : List Row). upsert_all key qs x) (sym (upsert_all-nil key t))
  upsert_all-commute p q (r ∷ rest) qs t o w d =
      upsert_all-cons key r rest (upsert_all key qs t)
      ∙ ap (λ (x : List Row). upsert_all key rest x) (upsert-upsert_all q r qs t w (d (key r) (only-head p r rest o)))
      ∙ upsert_all-commute p q rest qs (upsert key r t) (only-tail p r rest o) w d
      ∙ ap (λ (x : List Row). upsert_all key qs x) (sym (upsert_all-cons key r rest t))

  pub upsert_all-rises : (rs t : List Row) → rising key t ≡ true → rising key (upsert_all key rs t) ≡ true
  upsert_all-rises [] t h = ap (λ (x : List Row). rising key x) (upsert_all-nil key t) ∙ h
  upsert_all-rises (r ∷ rest) t h =
      ap (λ (x : List Row). rising key x) (upsert_all-cons key r rest t) ∙ upsert_all-rises rest (upsert key r t) (upsert-rises key r t h)

  pub all-upsert_all : (p : Row → Bool) (rs t : List Row) → all_of (map p rs) ≡ true → all_of (map p t) ≡ true → all_of (map p (upsert_all key rs t)) ≡ true
  all-upsert_all p [] t n a = ap (λ (x : List Row). all_of (map p x)) (upsert_all-nil key t) ∙ a
  all-upsert_all p (r ∷ rest) t n a =
      ap (λ (x : List Row). all_of (map p x)) (upsert_all-cons key r rest t)
      ∙ all-upsert_all p rest (upsert key r t) (all_of-tail (p r) (map p rest) n) (all-upsert key p r t (all_of-head (p r) (map p rest) n) a)

  pub upsert_all-longer : (rs t : List Row) → length t ≤ length (upsert_all key rs t)
  upsert_all-longer [] t = rw (upsert_all-nil key t) (omega arith)
  upsert_all-longer (r ∷ rest) t = rw (upsert_all-cons key r rest t) (omega (arith, upsert_all-longer rest (upsert key r t), upsert-longer key r t))
