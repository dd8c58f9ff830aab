-- How many rows puts add: rows whose keys are there add none, rows of different keys that are absent add their number, and rows of different keys
-- add as many as the table lacks. By induction on the rows that are put. Assumes nothing.
use Prim.Native.Nat.{ℕ, suc, ◌+◌}
use mathlib.Core.Path.{◌≡◌, refl, sym, ◌∙◌, ap, subst}
use mathlib.Core.Bool.{Bool, true, false, not, ◌&&◌}
use mathlib.Core.List.{List, [], ◌∷◌, ◌++◌, map}
use mathlib.Core.Logic.{◌⊎◌, inl, inr}
use mathlib.Core.Option.{Option, none, some}
use lib.ListN.{length}
use native.Mathlib.Omega.{arith}
use borrow.Author.Tests.{not-true}
use Rattle.rules.specs.Keyed.{Key, same, is_some, rising, find, upsert, upsert_all, absent_from}
use Rattle.rules.specs.Refusal.{all_of}
use Rattle.keys.proofs.Split.{split, clash, is_false, Found, absent, present, found, and_intro, and_left, and_right}
use Rattle.keys.proofs.KeyOrder.{same-eq}
use Rattle.keys.proofs.Clauses.{all_of-nil, all_of-intro, is_some-none, is_some-some, upsert_all-nil, upsert_all-cons, absent_from-nil, absent_from-new, absent_from-old}
use Rattle.keys.proofs.Lookup.{find-upsert, find-upsert-other}
use Rattle.keys.proofs.Rising.{upsert-rises, upsert-adds, upsert-replaces}
use Rattle.keys.proofs.Folds.{Only, only-head, only-tail, upsert_all-append, find-upsert_all-other}

-- What `is_some` says of a lookup.
pub is_some-absent : {A : Type 0} (o : Option A) → is_some o ≡ false → o ≡ none
unfolding is_some
is_some-absent none h = refl
is_some-absent (some a) h = clash refl h

pub is_some-present : {A : Type 0} (o : Option A) → is_some o ≡ true → (a : A) × (o ≡ some a)
unfolding is_some
is_some-present none h = clash refl (sym h)
is_some-present (some a) h = (a, refl)

module _ {Row : Type 0} (key : Row → Key) where
  -- No two of these rows have the same key.
  unfoldable pub distinct : List Row → Bool
  distinct [] = true
  distinct (r ∷ rest) = all_of (map (λ (s : Row). not (same (key r) (key s))) rest) && distinct rest

  pub distinct_nil : distinct [] ≡ true
  unfolding distinct
  distinct_nil = refl

  pub distinct_head : (r : Row) (rest : List Row) → distinct (r ∷ rest) ≡ true → Only key (λ (k : Key). not (same (key r) k)) rest
  unfolding distinct
  distinct_head r rest h = and_left (all_of (map (λ (s : Row). not (same (key r) (key s))) rest)) (distinct rest) h

  pub distinct_tail : (r : Row) (rest : List Row) → distinct (r ∷ rest) ≡ true → distinct rest ≡ true
  unfolding distinct
  distinct_tail r rest h = and_right (all_of (map (λ (s : Row). not (same (key r) (key s))) rest)) (distinct rest) h

  pub distinct-intro : (r : Row) (rest : List Row) → Only key (λ (k : Key). not (same (key r) k)) rest → distinct rest ≡ true → distinct (r ∷ rest) ≡ true
  unfolding distinct
  distinct-intro r rest h k = and_intro h k

  -- Whether the table has, or lacks, each of these rows' keys.
  abbrev pub has_all : List Row → List Row → Bool
  has_all t rs = all_of (map (λ (r : Row). is_some (find key (key r) t)) rs)

  abbrev pub lacks_all : List Row → List Row → Bool
  lacks_all t rs = all_of (map (λ (r : Row). not (is_some (find key (key r) t))) rs)

  pub has_all-head : (t : List Row) (r : Row) (rest : List Row) → has_all t (r ∷ rest) ≡ true → (x : Row) × (find key (key r) t ≡ some x)
  has_all-head t r rest h = is_some-present (find key (key r) t) (only-head key (λ (k : Key). is_some (find key k t)) r rest h)

  pub lacks_all-head : (t : List Row) (r : Row) (rest : List Row) → lacks_all t (r ∷ rest) ≡ true → find key (key r) t ≡ none
  lacks_all-head t r rest h =
      is_some-absent (find key (key r) t) (not-true (is_some (find key (key r) t)) (only-head key (λ (k : Key). not (is_some (find key k t))) r rest h))

  pub lacks_all-intro : (t : List Row) (r : Row) (rest : List Row) → find key (key r) t ≡ none → lacks_all t rest ≡ true → lacks_all t (r ∷ rest) ≡ true
  lacks_all-intro t r rest h k =
      all_of-intro (not (is_some (find key (key r) t))) (map (λ (s : Row). not (is_some (find key (key s) t))) rest)
      (ap (λ (o : Option Row). not (is_some o)) h ∙ ap not (is_some-none Row)) k

  pub has_all-intro : (t : List Row) (r x : Row) (rest : List Row) → find key (key r) t ≡ some x → has_all t rest ≡ true → has_all t (r ∷ rest) ≡ true
  has_all-intro t r x rest h k =
      all_of-intro (is_some (find key (key r) t)) (map (λ (s : Row). is_some (find key (key s) t)) rest)
      (ap (λ (o : Option Row). is_some o) h ∙ is_some-some x) k

  -- A key that is there stays there.
  pub upsert-has : (new : Row) (k : Key) (t : List Row) → is_some (find key k t) ≡ true → is_some (find key k (upsert key new t)) ≡ true
  upsert-has new k t h = go (split (same (key new) k))
    where
      go : (same (key new) k ≡ true) ⊎ (same (key new) k ≡ false) → is_some (find key k (upsert key new t)) ≡ true
      go (inl s) = ap (λ (o : Option Row). is_some o) (subst (λ (x : Key). find key x (upsert key new t) ≡ some new) (same-eq (key new) k s) (find-upsert key new t)) ∙ is_some-some new
      go (inr s) = ap (λ (o : Option Row). is_some o) (find-upsert-other key k new t s) ∙ h

  pub has_all-upsert : (new : Row) (rs t : List Row) → has_all t rs ≡ true → has_all (upsert key new t) rs ≡ true
  has_all-upsert new [] t h = all_of-nil
  has_all-upsert new (r ∷ rest) t h =
      all_of-intro (is_some (find key (key r) (upsert key new t))) (map (λ (s : Row). is_some (find key (key s) (upsert key new t))) rest)
      (upsert-has new (key r) t (only-head key (λ (k : Key). is_some (find key k t)) r rest h))
      (has_all-upsert new rest t (only-tail key (λ (k : Key). is_some (find key k t)) r rest h))

  -- Keys other than the new row's are absent after the put as before.
  pub lacks_all-upsert : (new : Row) (rs t : List Row) → Only key (λ (k : Key). not (same (key new) k)) rs → lacks_all t rs ≡ true → lacks_all (upsert key new t) rs ≡ true
  lacks_all-upsert new [] t o h = all_of-nil
  lacks_all-upsert new (r ∷ rest) t o h =
      lacks_all-intro (upsert key new t) r rest
      (find-upsert-other key (key r) new t (not-true (same (key new) (key r)) (only-head key (λ (k : Key). not (same (key new) k)) r rest o)) ∙ lacks_all-head t r rest h)
      (lacks_all-upsert new rest t (only-tail key (λ (k : Key). not (same (key new) k)) r rest o) (only-tail key (λ (k : Key). not (is_some (find key k t))) r rest h))

  -- Rows that the table has differ from rows that it lacks.
  apart : (new x : Row) (rs t : List Row) → find key (key new) t ≡ some x → lacks_all t rs ≡ true → Only key (λ (k : Key). not (same (key new) k)) rs
  apart new x [] t f h = all_of-nil
  apart new x (r ∷ rest) t f h =
      all_of-intro (not (same (key new) (key r))) (map (λ (s : Row). not (same (key new) (key s))) rest)
      (ap not (is_false (same (key new) (key r)) (λ s. clash
      (ap (λ (o : Option Row). is_some o) (ap (λ (k : Key). find key k t) (sym (same-eq (key new) (key r) s)) ∙ f) ∙ is_some-some x)
      (ap (λ (o : Option Row). is_some o) (lacks_all-head t r rest h) ∙ is_some-none Row))))
      (apart new x rest t f (only-tail key (λ (k : Key). not (is_some (find key k t))) r rest h))

  pub lacks_all-upsert_all : (rs qs t : List Row) → has_all t rs ≡ true → lacks_all t qs ≡ true → lacks_all (upsert_all key rs t) qs ≡ true
  lacks_all-upsert_all [] qs t h l = ap (λ (x : List Row). lacks_all x qs) (upsert_all-nil key t) ∙ l
  lacks_all-upsert_all (r ∷ rest) qs t h l =
      ap (λ (x : List Row). lacks_all x qs) (upsert_all-cons key r rest t)
      ∙ lacks_all-upsert_all rest qs (upsert key r t) (has_all-upsert r rest t (only-tail key (λ (k : Key). is_some (find key k t)) r rest h))
      (lacks_all-upsert r qs t (apart r (has_all-head t r rest h).0 qs t (has_all-head t r rest h).1 l) l)

  -- Rows whose keys are there, put into a rising table, add none.
  pub upsert_all-replaces : (rs t : List Row) → rising key t ≡ true → has_all t rs ≡ true → length (upsert_all key rs t) ≡ length t
  upsert_all-replaces [] t h p = ap (λ (x : List Row). length x) (upsert_all-nil key t)
  upsert_all-replaces (r ∷ rest) t h p =
      ap (λ (x : List Row). length x) (upsert_all-cons key r rest t)
      ∙ upsert_all-replaces rest (upsert key r t) (upsert-rises key r t h) (has_all-upsert r rest t (only-tail key (λ (k : Key). is_some (find key k t)) r rest p))
      ∙ upsert-replaces key r (has_all-head t r rest p).0 t h (has_all-head t r rest p).1

  -- Rows of different keys that are absent add their number.
  pub upsert_all-adds : (rs t : List Row) → distinct rs ≡ true → lacks_all t rs ≡ true → length (upsert_all key rs t) ≡ length t + length rs
  upsert_all-adds [] t d a = rw (upsert_all-nil key t) (omega arith)
  upsert_all-adds (r ∷ rest) t d a =
      let one : length (upsert key r t) ≡ suc (length t) = upsert-adds key r t (lacks_all-head t r rest a) in
      let more : length (upsert_all key rest (upsert key r t)) ≡ length (upsert key r t) + length rest =
      upsert_all-adds rest (upsert key r t) (distinct_tail r rest d)
      (lacks_all-upsert r rest t (distinct_head r rest d) (only-tail key (λ (k : Key). not (is_some (find key k t))) r rest a)) in
      rw (upsert_all-cons key r rest t) (omega arith)

  -- First rows that are there, then rows of different keys that are not.
  pub upsert_all-replaces-adds : (rs qs t : List Row) → rising key t ≡ true → has_all t rs ≡ true → distinct qs ≡ true → lacks_all t qs ≡ true →
      length (upsert_all key (rs ++ qs) t) ≡ length t + length qs
  upsert_all-replaces-adds rs qs t h p d a =
      ap (λ (x : List Row). length x) (upsert_all-append key rs qs t)
      ∙ upsert_all-adds qs (upsert_all key rs t) d (lacks_all-upsert_all rs qs t p a)
      ∙ ap (λ (n : ℕ). n + length qs) (upsert_all-replaces rs t h p)

  pub absent_from-upsert : (new : Row) (rs t : List Row) → Only key (λ (k : Key). not (same (key new) k)) rs → absent_from key (upsert key new t) rs ≡ absent_from key t rs
  absent_from-upsert new [] t o = absent_from-nil key (upsert key new t) ∙ sym (absent_from-nil key t)
  absent_from-upsert new (r ∷ rest) t o =
      go (absent_from-upsert new rest t (only-tail key (λ (k : Key). not (same (key new) k)) r rest o)) (found (find key (key r) t))
    where
      other : find key (key r) (upsert key new t) ≡ find key (key r) t
      other = find-upsert-other key (key r) new t (not-true (same (key new) (key r)) (only-head key (λ (k : Key). not (same (key new) k)) r rest o))

      go : absent_from key (upsert key new t) rest ≡ absent_from key t rest → Found (find key (key r) t) → absent_from key (upsert key new t) (r ∷ rest) ≡ absent_from key t (r ∷ rest)
      go again (absent f) = absent_from-new key (upsert key new t) r rest (other ∙ f) ∙ ap (λ (n : ℕ). 1 + n) again ∙ sym (absent_from-new key t r rest f)
      go again (present x f) = absent_from-old key (upsert key new t) r x rest (other ∙ f) ∙ ap (λ (n : ℕ). 0 + n) again ∙ sym (absent_from-old key t r x rest f)

  -- Puts under a property leave absent what is absent outside it.
  pub absent_from-upsert_all : (p : Key → Bool) (rs qs t : List Row) → Only key p rs → Only key (λ (k : Key). not (p k)) qs →
      absent_from key (upsert_all key rs t) qs ≡ absent_from key t qs
  absent_from-upsert_all p rs [] t o w = absent_from-nil key (upsert_all key rs t) ∙ sym (absent_from-nil key t)
  absent_from-upsert_all p rs (r ∷ rest) t o w =
      go (absent_from-upsert_all p rs rest t o (only-tail key (λ (k : Key). not (p k)) r rest w)) (found (find key (key r) t))
    where
      other : find key (key r) (upsert_all key rs t) ≡ find key (key r) t
      other = find-upsert_all-other key p (key r) rs t o (not-true (p (key r)) (only-head key (λ (k : Key). not (p k)) r rest w))

      go : absent_from key (upsert_all key rs t) rest ≡ absent_from key t rest → Found (find key (key r) t) → absent_from key (upsert_all key rs t) (r ∷ rest) ≡ absent_from key t (r ∷ rest)
      go again (absent f) = absent_from-new key (upsert_all key rs t) r rest (other ∙ f) ∙ ap (λ (n : ℕ). 1 + n) again ∙ sym (absent_from-new key t r rest f)
      go again (present x f) = absent_from-old key (upsert_all key rs t) r x rest (other ∙ f) ∙ ap (λ (n : ℕ). 0 + n) again ∙ sym (absent_from-old key t r x rest f)

  -- Rows of different keys add as many as the rising table lacks.
  pub upsert_all-counts : (rs t : List Row) → rising key t ≡ true → distinct rs ≡ true → length (upsert_all key rs t) ≡ length t + absent_from key t rs
  upsert_all-counts [] t h d = rw (upsert_all-nil key t, absent_from-nil key t) (omega arith)
  upsert_all-counts (r ∷ rest) t h d =
      go (upsert_all-counts rest (upsert key r t) (upsert-rises key r t h) (distinct_tail r rest d)) (absent_from-upsert r rest t (distinct_head r rest d)) (found (find key (key r) t))
    where
      go : length (upsert_all key rest (upsert key r t)) ≡ length (upsert key r t) + absent_from key (upsert key r t) rest → absent_from key (upsert key r t) rest ≡ absent_from key t rest →
          Found (find key (key r) t) → length (upsert_all key (r ∷ rest) t) ≡ length t + absent_from key t (r ∷ rest)
      go more later (absent f) = rw (upsert_all-cons key r rest t) (omega (arith, upsert-adds key r t f, absent_from-new key t r rest f))
      go more later (present x f) = rw (upsert_all-cons key r rest t) (omega (arith, upsert-replaces key r x t h f, absent_from-old key t r x rest f))
