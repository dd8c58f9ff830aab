-- The rows that the rules list (`reportable_among`): they are those that pass the test, in the order of the rows. And their ids and suffixes as cells, read as pairs again; cells without one over are told by
-- their pairs. By induction on the rows and on the cells. Assumes nothing.
use Prim.Native.Nat.{suc, ◌*◌}
use native.Mathlib.Omega.{arith}
use mathlib.Core.Path.{◌≡◌, refl, sym, ap, subst}
use mathlib.Core.Bool.{Bool, true, false, ◌&&◌}
use mathlib.Core.List.{List, [], ◌∷◌, map}
use mathlib.Core.Logic.{◌⊎◌, inl, inr}
use lib.IntN.{ℤ}
use lib.ListN.{length, get_or, drop}
use Rattle.rules.specs.Keyed.{Key, below, rising}
use Rattle.rules.specs.Rows.{key_of, record_key}
use Rattle.rules.specs.Merge.{pairs_of}
use Rattle.rules.specs.Reportable.{is_reportable, reportable_among, ids_and_suffixes}
use Rattle.rules.specs.declared.Record.{Record}
use Rattle.keys.proofs.Split.{split, clash, cond-true, cond-false}
use Rattle.keys.proofs.Clauses.{below_all, all_of-nil, rising-nil}
use Rattle.keys.proofs.Rising.{below_all-head, below_all-tail, below_all-intro, rising-head, rising-tail, rising-intro}
use Rattle.reporting.specs.Reported.{Stands}
use Rattle.reporting.proofs.Standing.{stands-first, stands-later, first-or-later, none-stands}

module _ (today : ℤ) (records : List Record) where
  abbrev listed : List Record → List Record
  listed rows = reportable_among today records rows

  abbrev reported : Record → Type 0
  reported r = is_reportable today records r ≡ true

  listed_nil : listed [] ≡ []
  unfolding reportable_among
  listed_nil = refl

  listed_here : (r : Record) (rest : List Record) → is_reportable today records r ≡ true → listed (r ∷ rest) ≡ r ∷ listed rest
  unfolding reportable_among
  listed_here r rest h = cond-true (r ∷ listed rest) (listed rest) h

  listed-not : (r : Record) (rest : List Record) → is_reportable today records r ≡ false → listed (r ∷ rest) ≡ listed rest
  unfolding reportable_among
  listed-not r rest h = cond-false (r ∷ listed rest) (listed rest) h

  -- Each row that passes stands in the list.
  pub passes-listed : (rows : List Record) (r : Record) → Stands rows r → is_reportable today records r ≡ true → Stands (listed rows) r
  passes-listed [] r s h = none-stands r s
  passes-listed (x ∷ rest) r s h = go (passes-listed rest r) (first-or-later x r rest s) (split (is_reportable today records x))
    where
      go : (Stands rest r → reported r → Stands (listed rest) r) → (x ≡ r) ⊎ (Stands rest r) → (is_reportable today records x ≡ true) ⊎ (is_reportable today records x ≡ false) → Stands (listed (x ∷ rest)) r
      go again (inl e) (inl k) = subst (λ (l : List Record). Stands l r) (sym (listed_here x rest k)) (subst (λ (y : Record). Stands (x ∷ listed rest) y) e (stands-first x (listed rest)))
      go again (inl e) (inr k) = clash h (subst (λ (y : Record). is_reportable today records y ≡ false) e k)
      go again (inr l) (inl k) = subst (λ (m : List Record). Stands m r) (sym (listed_here x rest k)) (stands-later x r (listed rest) (again l h))
      go again (inr l) (inr k) = subst (λ (m : List Record). Stands m r) (sym (listed-not x rest k)) (again l h)

  -- Each row of the list stands among the rows and passes.
  pub listed-passes : (rows : List Record) (r : Record) → Stands (listed rows) r → (Stands rows r) × (is_reportable today records r ≡ true)
  listed-passes [] r s = none-stands r (subst (λ (l : List Record). Stands l r) listed_nil s)
  listed-passes (x ∷ rest) r s = go (listed-passes rest r) (split (is_reportable today records x))
    where
      later : (Stands rest r) × (is_reportable today records r ≡ true) → (Stands (x ∷ rest) r) × (is_reportable today records r ≡ true)
      later w = (stands-later x r rest w.0, w.1)

      here : is_reportable today records x ≡ true → (Stands (listed rest) r → (Stands rest r) × (is_reportable today records r ≡ true)) → (x ≡ r) ⊎ (Stands (listed rest) r) →
          (Stands (x ∷ rest) r) × (is_reportable today records r ≡ true)
      here k again (inl e) = subst (λ (y : Record). (Stands (x ∷ rest) y) × (is_reportable today records y ≡ true)) e (stands-first x rest, k)
      here k again (inr l) = later (again l)

      go : (Stands (listed rest) r → (Stands rest r) × (is_reportable today records r ≡ true)) → (is_reportable today records x ≡ true) ⊎ (is_reportable today records x ≡ false) →
          (Stands (x ∷ rest) r) × (is_reportable today records r ≡ true)
      go again (inl k) = here k again (first-or-later x r (listed rest) (subst (λ (l : List Record). Stands l r) (listed_here x rest k) s))
      go again (inr k) = later (again (subst (λ (l : List Record). Stands l r) (listed-not x rest k) s))

  -- In the order of the rows.
  listed_below : (k : Key) (rows : List Record) → below_all record_key k rows ≡ true → below_all record_key k (listed rows) ≡ true
  listed_below k [] h = subst (λ (l : List Record). below_all record_key k l ≡ true) (sym listed_nil) all_of-nil
  listed_below k (x ∷ rest) h = go (listed_below k rest (below_all-tail record_key k x rest h)) (split (is_reportable today records x))
    where
      go : below_all record_key k (listed rest) ≡ true → (is_reportable today records x ≡ true) ⊎ (is_reportable today records x ≡ false) → below_all record_key k (listed (x ∷ rest)) ≡ true
      go again (inl p) =
          subst (λ (l : List Record). below_all record_key k l ≡ true) (sym (listed_here x rest p))
          (below_all-intro record_key k x (listed rest) (below_all-head record_key k x rest h) again)
      go again (inr p) = subst (λ (l : List Record). below_all record_key k l ≡ true) (sym (listed-not x rest p)) again

  pub listed-rises : (rows : List Record) → rising record_key rows ≡ true → rising record_key (listed rows) ≡ true
  listed-rises [] h = subst (λ (l : List Record). rising record_key l ≡ true) (sym listed_nil) (rising-nil record_key)
  listed-rises (x ∷ rest) h = go (listed-rises rest (rising-tail record_key x rest h)) (split (is_reportable today records x))
    where
      go : rising record_key (listed rest) ≡ true → (is_reportable today records x ≡ true) ⊎ (is_reportable today records x ≡ false) → rising record_key (listed (x ∷ rest)) ≡ true
      go again (inl p) =
          subst (λ (l : List Record). rising record_key l ≡ true) (sym (listed_here x rest p))
          (rising-intro record_key x (listed rest) (listed_below (record_key x) rest (rising-head record_key x rest h)) again)
      go again (inr p) = subst (λ (l : List Record). rising record_key l ≡ true) (sym (listed-not x rest p)) again

-- ---- pairs

pub pairs-listed : (rs : List Record) → pairs_of (ids_and_suffixes rs) ≡ map record_key rs
unfolding pairs_of ids_and_suffixes
pairs-listed [] = refl
pairs-listed (r ∷ rest) = ap (λ (l : List Key). record_key r ∷ l) (pairs-listed rest)

pub two-cells-each : (rs : List Record) → length (ids_and_suffixes rs) ≡ 2 * length rs
unfolding ids_and_suffixes
two-cells-each [] = refl
two-cells-each (r ∷ rest) = omega (arith, two-cells-each rest)

pub keys-rise : (rs : List Record) → rising (λ (k : Key). k) (map record_key rs) ≡ rising record_key rs
unfolding rising
keys-rise [] = refl
keys-rise (r ∷ []) = refl
keys-rise (r ∷ s ∷ rest) = ap (λ (b : Bool). below (record_key r) (record_key s) && b) (keys-rise (s ∷ rest))

-- Cells that are pairs and nothing else are told by their pairs.
pub told-by-pairs : (xs ys : List ℤ) → length xs ≡ 2 * length (pairs_of xs) → length ys ≡ 2 * length (pairs_of ys) → pairs_of xs ≡ pairs_of ys → xs ≡ ys
unfolding pairs_of
told-by-pairs [] [] h k e = refl
told-by-pairs [] (c ∷ []) h k e = absurd (omega arith)
told-by-pairs [] (c ∷ d ∷ ys) h k e = let n : 0 ≡ suc (length (pairs_of ys)) = ap (λ (l : List Key). length l) e in absurd (omega arith)
told-by-pairs (a ∷ []) ys h k e = absurd (omega arith)
told-by-pairs (a ∷ b ∷ xs) [] h k e = let n : suc (length (pairs_of xs)) ≡ 0 = ap (λ (l : List Key). length l) e in absurd (omega arith)
told-by-pairs (a ∷ b ∷ xs) (c ∷ []) h k e = absurd (omega arith)
told-by-pairs (a ∷ b ∷ xs) (c ∷ d ∷ ys) h k e =
    let first : key_of a b ≡ key_of c d = ap (λ (l : List Key). get_or l 0 (key_of a b)) e in
    let rest : xs ≡ ys = told-by-pairs xs ys (omega (arith, h)) (omega (arith, k)) (ap (λ (l : List Key). drop 1 l) e) in
    λ i. (first i).major ∷ (first i).minor ∷ rest i
