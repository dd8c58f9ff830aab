-- Rows at suffixes from some suffix of their id on: from the next suffix of each id on they are absent from the table, and they differ from a row before.
-- By induction on the rows. Assumes nothing.
use mathlib.Core.Path.{◌≡◌, sym, ap, subst}
use mathlib.Core.Bool.{Bool, true, not}
use mathlib.Core.List.{List, [], ◌∷◌, ◌++◌}
use lib.IntN.{ℤ, pos, ◌+ℤ◌}
use lib.Signed.{le_z, ◌≤ℤ◌, ◌<ℤ◌}
use Rattle.integers.proofs.Linear.{zarith, +-lin}
use Rattle.integers.proofs.Order.{le_z-le, le-le_z, ≤ℤ-trans}
use Rattle.rules.specs.Keyed.{Key, same}
use Rattle.rules.specs.Rows.{record_key}
use Rattle.rules.specs.declared.Record.{Record}
use Rattle.keys.proofs.Clauses.{all_of-nil}
use Rattle.keys.proofs.Folds.{Only, only-head, only-tail, only-intro, only-append}
use Rattle.keys.proofs.Counts.{distinct, distinct_nil, distinct_head, distinct_tail, distinct-intro, lacks_all, lacks_all-intro}
use Rattle.keys.proofs.KeyOrder.{same-ne}
use Rattle.soundness.proofs.NamedRecord.{next_of, free-from-next}

pub below_next : (z : ℤ) → z <ℤ (z +ℤ pos 1)
below_next z = omega (zarith, +-lin z (pos 1))

-- The suffix is at least a number that the id tells.
unfoldable pub at_least_of : (ℤ → ℤ) → Key → Bool
at_least_of least k = le_z (least k.major) k.minor

pub at_least : (least : ℤ → ℤ) (r : Record) → least r.id ≤ℤ r.suffix → at_least_of least (record_key r) ≡ true
unfolding at_least_of
at_least least r h = le-le_z h

pub is-at-least : (least : ℤ → ℤ) (r : Record) → at_least_of least (record_key r) ≡ true → least r.id ≤ℤ r.suffix
unfolding at_least_of
is-at-least least r h = le_z-le (least r.id) r.suffix h

-- From a greater number on is from a smaller one on.
pub later-weaker : (least lower : ℤ → ℤ) → ((id : ℤ) → lower id ≤ℤ least id) → (rs : List Record) → Only record_key (at_least_of least) rs → Only record_key (at_least_of lower) rs
later-weaker least lower h [] o = all_of-nil
later-weaker least lower h (r ∷ rest) o =
    only-intro record_key (at_least_of lower) r rest
    (at_least lower r (≤ℤ-trans (h r.id) (is-at-least least r (only-head record_key (at_least_of least) r rest o))))
    (later-weaker least lower h rest (only-tail record_key (at_least_of least) r rest o))

pub later-absent : (t rs : List Record) → Only record_key (at_least_of (next_of t)) rs → lacks_all record_key t rs ≡ true
later-absent t [] o = all_of-nil
later-absent t (r ∷ rest) o =
    lacks_all-intro record_key t r rest
    (free-from-next t r.id r.suffix (is-at-least (next_of t) r (only-head record_key (at_least_of (next_of t)) r rest o)))
    (later-absent t rest (only-tail record_key (at_least_of (next_of t)) r rest o))

pub before-differs : (least : ℤ → ℤ) (r : Record) (rs : List Record) → r.suffix <ℤ least r.id → Only record_key (at_least_of least) rs →
    Only record_key (λ (k : Key). not (same (record_key r) k)) rs
before-differs least r [] h o = all_of-nil
before-differs least r (s ∷ rest) h o =
    only-intro record_key (λ (k : Key). not (same (record_key r) k)) s rest
    (ap not (same-ne (record_key r) (record_key s) differ))
    (before-differs least r rest h (only-tail record_key (at_least_of least) s rest o))
  where
    differ : record_key r ≡ record_key s → ⊥
    differ e =
        let a : least s.id ≤ℤ s.suffix = is-at-least least s (only-head record_key (at_least_of least) s rest o) in
        let c : least r.id ≤ℤ r.suffix = subst (λ (k : Key). least k.major ≤ℤ k.minor) (sym e) a in
        omega zarith

-- A last row that differs from all before it.
pub distinct-last : (rs : List Record) (last : Record) → distinct record_key rs ≡ true → Only record_key (λ (k : Key). not (same k (record_key last))) rs →
    distinct record_key (rs ++ (last ∷ [])) ≡ true
distinct-last [] last d o = distinct-intro record_key last [] all_of-nil (distinct_nil record_key)
distinct-last (r ∷ rest) last d o =
    let p : Key → Bool = λ k. not (same (record_key r) k) in
    distinct-intro record_key r (rest ++ (last ∷ []))
    (only-append record_key p rest (last ∷ []) (distinct_head record_key r rest d)
    (only-intro record_key p last [] (only-head record_key (λ (k : Key). not (same k (record_key last))) r rest o) all_of-nil))
    (distinct-last rest last (distinct_tail record_key r rest d) (only-tail record_key (λ (k : Key). not (same k (record_key last))) r rest o))
