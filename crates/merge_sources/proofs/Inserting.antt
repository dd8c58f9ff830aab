-- The inverses of a merge's sources inserted in turn: each source is found as at the start, its id's next suffix is the one at the start and one more for each
-- earlier source of that id, and the new row's key is absent. By induction on the place. Assumes nothing.
use Prim.Native.Nat.{ℕ, zero, suc, ◌+◌, ◌/◌, ◌≤◌, ◌<◌}
use native.Mathlib.Numerals.{add-one}
use native.Mathlib.Omega.{arith}
use mathlib.Core.Path.{◌≡◌, refl, sym, ◌∙◌, ap, subst}
use mathlib.Core.Bool.{Bool, true, false, not, cond}
use mathlib.Core.List.{List, []}
use mathlib.Core.Logic.{◌⊎◌, inl, inr}
use mathlib.Core.Option.{Option, none, some}
use lib.IntN.{ℤ, pos, ◌+ℤ◌}
use lib.ListN.{length, take}
use lib.Signed.{◌≤ℤ◌, ≤ℤ_refl}
use Rattle.integers.specs.Order.{eq_z}
use Rattle.integers.proofs.Linear.{zarith, +-lin}
use Rattle.integers.proofs.Parts.{eq_z-true}
use Rattle.rules.specs.Keyed.{Key, is_some, find, upsert, upsert_all}
use Rattle.rules.specs.Rows.{record_key, inverse_record}
use Rattle.rules.specs.NamedRecord.{no_record, next_suffix}
use Rattle.rules.specs.Layout.{rows_of}
use Rattle.rules.specs.Tables.{records_layout}
use Rattle.rules.specs.Merge.{times_in, merge_inverses}
use Rattle.rules.specs.declared.Record.{Record}
use Rattle.keys.proofs.Split.{split, cond-true, cond-false}
use Rattle.keys.proofs.Clauses.{is_some-none, is_some-some}
use Rattle.keys.proofs.Lookup.{greatest-upsert-other}
use Rattle.keys.proofs.Rising.{upsert-adds}
use Rattle.keys.proofs.Folds.{find-upsert_all-other}
use Rattle.soundness.proofs.NamedRecord.{record_of, next_of, free-from-next}
use Rattle.merge_sources.specs.Sources.{sources_in, all_found}
use Rattle.merge_sources.specs.Pairs.{pair_at, earlier_ids, times_earlier}
use Rattle.merge_sources.proofs.SourceList.{source-count, source-found}
use Rattle.merge_sources.proofs.Earlier.{times_none, times_more, times-earlier, times-range}
use Rattle.merge_sources.proofs.Inverses.{inverse_at, inverse-count, inverse-at}
use Rattle.merge_sources.proofs.InTurn.{put-none, put-one-more, only-first}
use Rattle.merge_sources.proofs.Settled.{next-raised}
use Rattle.merge_sources.proofs.Adjusting.{source-key}

-- A row put at its id's next suffix raises that one and no other.
next-with : (t : List Record) (r : Record) (id m : ℤ) → r.id ≡ id → r.suffix ≡ next_of t id → next_of (upsert record_key r t) m ≡ next_of t m +ℤ cond (eq_z id m) (pos 1) (pos 0)
next-with t r id m i e = go (split (eq_z id m))
  where
    n : ℤ
    n = next_of t m

    raised : id ≡ m → next_of (upsert record_key r t) m ≡ n +ℤ pos 1
    raised p = subst (λ (x : ℤ). next_of (upsert record_key r t) x ≡ next_of t x +ℤ pos 1) (i ∙ p) (next-raised t r (e ∙ ap (λ (x : ℤ). next_of t x) (sym i)))

    go : (eq_z id m ≡ true) ⊎ (eq_z id m ≡ false) → next_of (upsert record_key r t) m ≡ n +ℤ cond (eq_z id m) (pos 1) (pos 0)
    go (inl h) = raised (eq_z-true id m h) ∙ ap (λ (z : ℤ). n +ℤ z) (sym (cond-true (pos 1) (pos 0) h))
    go (inr h) =
        ap next_suffix (greatest-upsert-other record_key m r t (ap (λ (x : ℤ). eq_z x m) i ∙ h)) ∙ omega (zarith, +-lin n (pos 0))
        ∙ ap (λ (z : ℤ). n +ℤ z) (sym (cond-false (pos 1) (pos 0) h))

-- The rows with the inverses of the first so many sources.
abbrev pub rows_inverted : (today into : ℤ) → List ℤ → List ℤ → ℕ → List Record
rows_inverted today into cells pairs i = upsert_all record_key (take i (merge_inverses today into [] (sources_in cells pairs))) (rows_of records_layout cells)

module _ (today into : ℤ) (cells pairs : List ℤ) (all : all_found cells pairs ≡ true) where
  abbrev rows : List Record
  rows = rows_of records_layout cells

  abbrev so_far : ℕ → List Record
  so_far = rows_inverted today into cells pairs

  abbrev inverses : List Record
  inverses = merge_inverses today into [] (sources_in cells pairs)

  pub inverses-count : length inverses ≡ length pairs / 2
  inverses-count = inverse-count today into [] (sources_in cells pairs) ∙ source-count cells pairs

  -- ---- the row at a place

  pub inverse-id : (i : ℕ) → i < length pairs / 2 → (inverse_at today into rows pairs i).id ≡ (pair_at pairs i).major
  unfolding inverse_record
  inverse-id i h = ap (λ (k : Key). k.major) (source-key cells pairs all i h)

  pub inverse-suffix : (i : ℕ) → (inverse_at today into rows pairs i).suffix ≡ next_of rows (pair_at pairs i).major +ℤ times_earlier pairs i
  unfolding inverse_record
  inverse-suffix i = refl

  -- Its key is absent at the start.
  absent-first : (i : ℕ) → i < length pairs / 2 → find record_key (record_key (inverse_at today into rows pairs i)) rows ≡ none
  absent-first i h =
      let m : ℤ = (pair_at pairs i).major in
      let low : pos 0 ≤ℤ times_earlier pairs i = subst (λ (z : ℤ). pos 0 ≤ℤ z) (sym (times-earlier pairs i)) (times-range pairs i m).0 in
      let above : next_of rows m ≤ℤ (next_of rows m +ℤ times_earlier pairs i) = omega (zarith, +-lin (next_of rows m) (times_earlier pairs i)) in
      let reached : next_of rows (inverse_at today into rows pairs i).id ≤ℤ (inverse_at today into rows pairs i).suffix =
      rw (inverse-id i h, inverse-suffix i) above in
      free-from-next rows (inverse_at today into rows pairs i).id (inverse_at today into rows pairs i).suffix reached

  -- ---- while they are inserted

  pub inverted-none : so_far 0 ≡ rows
  inverted-none = put-none record_key inverses rows

  pub inverted-more : (i : ℕ) → i < length pairs / 2 → so_far (i + 1) ≡ upsert record_key (inverse_at today into rows pairs i) (so_far i)
  inverted-more i h =
      put-one-more record_key inverses rows i no_record (omega (arith, inverses-count))
      ∙ ap (λ (r : Record). upsert record_key r (so_far i)) (inverse-at today into cells pairs i no_record h)

  -- The next suffix of every id, and of the source's.
  next-so-far : (i : ℕ) (m : ℤ) → i ≤ length pairs / 2 → next_of (so_far i) m ≡ next_of rows m +ℤ times_in (earlier_ids pairs i) m
  next-so-far zero m h =
      let n : ℤ = next_of rows m in
      ap (λ (t : List Record). next_of t m) inverted-none ∙ omega (zarith, +-lin n (pos 0)) ∙ ap (λ (z : ℤ). n +ℤ z) (sym (times_none pairs m))
  next-so-far (suc i) m h =
      let here : i < length pairs / 2 = omega arith in
      let id : ℤ = (pair_at pairs i).major in
      let n : ℤ = next_of rows m in
      let times : ℤ = times_in (earlier_ids pairs i) m in
      let one : ℤ = cond (eq_z id m) (pos 1) (pos 0) in
      ap (λ (t : List Record). next_of t m) (ap so_far (sym (add-one i)) ∙ inverted-more i here)
      ∙ next-with (so_far i) (inverse_at today into rows pairs i) id m (inverse-id i here)
      (inverse-suffix i ∙ ap (λ (z : ℤ). next_of rows id +ℤ z) (times-earlier pairs i) ∙ sym (next-so-far i id (omega arith)))
      ∙ ap (λ (z : ℤ). z +ℤ one) (next-so-far i m (omega arith))
      ∙ omega (zarith, +-lin (n +ℤ times) one, +-lin n times, +-lin n (one +ℤ times), +-lin one times)
      ∙ ap (λ (z : ℤ). n +ℤ z) (sym (times_more pairs i m))

  module _ (i : ℕ) (h : i < length pairs / 2) where
    pub next-by-now : next_of (so_far i) (pair_at pairs i).major ≡ next_of rows (pair_at pairs i).major +ℤ times_earlier pairs i
    next-by-now = next-so-far i (pair_at pairs i).major (omega arith) ∙ ap (λ (z : ℤ). next_of rows (pair_at pairs i).major +ℤ z) (sym (times-earlier pairs i))

    pub inverse-absent : find record_key (record_key (inverse_at today into rows pairs i)) (so_far i) ≡ none
    inverse-absent =
        let r : Record = inverse_at today into rows pairs i in
        let id : ℤ = (pair_at pairs i).major in
        free-from-next (so_far i) r.id r.suffix
        (rw (inverse-id i h) (subst (λ (z : ℤ). next_of (so_far i) id ≤ℤ z) (next-by-now ∙ sym (inverse-suffix i)) (≤ℤ_refl (next_of (so_far i) id))))

    pub found-by-now : find record_key (pair_at pairs i) (so_far i) ≡ some (record_of rows (pair_at pairs i))
    found-by-now =
        let lacks : Key → Bool = λ k. not (is_some (find record_key k rows)) in
        find-upsert_all-other record_key lacks (pair_at pairs i) (take i inverses) rows
        (only-first record_key lacks inverses i no_record (omega (arith, inverses-count))
        (λ j k. ap (λ (r : Record). lacks (record_key r)) (inverse-at today into cells pairs j no_record (omega arith))
        ∙ ap (λ (o : Option Record). not (is_some o)) (absent-first j (omega arith)) ∙ ap not (is_some-none Record)))
        (ap (λ (o : Option Record). not (is_some o)) (source-found cells pairs i h all) ∙ ap not (is_some-some (record_of rows (pair_at pairs i))))
        ∙ source-found cells pairs i h all

  pub inverted-length : (i : ℕ) → i ≤ length pairs / 2 → length (so_far i) ≡ length rows + i
  inverted-length zero h = ap (λ (t : List Record). length t) inverted-none ∙ omega arith
  inverted-length (suc i) h =
      let again : length (so_far i) ≡ length rows + i = inverted-length i (omega arith) in
      ap (λ (t : List Record). length t) (ap so_far (sym (add-one i)) ∙ inverted-more i (omega arith))
      ∙ upsert-adds record_key (inverse_at today into rows pairs i) (so_far i) (inverse-absent i (omega arith))
      ∙ omega arith
