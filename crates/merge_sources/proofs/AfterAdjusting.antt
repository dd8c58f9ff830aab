-- The sources of a merge after they are adjusted: all are found as before, and their inverses are the same rows, since an inverse shows no status. By
-- induction on the pairs. Assumes nothing.
use Prim.Native.Nat.{◌/◌}
use native.Mathlib.Omega.{arith}
use mathlib.Core.Path.{◌≡◌, refl, sym, ◌∙◌, ap}
use mathlib.Core.Bool.{Bool, true, not}
use mathlib.Core.List.{List, [], ◌∷◌, map}
use lib.IntN.{ℤ, pos, ◌+ℤ◌}
use lib.ListN.{length}
use lib.Seq.{ext_get_or}
use Rattle.rules.specs.Figures.{merge_kind}
use Rattle.rules.specs.Keyed.{Key, find}
use Rattle.rules.specs.Rows.{record_key, inverse_record}
use Rattle.rules.specs.NamedRecord.{no_record}
use Rattle.rules.specs.Refusal.{any_of}
use Rattle.rules.specs.Layout.{rows_of}
use Rattle.rules.specs.Tables.{records_layout}
use Rattle.rules.specs.Merge.{Source, pairs_of, is_missing, merge_inverses}
use Rattle.rules.specs.declared.Record.{Record}
use Rattle.soundness.proofs.NamedRecord.{record_of}
use Rattle.merge_sources.specs.Sources.{sources_in, all_found}
use Rattle.merge_sources.specs.Pairs.{pair_at, times_earlier}
use Rattle.merge_sources.proofs.SourceList.{source_of, sources-map, source-count}
use Rattle.merge_sources.proofs.Inverses.{inverse-count, inverse-at}
use Rattle.merge_sources.proofs.Settled.{settled, stands_alike, next-alike, inverse-alike}

-- Cells whose rows agree with these but for the status.
module _ (cells after pairs : List ℤ)
    (alike : (k : Key) → settled (find record_key k (rows_of records_layout after)) ≡ settled (find record_key k (rows_of records_layout cells))) where
  abbrev t : List Record
  t = rows_of records_layout cells

  abbrev u : List Record
  u = rows_of records_layout after

  missing-alike : (ks : List Key) → map is_missing (map (source_of u) ks) ≡ map is_missing (map (source_of t) ks)
  unfolding is_missing
  missing-alike [] = refl
  missing-alike (k ∷ rest) = λ i. not (stands_alike t u alike k i) ∷ missing-alike rest i

  pub found_alike : all_found cells pairs ≡ true → all_found after pairs ≡ true
  unfolding sources_in
  found_alike all =
      ap (λ (ss : List Source). not (any_of (map is_missing ss))) (sources-map u (pairs_of pairs))
      ∙ ap (λ (bs : List Bool). not (any_of bs)) (missing-alike (pairs_of pairs))
      ∙ ap (λ (ss : List Source). not (any_of (map is_missing ss))) (sym (sources-map t (pairs_of pairs)))
      ∙ all

  pub inverses-alike : (today into : ℤ) → merge_inverses today into [] (sources_in after pairs) ≡ merge_inverses today into [] (sources_in cells pairs)
  inverses-alike today into =
      ext_get_or no_record (merge_inverses today into [] (sources_in after pairs)) (merge_inverses today into [] (sources_in cells pairs))
      (many after ∙ sym (many cells))
      (λ i h.
      inverse-at today into after pairs i no_record (omega (arith, many after))
      ∙ ap (λ (z : ℤ). inverse_record today (record_of u (pair_at pairs i)) (z +ℤ times_earlier pairs i) merge_kind (pos 0) (pos 0) into) (next-alike t u alike (pair_at pairs i).major)
      ∙ inverse-alike t u alike today (pair_at pairs i) _ merge_kind (pos 0) (pos 0) into
      ∙ sym (inverse-at today into cells pairs i no_record (omega (arith, many after))))
    where
      many : (xs : List ℤ) → length (merge_inverses today into [] (sources_in xs pairs)) ≡ length pairs / 2
      many xs = inverse-count today into [] (sources_in xs pairs) ∙ source-count xs pairs
