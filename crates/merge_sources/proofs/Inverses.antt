-- The inverse rows of a merge, place by place, and test 13: the suffixes that they would need do not depend on the new id, and the merged row has suffix 0.
-- By induction on the sources. Assumes nothing.
use Prim.Native.Nat.{ℕ, ◌/◌, ◌<◌}
use native.Mathlib.Omega.{arith}
use mathlib.Core.Path.{◌≡◌, refl, sym, ◌∙◌, ap}
use mathlib.Core.Bool.{Bool, false, ◌||◌}
use mathlib.Core.List.{List, [], ◌∷◌, ◌++◌, map}
use lib.IntN.{ℤ, pos, ◌+ℤ◌}
use lib.ListN.{length, get_or, length-map}
use lib.Signed.{lt_z}
use Rattle.rules.specs.Figures.{greatest_of_suffixes, merge_kind}
use Rattle.rules.specs.Rows.{inverse_record, new_record}
use Rattle.rules.specs.NamedRecord.{no_record, the_record, next_suffix}
use Rattle.rules.specs.Refusal.{any_of}
use Rattle.rules.specs.Plan.{suffix_is_above}
use Rattle.rules.specs.Layout.{rows_of}
use Rattle.rules.specs.Tables.{records_layout}
use Rattle.rules.specs.Merge.{Source, times_in, merge_inverses, merged_record}
use Rattle.rules.specs.declared.Record.{Record}
use Rattle.soundness.proofs.NamedRecord.{record_of, next_of}
use Rattle.merge_sources.specs.Sources.{sources_in}
use Rattle.merge_sources.specs.Pairs.{pair_at, earlier_ids, times_earlier}
use Rattle.merge_sources.proofs.Threaded.{threaded, length-threaded, threaded-at}
use Rattle.merge_sources.proofs.SourceList.{map_at, source_of, source-count, source-at}

inverse_of : (today into : ℤ) → List ℤ → Source → Record
inverse_of today into earlier s =
    inverse_record today (the_record s.found) (next_suffix s.greatest +ℤ times_in earlier s.pair.major) merge_kind (pos 0) (pos 0) into

abbrev id_of : Source → ℤ
id_of s = s.pair.major

inverses-threaded : (today into : ℤ) (earlier : List ℤ) (sources : List Source) → merge_inverses today into earlier sources ≡ threaded (inverse_of today into) id_of earlier sources
unfolding merge_inverses inverse_of
inverses-threaded today into earlier [] = refl
inverses-threaded today into earlier (s ∷ rest) = ap (λ (l : List Record). inverse_of today into earlier s ∷ l) (inverses-threaded today into (s.pair.major ∷ earlier) rest)

pub inverse-count : (today into : ℤ) (earlier : List ℤ) (sources : List Source) → length (merge_inverses today into earlier sources) ≡ length sources
inverse-count today into earlier sources =
    ap (λ (l : List Record). length l) (inverses-threaded today into earlier sources) ∙ length-threaded (inverse_of today into) id_of earlier sources

-- ---- at a place

-- The inverse of the source at a place, by the rows of the table.
abbrev pub inverse_at : (today into : ℤ) → List Record → List ℤ → ℕ → Record
inverse_at today into rows pairs i =
    inverse_record today (record_of rows (pair_at pairs i)) (next_of rows (pair_at pairs i).major +ℤ times_earlier pairs i) merge_kind (pos 0) (pos 0) into

module _ (today into : ℤ) (cells pairs : List ℤ) where
  pub inverse-at : (i : ℕ) (other : Record) → i < length pairs / 2 →
      get_or (merge_inverses today into [] (sources_in cells pairs)) i other ≡ inverse_at today into (rows_of records_layout cells) pairs i
  unfolding earlier_ids times_earlier inverse_of
  inverse-at i other h =
      let s : Source = source_of (rows_of records_layout cells) (pair_at pairs i) in
      ap (λ (l : List Record). get_or l i other) (inverses-threaded today into [] (sources_in cells pairs))
      ∙ threaded-at (inverse_of today into) id_of (sources_in cells pairs) (earlier_ids pairs) i s other
      (λ j k. ap (λ (x : Source). id_of x ∷ earlier_ids pairs j) (sym (source-at cells pairs j (omega (arith, source-count cells pairs)) s)))
      (omega (arith, source-count cells pairs))
      ∙ ap (λ (x : Source). inverse_of today into (earlier_ids pairs i) x) (source-at cells pairs i h s)

-- ---- test 13

suffixes-alike : (today into today' other : ℤ) (earlier : List ℤ) (sources : List Source) →
    map suffix_is_above (merge_inverses today into earlier sources) ≡ map suffix_is_above (merge_inverses today' other earlier sources)
unfolding merge_inverses inverse_record suffix_is_above
suffixes-alike today into today' other earlier [] = refl
suffixes-alike today into today' other earlier (s ∷ rest) =
    ap (λ (l : List Bool). lt_z greatest_of_suffixes (next_suffix s.greatest +ℤ times_in earlier s.pair.major) ∷ l) (suffixes-alike today into today' other (s.pair.major ∷ earlier) rest)

any_last : (rs : List Record) (last : Record) → suffix_is_above last ≡ false → any_of (map suffix_is_above (rs ++ (last ∷ []))) ≡ any_of (map suffix_is_above rs)
unfolding any_of
any_last [] last e = rw e
any_last (r ∷ rest) last e = ap (λ (b : Bool). suffix_is_above r || b) (any_last rest last e)

merged-suffix : (today id : ℤ) (rs : List Record) → suffix_is_above (merged_record today id rs) ≡ false
unfolding merged_record new_record suffix_is_above
merged-suffix today id rs = refl

pub suffixes-above : (today id : ℤ) (rs : List Record) (sources : List Source) →
    any_of (map suffix_is_above (merge_inverses today id [] sources ++ (merged_record today id rs ∷ []))) ≡ any_of (map suffix_is_above (merge_inverses (pos 0) (pos 0) [] sources))
suffixes-above today id rs sources =
    any_last (merge_inverses today id [] sources) (merged_record today id rs) (merged-suffix today id rs) ∙ ap any_of (suffixes-alike today id (pos 0) (pos 0) [] sources)

-- The test of each source's inverse.
abbrev pub above : List ℤ → List ℤ → List Bool
above cells pairs = map suffix_is_above (merge_inverses (pos 0) (pos 0) [] (sources_in cells pairs))

pub suffix-count : (cells pairs : List ℤ) → length (above cells pairs) ≡ length pairs / 2
suffix-count cells pairs =
    length-map (merge_inverses (pos 0) (pos 0) [] (sources_in cells pairs)) suffix_is_above ∙ inverse-count (pos 0) (pos 0) [] (sources_in cells pairs) ∙ source-count cells pairs

pub suffix-at : (cells pairs : List ℤ) (i : ℕ) → i < length pairs / 2 →
    get_or (above cells pairs) i false
    ≡ lt_z greatest_of_suffixes (next_of (rows_of records_layout cells) (pair_at pairs i).major +ℤ times_earlier pairs i)
unfolding suffix_is_above inverse_record
suffix-at cells pairs i h =
    map_at suffix_is_above (merge_inverses (pos 0) (pos 0) [] (sources_in cells pairs)) i no_record false
    (omega (arith, inverse-count (pos 0) (pos 0) [] (sources_in cells pairs), source-count cells pairs))
    ∙ ap suffix_is_above (inverse-at (pos 0) (pos 0) cells pairs i no_record h)
