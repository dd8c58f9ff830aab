-- An accepted merge on sound books adds nothing to the quantities and its residual to the values, in the sums and in the stored figures of its position. Its sources count before and not afterwards, no two of
-- them the same (test 9); their inverses do not count; the merged record counts, in the named account and series. By induction on the pairs, and by the figures of the merged record. Assumes nothing.
use Prim.Native.Nat.{◌%◌}
use mathlib.Core.Path.{◌≡◌, refl, sym, ◌∙◌, ap, ap₂, subst}
use mathlib.Core.Bool.{Bool, true, false, not, ◌&&◌}
use mathlib.Core.List.{List, [], ◌∷◌, ◌++◌, map}
use lib.Dec.{eqb}
use lib.IntN.{ℤ, pos, ◌+ℤ◌, +ℤ_idl, +ℤ_idr}
use lib.ListN.{length}
use Rattle.rules.specs.Figures.{valid_id, valid_account, valid_series, valid_count, merge_kind}
use Rattle.rules.specs.Keyed.{Key, same}
use Rattle.rules.specs.NamedRecord.{the_record, next_suffix, is_elsewhere, is_not_adjustable}
use Rattle.rules.specs.Rows.{record_key, new_record, adjusted_record, inverse_record, by_residual, moved}
use Rattle.rules.specs.Refusal.{any_of, all_of}
use Rattle.rules.specs.Request.{merge}
use Rattle.rules.specs.Books.{Books, view_of}
use Rattle.rules.specs.Plan.{plan_books}
use Rattle.rules.specs.Handle.{plan_of}
use Rattle.rules.specs.Merge.{Source, pairs_of, valid_pair, merge_figures, sources_of, records_of, is_among, stood_earlier, first_of, times_in, merge_inverses, merged_record, merge_residual, merge_plan}
use Rattle.rules.specs.Totals.{signed_quantity, signed_value, sum_over}
use Rattle.rules.specs.declared.Record.{Record}
use Rattle.rules.specs.declared.Position.{Position}
use Rattle.keys.proofs.Split.{clash, and_left, and_right, or-false-left, or-false-right}
use Rattle.keys.proofs.KeyOrder.{same-sym}
use Rattle.keys.proofs.Clauses.{all_of-nil}
use Rattle.keys.proofs.Folds.{Only, only-intro}
use Rattle.keys.proofs.Counts.{distinct, distinct_nil, distinct-intro}
use Rattle.soundness.specs.SoundBooks.{SoundBooks, Accepts, after}
use Rattle.soundness.proofs.Accepted.{any_of-head, any_of-tail}
use Rattle.soundness.proofs.ReadPosition.{read_at, read-key}
use Rattle.soundness.proofs.NamedRecord.{record_of, adjusted-stands}
use Rattle.soundness.proofs.MergeAccepted.{MergePassed, merge-passed}
use Rattle.soundness.proofs.MergeSources.{records_at, AllNamed, all_named}
use Rattle.soundness.proofs.Merge.{merge-facts}
use Rattle.totals.specs.Replaced.{replaced}
use Rattle.totals.specs.Amounts.{amount_at, amounts_of}
use Rattle.totals.specs.Adds.{Adds}
use Rattle.totals.proofs.Sums.{sum-append}
use Rattle.totals.proofs.LiveSums.{amount-sum, StandsIn, stands-in, live_at, live-figure, no-figure, adjustable-live, named_live, adjusted-gone, inverse-gone}
use Rattle.totals.proofs.Stored.{stored_one}
use Rattle.totals.proofs.EffectsAdd.{effects-add, sum_one, AllLive, sum-all}
use Rattle.totals.proofs.MergedFigures.{merged-quantity, merged_value}

-- ---- records that do not count

all-adjusted : (figure : Record → ℤ) (a s : ℤ) (rs : List Record) → sum_over (live_at figure a s) (map adjusted_record rs) ≡ pos 0
unfolding sum_over
all-adjusted figure a s [] = refl
all-adjusted figure a s (r ∷ rest) = ap₂ (λ (x y : ℤ). x +ℤ y) (no-figure figure a s (adjusted_record r) (adjusted-gone r)) (all-adjusted figure a s rest)

all-inverse : (figure : Record → ℤ) (a s today into : ℤ) (earlier : List ℤ) (sources : List Source) → sum_over (live_at figure a s) (merge_inverses today into earlier sources) ≡ pos 0
unfolding sum_over merge_inverses
all-inverse figure a s today into earlier [] = refl
all-inverse figure a s today into earlier (x ∷ rest) =
    let r : Record = the_record x.found in
    let suffix : ℤ = next_suffix x.greatest +ℤ times_in earlier x.pair.major in
    ap₂ (λ (y z : ℤ). y +ℤ z)
    (no-figure figure a s (inverse_record today r suffix merge_kind (pos 0) (pos 0) into) (inverse-gone today r suffix merge_kind (pos 0) (pos 0) into))
    (all-inverse figure a s today into (x.pair.major ∷ earlier) rest)

-- ---- the sources

-- Each counts, in the named account and series.
sources-live : (account series : ℤ) (rs : List Record) → any_of (map (is_elsewhere account series) rs) ≡ false → any_of (map is_not_adjustable rs) ≡ false → AllLive account series rs
sources-live account series [] here status-zero = tt
sources-live account series (r ∷ rest) here status-zero =
    let stands : StandsIn account series r = stands-in account series r (any_of-head (is_elsewhere account series r) (map (is_elsewhere account series) rest) here) in (
      named_live r (any_of-head (is_not_adjustable r) (map is_not_adjustable rest) status-zero),
      stands.same-account,
      stands.same-series,
      sources-live account series rest (any_of-tail (is_elsewhere account series r) (map (is_elsewhere account series) rest) here)
          (any_of-tail (is_not_adjustable r) (map is_not_adjustable rest) status-zero),
    )

module _ (b : Books) where
  abbrev t : List Record
  t = b.records

  -- They are what their new versions replace.
  sources-replaced : (ks : List Key) → AllNamed t ks → replaced t (map adjusted_record (records_at b ks)) ≡ records_at b ks
  unfolding replaced sources_of records_of view_of the_record
  sources-replaced [] n = refl
  sources-replaced (k ∷ ks) n =
      ap₂ (λ (r : Record) (rest : List Record). r ∷ rest) (ap the_record (adjusted-stands t k n.0)) (sources-replaced ks n.1)

  -- A key that stood earlier is no source's.
  apart : (k : Key) (ks : List Key) → AllNamed t ks → (earlier : List Key) → ((j : Key) → is_among j earlier ≡ false → same j k ≡ false) →
      any_of (stood_earlier earlier (sources_of (view_of b) ks)) ≡ false → Only record_key (λ (j : Key). not (same k j)) (map adjusted_record (records_at b ks))
  unfolding sources_of records_of view_of stood_earlier is_among adjusted_record
  apart k [] n earlier stood h = all_of-nil
  apart k (j ∷ ks) n earlier stood h =
      let r : Record = record_of t j in
      let later : List Key = j ∷ earlier in
      let differs : same k (record_key r) ≡ false =
      ap (same k) n.0.key ∙ same-sym k j ∙ stood j (any_of-head (is_among j earlier) (stood_earlier later (sources_of (view_of b) ks)) h) in
      only-intro record_key (λ (x : Key). not (same k x)) (adjusted_record r) (map adjusted_record (records_at b ks)) (ap not differs)
      (apart k ks n.1 later (λ x e. stood x (or-false-right (same x j) (is_among x earlier) e))
      (any_of-tail (is_among j earlier) (stood_earlier later (sources_of (view_of b) ks)) h))

  -- No two of them have the same key: test 9.
  pub sources-once : (ks : List Key) → AllNamed t ks → (earlier : List Key) → any_of (stood_earlier earlier (sources_of (view_of b) ks)) ≡ false →
      distinct record_key (map adjusted_record (records_at b ks)) ≡ true
  unfolding sources_of records_of view_of stood_earlier is_among adjusted_record
  sources-once [] n earlier h = distinct_nil record_key
  sources-once (k ∷ ks) n earlier h =
      let r : Record = record_of t k in
      let later : List Key = k ∷ earlier in
      let rest : any_of (stood_earlier later (sources_of (view_of b) ks)) ≡ false = any_of-tail (is_among k earlier) (stood_earlier later (sources_of (view_of b) ks)) h in
      distinct-intro record_key (adjusted_record r) (map adjusted_record (records_at b ks))
      (subst (λ (x : Key). Only record_key (λ (j : Key). not (same x j)) (map adjusted_record (records_at b ks))) (sym n.0.key)
      (apart k ks n.1 later (λ x e. or-false-left (same x k) (is_among x earlier) e) rest))
      (sources-once ks n.1 later rest)

  -- There is a source, and the first gives the merged record its account and series.
  first-stands : (account series : ℤ) (ks : List Key) → valid_count (length ks) ≡ true → AllLive account series (records_at b ks) → StandsIn account series (first_of (records_at b ks))
  unfolding sources_of records_of first_of valid_count
  first-stands account series [] count live = clash count refl
  first-stands account series (k ∷ ks) count live = record { same-account = live.1; same-series = live.2 }

count-valid : (id account series : ℤ) (pairs : List ℤ) → merge_figures id account series pairs ≡ true → valid_count (length (pairs_of pairs)) ≡ true
unfolding merge_figures
count-valid id account series pairs h =
    let figures : Bool = valid_id id && valid_account account && valid_series series && eqb (length pairs % 2) 0 in
    let count : Bool = valid_count (length (pairs_of pairs)) in
    and_right figures count (and_left (figures && count) (all_of (map valid_pair (pairs_of pairs))) h)

-- ---- the request

module _ (b : Books) (sound : SoundBooks b) (id account series : ℤ) (pairs : List ℤ) (accepted : Accepts b (merge id account series pairs)) where
  abbrev ks : List Key
  ks = pairs_of pairs

  abbrev rs : List Record
  rs = records_at b ks

  abbrev merged : Record
  merged = merged_record b.day id rs

  abbrev inverses : List Record
  inverses = merge_inverses b.day id [] (sources_of (view_of b) ks)

  passed : MergePassed id account series pairs ((view_of b).greatest_suffix id) (sources_of (view_of b) ks)
  passed = merge-passed b id account series pairs accepted

  all : AllNamed b.records ks
  all = all_named b ks sound.records-sound passed.sources-found passed.sources-adjustable

  live : AllLive account series rs
  live = sources-live account series rs passed.sources-here passed.sources-adjustable

  pub merge-once : distinct record_key (map adjusted_record rs) ≡ true
  merge-once = sources-once b ks all [] passed.sources-differ

  module _ (a s : ℤ) where
    merged-figure : (figure : Record → ℤ) → live_at figure a s merged ≡ amount_at account series (figure merged) a s
    unfolding merged_record new_record
    merged-figure figure =
        let first : StandsIn account series (first_of rs) = first-stands b account series ks (count-valid id account series pairs passed.figures) live in
        live-figure figure a s merged (adjustable-live merged refl) ∙ ap₂ (λ (x y : ℤ). amount_at x y (figure merged) a s) first.same-account first.same-series

    -- Of a figure that the merged record has as its sources together, but for an amount.
    merges : (figure : Record → ℤ) (amount : ℤ) → figure merged ≡ sum_over figure rs +ℤ amount →
        sum_over (live_at figure a s) (map adjusted_record rs) +ℤ sum_over (live_at figure a s) (inverses ++ (merged ∷ []))
        ≡ sum_over (live_at figure a s) (replaced b.records (map adjusted_record rs)) +ℤ amount_at account series amount a s
    merges figure amount h =
        let there : ℤ = amount_at account series (figure merged) a s in
        let added : sum_over (live_at figure a s) (inverses ++ (merged ∷ [])) ≡ there =
        sum-append (live_at figure a s) inverses (merged ∷ [])
        ∙ ap₂ (λ (x y : ℤ). x +ℤ y) (all-inverse figure a s b.day id [] (sources_of (view_of b) ks)) (sum_one (live_at figure a s) merged ∙ merged-figure figure)
        ∙ +ℤ_idl there in
        ap₂ (λ (x y : ℤ). x +ℤ y) (all-adjusted figure a s rs) added
        ∙ +ℤ_idl there
        ∙ ap (λ (z : ℤ). amount_at account series z a s) h
        ∙ sym (amount-sum account series a s (sum_over figure rs) amount)
        ∙ ap (λ (z : ℤ). z +ℤ amount_at account series amount a s)
        (sym (ap (sum_over (live_at figure a s)) (sources-replaced b ks all) ∙ sum-all figure account series a s rs live))

    pub merge-adds : Adds b (after b (merge id account series pairs)) a s (amounts_of (view_of b) (merge id account series pairs) a s)
    unfolding plan_of merge_plan plan_books view_of amounts_of moved
    merge-adds =
        let new : Position = moved (read_at account series b.positions) (by_residual (merge_residual rs)) in
        effects-add b sound _ (merge-facts b sound id account series pairs accepted) merge-once a s _
        (merges signed_quantity (pos 0) (merged-quantity b.day id rs passed.sources-on-one-side ∙ sym (+ℤ_idr (sum_over signed_quantity rs))))
        (merges signed_value (merge_residual rs) (merged_value b.day id rs passed.sources-on-one-side))
        (stored_one (λ (p : Position). p.quantity) account series new b.positions (pos 0) (read-key account series b.positions) refl a s)
        (stored_one (λ (p : Position). p.value) account series new b.positions (merge_residual rs) (read-key account series b.positions) refl a s)
