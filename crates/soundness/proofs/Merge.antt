-- An accepted merge on sound books: its sources stand and stay sound; its inverse rows and the merged row are new, differ and are sound. The merged
-- quantity is positive, there being a source, and at most the greatest (test 11); the average is within the prices. Assumes nothing.
use Prim.Native.Nat.{ℕ, ◌%◌, ◌≤◌}
use mathlib.Core.Path.{◌≡◌, refl, ap}
use mathlib.Core.Bool.{Bool, true, false, not, ◌&&◌}
use mathlib.Core.List.{List, [], ◌∷◌, ◌++◌, map}
use native.Mathlib.Omega.{arith}
use borrow.Author.Tests.{leb-true}
use lib.Dec.{leb, eqb}
use lib.IntN.{ℤ, pos}
use lib.ListN.{length, length-append}
use lib.Signed.{◌≤ℤ◌}
use Rattle.integers.specs.Average.{average_of}
use Rattle.integers.specs.Order.{eq_z}
use Rattle.integers.proofs.Linear.{zarith, +-lin}
use Rattle.integers.proofs.AverageLaws.{average-bound}
use Rattle.rules.specs.Figures.{valid_id, valid_account, valid_series, valid_count, most_quantity, merge_kind}
use Rattle.rules.specs.Keyed.{Key, is_some, find, greatest}
use Rattle.rules.specs.Rows.{record_key, position_key, new_record, by_residual, moved, sound_record, valid_into}
use Rattle.rules.specs.Refusal.{all_of, any_of}
use Rattle.rules.specs.Request.{merge}
use Rattle.rules.specs.Books.{Books, view_of}
use Rattle.rules.specs.Handle.{plan_of}
use Rattle.rules.specs.Plan.{suffix_is_above}
use Rattle.rules.specs.Merge.{pairs_of, valid_pair, merge_figures, sources_of, records_of, first_of, sum_of_quantities, sum_of_values, merged_record, merge_residual, merge_plan}
use Rattle.rules.specs.Tables.{day_within}
use Rattle.rules.specs.declared.Record.{Record}
use Rattle.keys.proofs.Split.{and_left, and_right, or_right}
use Rattle.keys.proofs.Clauses.{all_of-nil, all_of-intro}
use Rattle.keys.proofs.Greatest.{greatest-none}
use Rattle.keys.proofs.Folds.{only-append}
use Rattle.keys.proofs.Counts.{distinct_nil, distinct-intro, lacks_all-intro}
use Rattle.soundness.specs.SoundBooks.{SoundBooks, plan_on, Accepts}
use Rattle.soundness.proofs.Accepted.{booking-passed, any_of-first, all_of-append}
use Rattle.soundness.proofs.ReadPosition.{read_at}
use Rattle.soundness.proofs.FigureRanges.{in-price}
use Rattle.soundness.proofs.SoundRows.{nothing-booked, new-sound}
use Rattle.soundness.proofs.NamedRecord.{record_of, next_of}
use Rattle.soundness.proofs.LaterRows.{later-weaker, later-absent, distinct-last}
use Rattle.soundness.proofs.Days.{today-range, new-within}
use Rattle.soundness.proofs.BookingFacts.{PlanFacts}
use Rattle.soundness.proofs.MergeAccepted.{MergePassed, merge-passed}
use Rattle.soundness.proofs.MergeSources.{records_at, AllNamed, all_named, sources-present, sources-sound, sources-days, sums}
use Rattle.soundness.proofs.MergeInverses.{next_after, next-after, merge-kind, inverses_of, inverses-count, inverses-later, inverses-differ, inverses-apart, inverses-sound, inverses-days}

-- ---- figures

id-valid : (id account series : ℤ) (pairs : List ℤ) → merge_figures id account series pairs ≡ true → valid_id id ≡ true
unfolding merge_figures
id-valid id account series pairs h =
    let a : Bool = valid_account account in
    let s : Bool = valid_series series in
    let e : Bool = eqb (length pairs % 2) 0 in
    let c : Bool = valid_count (length (pairs_of pairs)) in
    let v : Bool = all_of (map valid_pair (pairs_of pairs)) in
    let i : Bool = valid_id id in
    and_left i a (and_left (i && a) s (and_left (i && a && s) e (and_left (i && a && s && e) c (and_left (i && a && s && e && c) v h))))

sources-several : (id account series : ℤ) (pairs : List ℤ) → merge_figures id account series pairs ≡ true → 2 ≤ length (pairs_of pairs)
unfolding merge_figures valid_count
sources-several id account series pairs h =
    let f : Bool = valid_id id && valid_account account && valid_series series && eqb (length pairs % 2) 0 in
    let n : ℕ = length (pairs_of pairs) in
    let c : Bool = leb 2 n && leb n 1000 in
    let v : Bool = all_of (map valid_pair (pairs_of pairs)) in
    leb-true 2 n (and_left (leb 2 n) (leb n 1000) (and_right f c (and_left (f && c) v h)))

-- ---- the merged row

merged-sound : (b : Books) (id : ℤ) (ks : List Key) → AllNamed b.records ks → 2 ≤ length ks → valid_id id ≡ true → sum_of_quantities (records_at b ks) ≤ℤ pos most_quantity →
    sound_record (merged_record b.day id (records_at b ks)) ≡ true
unfolding merged_record first_of records_of sources_of view_of sum_of_quantities
merged-sound b id [] n h i m = absurd (omega arith)
merged-sound b id (k ∷ ks) n h i m =
    let r : Record = record_of b.records k in
    let q : ℤ = sum_of_quantities (records_at b (k ∷ ks)) in
    let v : ℤ = sum_of_values (records_at b (k ∷ ks)) in
    let one : pos 1 ≤ℤ r.quantity = n.0.positive in
    let others : pos 0 ≤ℤ sum_of_quantities (records_at b ks) = (sums b ks n.1).not_negative in
    let low : pos 1 ≤ℤ q = omega (zarith, +-lin r.quantity (sum_of_quantities (records_at b ks))) in
    new-sound b.day id merge_kind r.account r.series r.side q (average_of v q) (pos 0) (pos 0) i merge-kind n.0.sound.account n.0.sound.series n.0.sound.side
    low m (in-price (average_of v q) (average-bound v q low (sums b (k ∷ ks) n).value-bounded)) nothing-booked nothing-booked

into-valid : (id : ℤ) → valid_id id ≡ true → valid_into id ≡ true
unfolding valid_into
into-valid id h = or_right (eq_z id (pos 0)) h

-- ---- the facts

pub merge-facts : (b : Books) → SoundBooks b → (id account series : ℤ) (pairs : List ℤ) → Accepts b (merge id account series pairs) →
    PlanFacts b (plan_on b (merge id account series pairs))
unfolding plan_of merge_plan view_of merged_record new_record
merge-facts b sound id account series pairs accepted =
    let t : List Record = b.records in
    let low : pos 0 ≤ℤ b.day = (today-range b.day t sound.days-sound).0 in
    let ks : List Key = pairs_of pairs in
    let inverses : List Record = inverses_of b id [] ks in
    let merged : Record = merged_record b.day id (records_at b ks) in
    let p : MergePassed id account series pairs (greatest record_key id t) (sources_of (view_of b) ks) = merge-passed b id account series pairs accepted in
    let n : AllNamed t ks = all_named b ks sound.records-sound p.sources-found p.sources-adjustable in
    let i : valid_id id ≡ true = id-valid id account series pairs p.figures in
    let a : any_of (map suffix_is_above (inverses ++ (merged ∷ []))) ≡ false = (booking-passed b _ _ accepted).suffixes in
    record {
      changed-present = sources-present b ks n;
      changed-sound = sources-sound b ks n;
      changed-days = sources-days b ks sound.days-sound n;
      added-absent = only-append record_key (λ (k : Key). not (is_some (find record_key k t))) inverses (merged ∷ [])
          (later-absent t inverses (later-weaker (next_after t []) (next_of t) (next-after t []) inverses (inverses-later b id [] ks n)))
          (lacks_all-intro record_key t merged [] (greatest-none record_key id (pos 0) t p.id-is-new) all_of-nil);
      added-distinct = distinct-last inverses merged (inverses-differ b id [] ks n) (inverses-apart b id id p.id-is-new [] ks n);
      added-sound = all_of-append sound_record inverses (merged ∷ []) (inverses-sound b id (into-valid id i) [] ks n (any_of-first suffix_is_above inverses (merged ∷ []) a))
          (all_of-intro (sound_record merged) [] (merged-sound b id ks n (sources-several id account series pairs p.figures) i p.sum-small) all_of-nil);
      added-days = all_of-append (day_within b.day) inverses (merged ∷ []) (inverses-days b id low [] ks) (all_of-intro (day_within b.day merged) [] (new-within b.day low merged refl) all_of-nil);
      positions-distinct = distinct-intro position_key (moved (read_at account series b.positions) (by_residual (merge_residual (records_at b ks)))) [] all_of-nil (distinct_nil position_key);
      process-kept = tt;
      answered = ap pos (omega (arith, inverses-count b id [] ks, length-append inverses (merged ∷ [])));
    }
