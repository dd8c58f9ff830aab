-- An accepted separation on sound books: the named record stands and stays sound; the inverse row and the parts stand at successive suffixes from the
-- next one on, so they are new and differ, and each is sound. By induction on the parts. Assumes nothing.
use Prim.Native.Nat.{suc}
use mathlib.Core.Path.{◌≡◌, refl, ap}
use mathlib.Core.Bool.{Bool, true, false, ◌&&◌}
use mathlib.Core.List.{List, [], ◌∷◌, map}
use native.Mathlib.Omega.{arith}
use borrow.Author.Tests.{not-false}
use lib.IntN.{ℤ, pos, ◌+ℤ◌}
use lib.ListN.{length}
use lib.Signed.{◌≤ℤ◌, ◌<ℤ◌, ≤ℤ_refl}
use Rattle.integers.specs.Order.{eq_z}
use Rattle.integers.proofs.Linear.{zarith, +-lin}
use Rattle.rules.specs.Figures.{valid_id, valid_suffix, valid_account, valid_series, valid_quantity, valid_count, most_quantity, greatest_of_suffixes, inverse, separation_kind}
use Rattle.rules.specs.Keyed.{Key, is_some, find}
use Rattle.rules.specs.NamedRecord.{is_not_adjustable, status_test}
use Rattle.rules.specs.Rows.{key_of, record_key, position_key, adjusted_record, inverse_record, adjustable_record, sound_record, valid_kind}
use Rattle.rules.specs.Refusal.{test, all_of, any_of}
use Rattle.rules.specs.Request.{separate}
use Rattle.rules.specs.Books.{Books, view_of}
use Rattle.rules.specs.Handle.{plan_of}
use Rattle.rules.specs.Plan.{suffix_is_above}
use Rattle.rules.specs.Separation.{separation_figures, part_records, separation_plan}
use Rattle.rules.specs.Tables.{day_within}
use Rattle.rules.specs.declared.Record.{Record}
use Rattle.keys.proofs.Split.{and_right}
use Rattle.keys.proofs.Clauses.{all_of-nil, all_of-intro, all_of-head, all_of-tail}
use Rattle.keys.proofs.Folds.{Only, only-intro}
use Rattle.keys.proofs.Counts.{distinct, distinct_nil, distinct-intro, has_all-intro}
use Rattle.soundness.specs.SoundBooks.{SoundBooks, plan_on, Accepts}
use Rattle.soundness.proofs.Accepted.{own-passed, booking-passed, any_of-head, any_of-tail}
use Rattle.soundness.proofs.FigureRanges.{quantity-range}
use Rattle.soundness.proofs.SoundRecord.{SoundRecord}
use Rattle.soundness.proofs.SoundRows.{suffix-small, into-zero, nothing-booked, adjusted-sound, inverse-sound, adjustable-sound}
use Rattle.soundness.proofs.NamedRecord.{record_of, next_of, Named, named, adjusted-stands}
use Rattle.soundness.proofs.LaterRows.{below_next, at_least_of, at_least, later-absent, before-differs}
use Rattle.soundness.proofs.Days.{today-range, new-within, adjusted-within}
use Rattle.soundness.proofs.BookingFacts.{PlanFacts}

-- ---- what it has passed

pub record SeparationPassed (t : List Record) (id suffix : ℤ) (parts : List ℤ) : Type 0 where
  pub parts-valid : all_of (map valid_quantity parts) ≡ true
  pub record-found : is_some (find record_key (key_of id suffix) t) ≡ true
  pub record-adjustable : is_not_adjustable (record_of t (key_of id suffix)) ≡ false

pub separation-passed : (b : Books) (id suffix account series : ℤ) (parts : List ℤ) → Accepts b (separate id suffix account series parts) → SeparationPassed b.records id suffix parts
unfolding plan_of separation_plan view_of test status_test separation_figures
separation-passed b id suffix account series parts accepted =
    let p = own-passed b _ _ accepted in
    let figures : Bool = valid_id id && valid_suffix suffix && valid_account account && valid_series series && valid_count (length parts) in
    record {
      parts-valid = and_right figures (all_of (map valid_quantity parts)) (not-false (separation_figures id suffix account series parts) p.0);
      record-found = not-false (is_some (find record_key (key_of id suffix) b.records)) p.1.0;
      record-adjustable = p.1.1.1.0;
    }

-- ---- the rows of the parts, from a suffix on

kind-valid : valid_kind separation_kind ≡ true
unfolding valid_kind eq_z
kind-valid = refl

parts-count : (today : ℤ) (r : Record) (suffix : ℤ) (parts : List ℤ) → length (part_records today r suffix parts) ≡ length parts
unfolding part_records
parts-count today r suffix [] = refl
parts-count today r suffix (q ∷ rest) = ap suc (parts-count today r (suffix +ℤ pos 1) rest)

parts-later : (today : ℤ) (least : ℤ → ℤ) (r : Record) (suffix : ℤ) (parts : List ℤ) → least r.id ≤ℤ suffix → Only record_key (at_least_of least) (part_records today r suffix parts)
unfolding part_records adjustable_record
parts-later today least r suffix [] h = all_of-nil
parts-later today least r suffix (q ∷ rest) h =
    let row : Record = adjustable_record today r suffix separation_kind r.account q (pos 0) (pos 0) in
    only-intro record_key (at_least_of least) row (part_records today r (suffix +ℤ pos 1) rest) (at_least least row h)
    (parts-later today least r (suffix +ℤ pos 1) rest (omega (zarith, +-lin suffix (pos 1))))

parts-differ : (today : ℤ) (r : Record) (suffix : ℤ) (parts : List ℤ) → distinct record_key (part_records today r suffix parts) ≡ true
unfolding part_records adjustable_record
parts-differ today r suffix [] = distinct_nil record_key
parts-differ today r suffix (q ∷ rest) =
    let row : Record = adjustable_record today r suffix separation_kind r.account q (pos 0) (pos 0) in
    let next : ℤ = suffix +ℤ pos 1 in
    distinct-intro record_key row (part_records today r next rest)
    (before-differs (λ (id : ℤ). next) row (part_records today r next rest) (below_next suffix) (parts-later today (λ (id : ℤ). next) r next rest (≤ℤ_refl next)))
    (parts-differ today r next rest)

parts-sound : (today : ℤ) (r : Record) (s : SoundRecord r) (e : eq_z r.status inverse ≡ false) (suffix : ℤ) (parts : List ℤ) → r.suffix <ℤ suffix →
    any_of (map suffix_is_above (part_records today r suffix parts)) ≡ false → all_of (map valid_quantity parts) ≡ true → all_of (map sound_record (part_records today r suffix parts)) ≡ true
unfolding part_records adjustable_record
parts-sound today r s e suffix [] h a v = all_of-nil
parts-sound today r s e suffix (q ∷ rest) h a v =
    let row : Record = adjustable_record today r suffix separation_kind r.account q (pos 0) (pos 0) in
    let next : ℤ = suffix +ℤ pos 1 in
    let small : suffix ≤ℤ greatest_of_suffixes = suffix-small row (any_of-head (suffix_is_above row) (map suffix_is_above (part_records today r next rest)) a) in
    let range : (pos 1 ≤ℤ q) × (q ≤ℤ pos most_quantity) = quantity-range q (all_of-head (valid_quantity q) (map valid_quantity rest) v) in
    all_of-intro (sound_record row) (map sound_record (part_records today r next rest))
    (adjustable-sound r s e today suffix h small separation_kind r.account q (pos 0) (pos 0) kind-valid s.account range.0 range.1 nothing-booked nothing-booked)
    (parts-sound today r s e next rest (omega (zarith, +-lin suffix (pos 1))) (any_of-tail (suffix_is_above row) (map suffix_is_above (part_records today r next rest)) a)
    (all_of-tail (valid_quantity q) (map valid_quantity rest) v))

parts-days : (today : ℤ) → pos 0 ≤ℤ today → (r : Record) (suffix : ℤ) (parts : List ℤ) → all_of (map (day_within today) (part_records today r suffix parts)) ≡ true
unfolding part_records adjustable_record
parts-days today low r suffix [] = all_of-nil
parts-days today low r suffix (q ∷ rest) =
    let row : Record = adjustable_record today r suffix separation_kind r.account q (pos 0) (pos 0) in
    let next : ℤ = suffix +ℤ pos 1 in
    all_of-intro (day_within today row) (map (day_within today) (part_records today r next rest)) (new-within today low row refl) (parts-days today low r next rest)

-- ---- the facts

pub separation-facts : (b : Books) → SoundBooks b → (id suffix account series : ℤ) (parts : List ℤ) → Accepts b (separate id suffix account series parts) →
    PlanFacts b (plan_on b (separate id suffix account series parts))
unfolding plan_of separation_plan view_of inverse_record
separation-facts b sound id suffix account series parts accepted =
    let t : List Record = b.records in
    let today : ℤ = b.day in
    let low : pos 0 ≤ℤ today = (today-range today t sound.days-sound).0 in
    let k : Key = key_of id suffix in
    let r : Record = record_of t k in
    let next : ℤ = next_of t id in
    let later : ℤ = next +ℤ pos 1 in
    let inverted : Record = inverse_record today r next separation_kind (pos 0) (pos 0) (pos 0) in
    let p : SeparationPassed t id suffix parts = separation-passed b id suffix account series parts accepted in
    let n : Named t k = named t k sound.records-sound p.record-found p.record-adjustable in
    let a : any_of (map suffix_is_above (inverted ∷ part_records today r later parts)) ≡ false = (booking-passed b _ _ accepted).suffixes in
    let up : r.suffix <ℤ next = n.next-above in
    let reached : next_of t r.id ≤ℤ next = n.next-reached in
    record {
      changed-present = has_all-intro record_key t (adjusted_record r) r [] (adjusted-stands t k n) all_of-nil;
      changed-sound = all_of-intro (sound_record (adjusted_record r)) [] (adjusted-sound r n.sound n.not-inverse) all_of-nil;
      changed-days = all_of-intro (day_within today (adjusted_record r)) [] (adjusted-within today t k sound.days-sound n) all_of-nil;
      added-absent = later-absent t (inverted ∷ part_records today r later parts)
          (only-intro record_key (at_least_of (next_of t)) inverted (part_records today r later parts) (at_least (next_of t) inverted reached)
          (parts-later today (next_of t) r later parts (omega (zarith, +-lin next (pos 1)))));
      added-distinct = distinct-intro record_key inverted (part_records today r later parts)
          (before-differs (λ (id : ℤ). later) inverted (part_records today r later parts) (below_next next) (parts-later today (λ (id : ℤ). later) r later parts (≤ℤ_refl later)))
          (parts-differ today r later parts);
      added-sound = all_of-intro (sound_record inverted) (map sound_record (part_records today r later parts))
          (inverse-sound r n.sound n.not-inverse today next up (suffix-small inverted (any_of-head (suffix_is_above inverted) (map suffix_is_above (part_records today r later parts)) a))
          separation_kind (pos 0) (pos 0) (pos 0) kind-valid nothing-booked nothing-booked into-zero)
          (parts-sound today r n.sound n.not-inverse later parts (omega (zarith, +-lin next (pos 1)))
          (any_of-tail (suffix_is_above inverted) (map suffix_is_above (part_records today r later parts)) a) p.parts-valid);
      added-days = all_of-intro (day_within today inverted) (map (day_within today) (part_records today r later parts)) (new-within today low inverted refl)
          (parts-days today low r later parts);
      positions-distinct = distinct_nil position_key;
      process-kept = tt;
      answered = ap pos (omega (arith, parts-count today r later parts));
    }
