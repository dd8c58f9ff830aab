-- The sources of an accepted merge on sound books: each stands, is sound and adjustable, and stays sound in its new status. Their quantities are positive,
-- so their sum is, and the sum of quantity times price is within the sum of quantities times the greatest price. By induction on the pairs. Assumes nothing.
use Prim.Native.Nat.{◌*◌, ◌≤◌}
use mathlib.Core.Path.{◌≡◌}
use mathlib.Core.Bool.{true, false, not}
use mathlib.Core.List.{List, [], ◌∷◌, map}
use native.Mathlib.Nat.{le_refl}
use borrow.Author.Tests.{not-false}
use lib.IntN.{ℤ, pos, nat_abs, ◌+ℤ◌, ◌*ℤ◌}
use lib.Signed.{◌≤ℤ◌}
use Rattle.integers.proofs.Linear.{zarith, +-lin, abs-lin}
use Rattle.integers.proofs.Products.{nat_abs-+ℤ, nat_abs-mul-≤}
use Rattle.rules.specs.Keyed.{Key, find, is_some}
use Rattle.rules.specs.NamedRecord.{is_not_adjustable}
use Rattle.rules.specs.Rows.{record_key, adjusted_record, sound_record}
use Rattle.rules.specs.Refusal.{all_of, any_of}
use Rattle.rules.specs.Books.{Books, view_of}
use Rattle.rules.specs.Merge.{sources_of, records_of, is_missing, sum_of_quantities, sum_of_values}
use Rattle.rules.specs.Tables.{day_within, sound_days}
use Rattle.rules.specs.declared.Record.{Record}
use Rattle.keys.proofs.Clauses.{all_of-nil, all_of-intro}
use Rattle.keys.proofs.Counts.{has_all, has_all-intro}
use Rattle.soundness.proofs.Accepted.{any_of-head, any_of-tail}
use Rattle.soundness.proofs.FigureRanges.{price-range}
use Rattle.soundness.proofs.SoundRows.{adjusted-sound}
use Rattle.soundness.proofs.NamedRecord.{record_of, Named, named, adjusted-stands}
use Rattle.soundness.proofs.Days.{adjusted-within}

-- The records at these keys.
abbrev pub records_at : Books → List Key → List Record
records_at b ks = records_of (sources_of (view_of b) ks)

abbrev pub AllNamed : List Record → List Key → Type 0
AllNamed t [] = Unit {0}
AllNamed t (k ∷ ks) = Named t k × AllNamed t ks

pub all_named : (b : Books) (ks : List Key) → all_of (map sound_record b.records) ≡ true → any_of (map is_missing (sources_of (view_of b) ks)) ≡ false →
    any_of (map is_not_adjustable (records_at b ks)) ≡ false → AllNamed b.records ks
unfolding sources_of records_of view_of is_missing
all_named b [] all m a = tt
all_named b (k ∷ ks) all m a =
    let r : Record = record_of b.records k in
    let here : is_some (find record_key k b.records) ≡ true = not-false (is_some (find record_key k b.records)) (any_of-head (not (is_some (find record_key k b.records))) (map is_missing (sources_of (view_of b) ks)) m) in (
      named b.records k all here (any_of-head (is_not_adjustable r) (map is_not_adjustable (records_at b ks)) a),
      all_named b ks all (any_of-tail (not (is_some (find record_key k b.records))) (map is_missing (sources_of (view_of b) ks)) m) (any_of-tail (is_not_adjustable r) (map is_not_adjustable (records_at b ks)) a),
    )

-- ---- in their new status

pub sources-present : (b : Books) (ks : List Key) → AllNamed b.records ks → has_all record_key b.records (map adjusted_record (records_at b ks)) ≡ true
unfolding sources_of records_of view_of
sources-present b [] n = all_of-nil
sources-present b (k ∷ ks) n =
    let r : Record = record_of b.records k in
    has_all-intro record_key b.records (adjusted_record r) r (map adjusted_record (records_at b ks)) (adjusted-stands b.records k n.0) (sources-present b ks n.1)

pub sources-sound : (b : Books) (ks : List Key) → AllNamed b.records ks → all_of (map sound_record (map adjusted_record (records_at b ks))) ≡ true
unfolding sources_of records_of view_of
sources-sound b [] n = all_of-nil
sources-sound b (k ∷ ks) n =
    let r : Record = record_of b.records k in
    all_of-intro (sound_record (adjusted_record r)) (map sound_record (map adjusted_record (records_at b ks))) (adjusted-sound r n.0.sound n.0.not-inverse) (sources-sound b ks n.1)

pub sources-days : (b : Books) (ks : List Key) → sound_days b.day b.records ≡ true → AllNamed b.records ks → all_of (map (day_within b.day) (map adjusted_record (records_at b ks))) ≡ true
unfolding sources_of records_of view_of
sources-days b [] h n = all_of-nil
sources-days b (k ∷ ks) h n =
    all_of-intro (day_within b.day (adjusted_record (record_of b.records k))) (map (day_within b.day) (map adjusted_record (records_at b ks))) (adjusted-within b.day b.records k h n.0)
    (sources-days b ks h n.1)

-- ---- their sums

pub record Sums (quantity value : ℤ) : Type 0 where
  pub not_negative : pos 0 ≤ℤ quantity
  pub value-bounded : nat_abs value ≤ nat_abs quantity * 1000000000000

-- One more positive quantity q, at a price p.
one_more : (q p qs vs : ℤ) → pos 1 ≤ℤ q → nat_abs p ≤ 1000000000000 → Sums qs vs → Sums (q +ℤ qs) ((q *ℤ p) +ℤ vs)
one_more q p qs vs h k s =
    let low : pos 0 ≤ℤ qs = s.not_negative in
    let high : nat_abs vs ≤ nat_abs qs * 1000000000000 = s.value-bounded in
    let value : nat_abs (q *ℤ p) ≤ nat_abs q * 1000000000000 = nat_abs-mul-≤ q p (le_refl (nat_abs q)) k in
    record {
      not_negative = omega (zarith, +-lin q qs);
      value-bounded = omega (zarith, nat_abs-+ℤ (q *ℤ p) vs, +-lin q qs, abs-lin q, abs-lin qs, abs-lin (q +ℤ qs));
    }

pub sums : (b : Books) (ks : List Key) → AllNamed b.records ks → Sums (sum_of_quantities (records_at b ks)) (sum_of_values (records_at b ks))
unfolding sources_of records_of view_of sum_of_quantities sum_of_values
sums b [] n = record { not_negative = omega zarith; value-bounded = omega zarith }
sums b (k ∷ ks) n =
    let r : Record = record_of b.records k in
    one_more r.quantity r.price (sum_of_quantities (records_at b ks)) (sum_of_values (records_at b ks)) n.0.positive (price-range r.price n.0.sound.price) (sums b ks n.1)
