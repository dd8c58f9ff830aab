-- Which records are under give-up (status 3): what a put changes in that; and an accepted request that is no step of a give-up changes nothing in it. The records that it adjusts had
-- status 0 (test 7) and get 1, its new rows stand at keys that were absent and have status 0 or 2. By induction on the rows that are put. Assumes nothing.
use mathlib.Core.Path.{◌≡◌, refl, sym, ◌∙◌, ap, subst}
use mathlib.Core.Bool.{Bool, true, false, cond, not}
use mathlib.Core.List.{List, [], ◌∷◌, ◌++◌, map}
use mathlib.Core.Logic.{◌⊎◌, inl, inr}
use mathlib.Core.Option.{Option, none, some}
use borrow.Author.Tests.{not-true, not-false}
use lib.IntN.{ℤ, pos, ◌+ℤ◌}
use Rattle.integers.specs.Order.{eq_z}
use Rattle.integers.proofs.Parts.{eq_z-true}
use Rattle.rules.specs.Figures.{adjustable, under_give_up}
use Rattle.rules.specs.Keyed.{Key, same, is_some, find, upsert, upsert_all}
use Rattle.rules.specs.NamedRecord.{is_not_adjustable}
use Rattle.rules.specs.Rows.{key_of, record_key, adjusted_record, new_record, inverse_record, adjustable_record}
use Rattle.rules.specs.Refusal.{any_of}
use Rattle.rules.specs.Request.{Request, trade, separate, transfer, merge, lineage, give_up, new_day, is_step}
use Rattle.rules.specs.Books.{Books, view_of}
use Rattle.rules.specs.Plan.{Plan, booking, question, day_move, booked, plan_books}
use Rattle.rules.specs.Trade.{trade_plan}
use Rattle.rules.specs.Separation.{part_records, separation_plan}
use Rattle.rules.specs.Transfer.{transfer_effects, transfer_plan}
use Rattle.rules.specs.Merge.{Source, pairs_of, sources_of, records_of, merge_inverses, merged_record, merge_plan}
use Rattle.rules.specs.Lineage.{lineage_plan}
use Rattle.rules.specs.Day.{day_plan}
use Rattle.rules.specs.Handle.{plan_of}
use Rattle.rules.specs.declared.Record.{Record}
use Rattle.rules.specs.declared.Position.{Position}
use Rattle.keys.proofs.Split.{split, clash, cond-true, cond-false}
use Rattle.keys.proofs.KeyOrder.{same-eq}
use Rattle.keys.proofs.Clauses.{all_of-nil, upsert_all-nil, upsert_all-cons}
use Rattle.keys.proofs.Lookup.{find-upsert, find-upsert-other}
use Rattle.keys.proofs.Folds.{Only, only-head, only-tail, only-intro, only-append, only-weaken}
use Rattle.keys.proofs.Counts.{lacks_all}
use Rattle.soundness.specs.SoundBooks.{SoundBooks, plan_on, Accepts, after}
use Rattle.soundness.proofs.Accepted.{any_of-head, any_of-tail}
use Rattle.soundness.proofs.ReadPosition.{read_at}
use Rattle.soundness.proofs.NamedRecord.{record_of, Named, named, adjusted-stands}
use Rattle.soundness.proofs.BookingFacts.{PlanFacts}
use Rattle.soundness.proofs.Separation.{SeparationPassed, separation-passed}
use Rattle.soundness.proofs.Transfer.{TransferPassed, transfer-passed}
use Rattle.soundness.proofs.MergeAccepted.{merge-passed}
use Rattle.soundness.proofs.MergeSources.{records_at, AllNamed, all_named}
use Rattle.soundness.proofs.Requests.{plan-facts}
use Rattle.history.specs.UnderGiveUp.{is_under_give_up}

-- The record at this key is under give-up; this record is.
abbrev pub under_at : Key → List Record → Bool
under_at k t = is_under_give_up (find record_key k t)

abbrev pub is_under : Record → Bool
is_under r = eq_z r.status under_give_up

pub under-found : (k : Key) (t : List Record) (r : Record) → find record_key k t ≡ some r → under_at k t ≡ is_under r
unfolding is_under_give_up
under-found k t r f = ap is_under_give_up f

pub under-absent : (k : Key) (t : List Record) → find record_key k t ≡ none → under_at k t ≡ false
unfolding is_under_give_up
under-absent k t f = ap is_under_give_up f

-- ---- puts

pub under-put : (k : Key) (new : Record) (t : List Record) → under_at k (upsert record_key new t) ≡ cond (same (record_key new) k) (is_under new) (under_at k t)
under-put k new t = go (split (same (record_key new) k))
  where
    go : (same (record_key new) k ≡ true) ⊎ (same (record_key new) k ≡ false) → under_at k (upsert record_key new t) ≡ cond (same (record_key new) k) (is_under new) (under_at k t)
    go (inl s) =
        under-found k (upsert record_key new t) new (ap (λ (j : Key). find record_key j (upsert record_key new t)) (sym (same-eq (record_key new) k s)) ∙ find-upsert record_key new t)
        ∙ sym (cond-true (is_under new) (under_at k t) s)
    go (inr s) = ap is_under_give_up (find-upsert-other record_key k new t s) ∙ sym (cond-false (is_under new) (under_at k t) s)

-- No row of these is under give-up; no record at one of their keys is.
abbrev pub NoneUnder : List Record → Type 0
NoneUnder [] = Unit {0}
NoneUnder (r ∷ rest) = (is_under r ≡ false) × NoneUnder rest

none-under-append : (xs ys : List Record) → NoneUnder xs → NoneUnder ys → NoneUnder (xs ++ ys)
none-under-append [] ys h k = k
none-under-append (r ∷ rest) ys h k = (h.0, none-under-append rest ys h.1 k)

abbrev pub NoneUnderAt : List Record → List Record → Type 0
NoneUnderAt t rs = Only record_key (λ (k : Key). not (under_at k t)) rs

put-leaves : (new : Record) (t : List Record) → is_under new ≡ false → under_at (record_key new) t ≡ false → (k : Key) → under_at k (upsert record_key new t) ≡ under_at k t
put-leaves new t n u k = under-put k new t ∙ go (split (same (record_key new) k))
  where
    go : (same (record_key new) k ≡ true) ⊎ (same (record_key new) k ≡ false) → cond (same (record_key new) k) (is_under new) (under_at k t) ≡ under_at k t
    go (inl s) = cond-true (is_under new) (under_at k t) s ∙ n ∙ sym (subst (λ (j : Key). under_at j t ≡ false) (same-eq (record_key new) k s) u)
    go (inr s) = cond-false (is_under new) (under_at k t) s

pub puts-leave : (rs t : List Record) → NoneUnder rs → NoneUnderAt t rs → (k : Key) → under_at k (upsert_all record_key rs t) ≡ under_at k t
puts-leave [] t n u k = ap (under_at k) (upsert_all-nil record_key t)
puts-leave (r ∷ rest) t n u k =
    let one : (j : Key) → under_at j (upsert record_key r t) ≡ under_at j t =
    put-leaves r t n.0 (not-true (under_at (record_key r) t) (only-head record_key (λ (j : Key). not (under_at j t)) r rest u)) in
    ap (under_at k) (upsert_all-cons record_key r rest t)
    ∙ puts-leave rest (upsert record_key r t) n.1
    (only-weaken record_key (λ (j : Key). not (under_at j t)) (λ (j : Key). not (under_at j (upsert record_key r t))) rest (λ j w. ap not (one j) ∙ w)
    (only-tail record_key (λ (j : Key). not (under_at j t)) r rest u)) k
    ∙ one k

-- Of rows at absent keys.
absent-not-under : (o : Option Record) → not (is_some o) ≡ true → not (is_under_give_up o) ≡ true
unfolding is_some is_under_give_up
absent-not-under none h = refl
absent-not-under (some r) h = clash h refl

pub absent-none-under : (t rs : List Record) → lacks_all record_key t rs ≡ true → NoneUnderAt t rs
absent-none-under t rs h =
    only-weaken record_key (λ (k : Key). not (is_some (find record_key k t))) (λ (k : Key). not (under_at k t)) rs (λ k w. absent-not-under (find record_key k t) w) h

-- ---- the rows of the rules: status 0, 1 or 2

new-not-under : (today id kind account series side quantity price long short : ℤ) → is_under (new_record today id kind account series side quantity price long short) ≡ false
unfolding new_record eq_z
new-not-under today id kind account series side quantity price long short = refl

pub adjusted-not-under : (r : Record) → is_under (adjusted_record r) ≡ false
unfolding adjusted_record eq_z
adjusted-not-under r = refl

inverse-not-under : (today : ℤ) (r : Record) (suffix kind long short into : ℤ) → is_under (inverse_record today r suffix kind long short into) ≡ false
unfolding inverse_record eq_z
inverse-not-under today r suffix kind long short into = refl

adjustable-not-under : (today : ℤ) (r : Record) (suffix kind account quantity long short : ℤ) → is_under (adjustable_record today r suffix kind account quantity long short) ≡ false
unfolding adjustable_record eq_z
adjustable-not-under today r suffix kind account quantity long short = refl

pub transfer-none-under : (inverse_kind new_kind today : ℤ) (r : Record) (next to : ℤ) (old new : Position) → NoneUnder (transfer_effects inverse_kind new_kind today r next to old new).added
transfer-none-under inverse_kind new_kind today r next to old new = (inverse-not-under today r _ _ _ _ _, (adjustable-not-under today r _ _ _ _ _ _, tt))

parts-none-under : (today : ℤ) (r : Record) (suffix : ℤ) (parts : List ℤ) → NoneUnder (part_records today r suffix parts)
unfolding part_records
parts-none-under today r suffix [] = tt
parts-none-under today r suffix (q ∷ rest) = (adjustable-not-under today r _ _ _ _ _ _, parts-none-under today r (suffix +ℤ pos 1) rest)

adjusted-none-under : (rs : List Record) → NoneUnder (map adjusted_record rs)
adjusted-none-under [] = tt
adjusted-none-under (r ∷ rest) = (adjusted-not-under r, adjusted-none-under rest)

inverses-none-under : (today into : ℤ) (earlier : List ℤ) (sources : List Source) → NoneUnder (merge_inverses today into earlier sources)
unfolding merge_inverses
inverses-none-under today into earlier [] = tt
inverses-none-under today into earlier (s ∷ rest) = (inverse-not-under today _ _ _ _ _ _, inverses-none-under today into (s.pair.major ∷ earlier) rest)

merged-not-under : (today id : ℤ) (sources : List Record) → is_under (merged_record today id sources) ≡ false
unfolding merged_record
merged-not-under today id sources = new-not-under today id _ _ _ _ _ _ _ _

-- ---- the records that a request adjusts: past test 7 their status is 0

adjustable-not-three : (status : ℤ) → status ≡ adjustable → eq_z status under_give_up ≡ false
unfolding eq_z
adjustable-not-three status e = ap (λ (z : ℤ). eq_z z under_give_up) e

passed-not-under : (r : Record) → is_not_adjustable r ≡ false → is_under r ≡ false
unfolding is_not_adjustable
passed-not-under r h = adjustable-not-three r.status (eq_z-true r.status adjustable (not-false (eq_z r.status adjustable) h))

adjusted-at : (t : List Record) (k : Key) → Named t k → is_not_adjustable (record_of t k) ≡ false → (rest : List Record) → NoneUnderAt t rest → NoneUnderAt t (adjusted_record (record_of t k) ∷ rest)
adjusted-at t k n h rest u =
    only-intro record_key (λ (j : Key). not (under_at j t)) (adjusted_record (record_of t k)) rest
    (ap not (under-found (record_key (adjusted_record (record_of t k))) t (record_of t k) (adjusted-stands t k n) ∙ passed-not-under (record_of t k) h)) u

sources-at : (b : Books) (ks : List Key) → AllNamed b.records ks → any_of (map is_not_adjustable (records_at b ks)) ≡ false → NoneUnderAt b.records (map adjusted_record (records_at b ks))
unfolding sources_of records_of view_of
sources-at b [] n h = all_of-nil
sources-at b (k ∷ ks) n h =
    let r : Record = record_of b.records k in
    adjusted-at b.records k n.0 (any_of-head (is_not_adjustable r) (map is_not_adjustable (records_at b ks)) h) (map adjusted_record (records_at b ks))
    (sources-at b ks n.1 (any_of-tail (is_not_adjustable r) (map is_not_adjustable (records_at b ks)) h))

-- ---- requests that are no steps

-- What such a plan says of the rows that it puts.
abbrev LeavesUnder : Books → Plan → Type 0
LeavesUnder b (booking tests e) = (NoneUnder e.changed) × (NoneUnderAt b.records e.changed) × (NoneUnder e.added)
LeavesUnder b (question tests reply) = Unit {0}
LeavesUnder b (day_move tests day) = Unit {0}

leaves-under : (b : Books) → SoundBooks b → (r : Request) → is_step r ≡ false → Accepts b r → LeavesUnder b (plan_on b r)
unfolding plan_of trade_plan separation_plan transfer_plan merge_plan lineage_plan day_plan view_of is_step
leaves-under b sound (trade id account series side quantity price) no_step a = (tt, all_of-nil, (new-not-under b.day id _ _ _ _ _ _ _ _, tt))
leaves-under b sound (separate id suffix account series parts) no_step a =
    let t : List Record = b.records in
    let k : Key = key_of id suffix in
    let p : SeparationPassed t id suffix parts = separation-passed b id suffix account series parts a in (
      (adjusted-not-under (record_of t k), tt),
      adjusted-at t k (named t k sound.records-sound p.record-found p.record-adjustable) p.record-adjustable [] all_of-nil,
      (inverse-not-under b.day (record_of t k) _ _ _ _ _, parts-none-under b.day (record_of t k) _ parts),
    )
leaves-under b sound (transfer id suffix from to series) no_step a =
    let t : List Record = b.records in
    let k : Key = key_of id suffix in
    let p : TransferPassed t id suffix from to = transfer-passed b id suffix from to series a in (
      (adjusted-not-under (record_of t k), tt),
      adjusted-at t k (named t k sound.records-sound p.record-found p.record-adjustable) p.record-adjustable [] all_of-nil,
      transfer-none-under _ _ b.day (record_of t k) _ _ (read_at from series b.positions) (read_at to series b.positions),
    )
leaves-under b sound (merge id account series pairs) no_step a =
    let ks : List Key = pairs_of pairs in
    let p = merge-passed b id account series pairs a in
    let n : AllNamed b.records ks = all_named b ks sound.records-sound p.sources-found p.sources-adjustable in (
      adjusted-none-under (records_at b ks),
      sources-at b ks n p.sources-adjustable,
      none-under-append (merge_inverses b.day id [] (sources_of (view_of b) ks)) (merged_record b.day id (records_at b ks) ∷ [])
          (inverses-none-under b.day id [] (sources_of (view_of b) ks)) (merged-not-under b.day id (records_at b ks), tt),
    )
leaves-under b sound (lineage id suffix) no_step a = tt
leaves-under b sound (new_day day) no_step a = tt
leaves-under b sound (give_up step process id suffix giving taking series) no_step a = clash refl no_step

pub under_stays : (b : Books) → SoundBooks b → (r : Request) → is_step r ≡ false → Accepts b r → (k : Key) → under_at k (after b r).records ≡ under_at k b.records
unfolding plan_books booked
under_stays b sound r no_step a k = go (plan_on b r) (plan-facts b sound r a) (leaves-under b sound r no_step a)
  where
    go : (plan : Plan) → PlanFacts b plan → LeavesUnder b plan → under_at k (plan_books plan b).records ≡ under_at k b.records
    go (booking tests e) f s =
        puts-leave (e.changed ++ e.added) b.records (none-under-append e.changed e.added s.0 s.2)
        (only-append record_key (λ (j : Key). not (under_at j b.records)) e.changed e.added s.1 (absent-none-under b.records e.added f.added-absent)) k
    go (question tests reply) f s = refl
    go (day_move tests day) f s = refl
