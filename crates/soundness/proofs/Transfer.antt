-- An accepted transfer on sound books: the named record stands and stays sound; the inverse and the adjustable row stand at the next two suffixes, so they
-- are new and differ, and both are sound; the two positions differ. Assumes nothing.
use mathlib.Core.Path.{◌≡◌, refl, sym, ◌∙◌, ap}
use mathlib.Core.Bool.{Bool, true, false, cond, not, ◌&&◌}
use mathlib.Core.List.{List, [], ◌∷◌, map}
use mathlib.Core.Logic.{◌⊎◌, inl, inr}
use borrow.Author.Tests.{not-false, not-true}
use lib.IntN.{ℤ, pos, neg_ℤ, ◌+ℤ◌}
use lib.Signed.{◌≤ℤ◌, ◌<ℤ◌, ≤ℤ_refl}
use Rattle.integers.specs.Order.{eq_z}
use Rattle.integers.proofs.Parts.{eq_z-false}
use Rattle.integers.proofs.Linear.{zarith, neg-lin, +-lin}
use Rattle.rules.specs.Figures.{valid_id, valid_suffix, valid_account, valid_series, is_buy, transfer_kind}
use Rattle.rules.specs.Keyed.{Key, is_some, find, same}
use Rattle.rules.specs.NamedRecord.{is_not_adjustable, status_test}
use Rattle.rules.specs.Rows.{key_of, record_key, position_key, adjusted_record, inverse_record, adjustable_record, moved, sound_record, valid_kind, valid_booked}
use Rattle.rules.specs.Refusal.{test, any_of}
use Rattle.rules.specs.Request.{transfer}
use Rattle.rules.specs.Books.{Books, view_of}
use Rattle.rules.specs.Handle.{plan_of}
use Rattle.rules.specs.Plan.{Effects, suffix_is_above}
use Rattle.rules.specs.Transfer.{transfer_figures, in_long, in_short, in_side, transfer_effects, transfer_plan}
use Rattle.rules.specs.Tables.{day_within, sound_days}
use Rattle.rules.specs.declared.Record.{Record}
use Rattle.rules.specs.declared.Position.{Position}
use Rattle.keys.proofs.Split.{split, and_left, and_right}
use Rattle.keys.proofs.KeyOrder.{same-ne}
use Rattle.keys.proofs.Clauses.{all_of-nil, all_of-intro}
use Rattle.keys.proofs.Folds.{only-intro}
use Rattle.keys.proofs.Counts.{distinct, distinct_nil, distinct-intro, has_all-intro}
use Rattle.soundness.specs.SoundBooks.{SoundBooks, plan_on, Accepts}
use Rattle.soundness.proofs.Accepted.{own-passed, booking-passed, any_of-head, any_of-tail}
use Rattle.soundness.proofs.ReadPosition.{read_at, read-key}
use Rattle.soundness.proofs.FigureRanges.{in-booked}
use Rattle.soundness.proofs.SoundRows.{suffix-small, into-zero, nothing-booked, adjusted-sound, inverse-sound, adjustable-sound}
use Rattle.soundness.proofs.NamedRecord.{record_of, next_of, Named, named, adjusted-stands}
use Rattle.soundness.proofs.LaterRows.{below_next, at_least_of, at_least, later-absent, before-differs}
use Rattle.soundness.proofs.Days.{today-range, new-within, adjusted-within}
use Rattle.soundness.proofs.BookingFacts.{BookingFacts, PlanFacts}

-- ---- what it has passed

pub record TransferPassed (t : List Record) (id suffix from to : ℤ) : Type 0 where
  pub to-valid : valid_account to ≡ true
  pub accounts-differ : eq_z from to ≡ false
  pub record-found : is_some (find record_key (key_of id suffix) t) ≡ true
  pub record-adjustable : is_not_adjustable (record_of t (key_of id suffix)) ≡ false

pub transfer-passed : (b : Books) (id suffix from to series : ℤ) → Accepts b (transfer id suffix from to series) → TransferPassed b.records id suffix from to
unfolding plan_of transfer_plan view_of test status_test transfer_figures
transfer-passed b id suffix from to series accepted =
    let p = own-passed b _ _ accepted in
    let first : Bool = valid_id id && valid_suffix suffix && valid_account from in
    let all : transfer_figures id suffix from to series ≡ true = not-false (transfer_figures id suffix from to series) p.0 in
    let ranges : (first && valid_account to && valid_series series) ≡ true = and_left (first && valid_account to && valid_series series) (not (eq_z from to)) all in
    record {
      to-valid = and_right first (valid_account to) (and_left (first && valid_account to) (valid_series series) ranges);
      accounts-differ = not-true (eq_z from to) (and_right (first && valid_account to && valid_series series) (not (eq_z from to)) all);
      record-found = not-false (is_some (find record_key (key_of id suffix) b.records)) p.1.0;
      record-adjustable = p.1.1.1.0;
    }

-- ---- its rows and positions

kind-valid : valid_kind transfer_kind ≡ true
unfolding valid_kind eq_z
kind-valid = refl

long-booked : (side amount : ℤ) → valid_booked amount ≡ true → valid_booked (in_long side amount) ≡ true
unfolding in_long
long-booked side amount h = go (split (is_buy side))
  where
    go : (is_buy side ≡ true) ⊎ (is_buy side ≡ false) → valid_booked (cond (is_buy side) amount (pos 0)) ≡ true
    go (inl e) = rw e h
    go (inr e) = rw e nothing-booked

short-booked : (side amount : ℤ) → valid_booked amount ≡ true → valid_booked (in_short side amount) ≡ true
unfolding in_short
short-booked side amount h = go (split (is_buy side))
  where
    go : (is_buy side ≡ true) ⊎ (is_buy side ≡ false) → valid_booked (cond (is_buy side) (pos 0) amount) ≡ true
    go (inl e) = rw e nothing-booked
    go (inr e) = rw e h

positions-differ : (old new : Position) (from to series : ℤ) → eq_z from to ≡ false → position_key old ≡ key_of from series → position_key new ≡ key_of to series →
    distinct position_key (old ∷ new ∷ []) ≡ true
positions-differ old new from to series d f g =
    distinct-intro position_key old (new ∷ [])
    (only-intro position_key (λ (k : Key). not (same (position_key old) k)) new []
    (ap not (same-ne (position_key old) (position_key new) (λ (e : position_key old ≡ position_key new). eq_z-false from to d (ap (λ (k : Key). k.major) (sym f ∙ e ∙ g))))) all_of-nil)
    (distinct-intro position_key new [] all_of-nil (distinct_nil position_key))

-- The rows of the named record, of these types, and the positions of both accounts: of a transfer, and of the step that completes a give-up.
pub transfer-effects-facts : (b : Books) (id suffix from to series inverse_kind new_kind : ℤ) → sound_days b.day b.records ≡ true → Named b.records (key_of id suffix)
    → valid_kind inverse_kind ≡ true → valid_kind new_kind ≡ true → valid_account to ≡ true → eq_z from to ≡ false
    → (let e : Effects = transfer_effects inverse_kind new_kind b.day (record_of b.records (key_of id suffix)) (next_of b.records id) to (read_at from series b.positions) (read_at to series b.positions) in
    any_of (map suffix_is_above e.added) ≡ false → BookingFacts b e)
unfolding inverse_record adjustable_record moved
transfer-effects-facts b id suffix from to series inverse_kind new_kind days n inverse-valid new-valid to-valid accounts-differ a =
    let t : List Record = b.records in
    let today : ℤ = b.day in
    let start : pos 0 ≤ℤ today = (today-range today t days).0 in
    let k : Key = key_of id suffix in
    let r : Record = record_of t k in
    let q : ℤ = r.quantity in
    let next : ℤ = next_of t id in
    let later : ℤ = next +ℤ pos 1 in
    let inverted : Record = inverse_record today r next inverse_kind (in_long r.side (neg_ℤ q)) (in_short r.side (neg_ℤ q)) (pos 0) in
    let arrived : Record = adjustable_record today r later new_kind to q (in_long r.side q) (in_short r.side q) in
    let up : r.suffix <ℤ next = n.next-above in
    let reached : next_of t r.id ≤ℤ next = n.next-reached in
    let low : pos 1 ≤ℤ q = n.positive in
    let high : q ≤ℤ pos 1000000 = n.small in
    let out : valid_booked (neg_ℤ q) ≡ true = in-booked (neg_ℤ q) (omega (zarith, neg-lin q)) (omega (zarith, neg-lin q)) in
    let back : valid_booked q ≡ true = in-booked q (omega zarith) high in
    record {
      changed-present = has_all-intro record_key t (adjusted_record r) r [] (adjusted-stands t k n) all_of-nil;
      changed-sound = all_of-intro (sound_record (adjusted_record r)) [] (adjusted-sound r n.sound n.not-inverse) all_of-nil;
      changed-days = all_of-intro (day_within today (adjusted_record r)) [] (adjusted-within today t k days n) all_of-nil;
      added-absent = later-absent t (inverted ∷ arrived ∷ [])
          (only-intro record_key (at_least_of (next_of t)) inverted (arrived ∷ []) (at_least (next_of t) inverted reached)
          (only-intro record_key (at_least_of (next_of t)) arrived [] (at_least (next_of t) arrived (omega (zarith, +-lin next (pos 1)))) all_of-nil));
      added-distinct = distinct-intro record_key inverted (arrived ∷ [])
          (before-differs (λ (id : ℤ). later) inverted (arrived ∷ []) (below_next next)
          (only-intro record_key (at_least_of (λ (id : ℤ). later)) arrived [] (at_least (λ (id : ℤ). later) arrived (≤ℤ_refl later)) all_of-nil))
          (distinct-intro record_key arrived [] all_of-nil (distinct_nil record_key));
      added-sound = all_of-intro (sound_record inverted) (sound_record arrived ∷ [])
          (inverse-sound r n.sound n.not-inverse today next up (suffix-small inverted (any_of-head (suffix_is_above inverted) (suffix_is_above arrived ∷ []) a))
          inverse_kind (in_long r.side (neg_ℤ q)) (in_short r.side (neg_ℤ q)) (pos 0) inverse-valid (long-booked r.side (neg_ℤ q) out) (short-booked r.side (neg_ℤ q) out) into-zero)
          (all_of-intro (sound_record arrived) []
          (adjustable-sound r n.sound n.not-inverse today later (omega (zarith, +-lin next (pos 1)))
          (suffix-small arrived (any_of-head (suffix_is_above arrived) [] (any_of-tail (suffix_is_above inverted) (suffix_is_above arrived ∷ []) a)))
          new_kind to q (in_long r.side q) (in_short r.side q) new-valid to-valid low high (long-booked r.side q back) (short-booked r.side q back))
          all_of-nil);
      added-days = all_of-intro (day_within today inverted) (day_within today arrived ∷ []) (new-within today start inverted refl)
          (all_of-intro (day_within today arrived) [] (new-within today start arrived refl) all_of-nil);
      positions-distinct = positions-differ
          (moved (read_at from series b.positions) (in_side r.side (neg_ℤ q) r.price))
          (moved (read_at to series b.positions) (in_side r.side q r.price))
          from to series accounts-differ (read-key from series b.positions) (read-key to series b.positions);
      process-kept = tt;
      answered = refl;
    }

pub transfer-facts : (b : Books) → SoundBooks b → (id suffix from to series : ℤ) → Accepts b (transfer id suffix from to series) →
    PlanFacts b (plan_on b (transfer id suffix from to series))
unfolding plan_of transfer_plan view_of
transfer-facts b sound id suffix from to series accepted =
    let p : TransferPassed b.records id suffix from to = transfer-passed b id suffix from to series accepted in
    transfer-effects-facts b id suffix from to series transfer_kind transfer_kind sound.days-sound
    (named b.records (key_of id suffix) sound.records-sound p.record-found p.record-adjustable) kind-valid kind-valid p.to-valid p.accounts-differ
    (booking-passed b _ _ accepted).suffixes
