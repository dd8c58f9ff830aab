-- An accepted transfer on sound books takes the record's signed quantity, and that times its price, from the sums and the stored figures of the old account and adds it to those of the new one.
-- The record counts before and not afterwards; of its two new rows the inverse does not count, the other stands in the new account. The same of the effects of the step that completes a
-- give-up. Assumes nothing.
use mathlib.Core.Path.{◌≡◌, refl, sym, ◌∙◌, ap, ap₂}
use mathlib.Core.Bool.{true, false}
use mathlib.Core.List.{[], ◌∷◌}
use lib.IntN.{ℤ, pos, neg_ℤ, ◌+ℤ◌, ◌*ℤ◌, +ℤ_idl, zero-*ℤ}
use Rattle.integers.specs.Order.{eq_z}
use Rattle.integers.proofs.Linear.{zarith, +-lin, neg-lin}
use Rattle.integers.proofs.Ring.{+ℤ-*ℤ}
use Rattle.rules.specs.Figures.{signed, transfer_kind}
use Rattle.rules.specs.Keyed.{Key}
use Rattle.rules.specs.Rows.{key_of, adjusted_record, inverse_record, adjustable_record, moved}
use Rattle.rules.specs.Refusal.{test}
use Rattle.rules.specs.Request.{transfer}
use Rattle.rules.specs.Books.{Books, view_of}
use Rattle.rules.specs.Plan.{Effects, booked, plan_books}
use Rattle.rules.specs.Handle.{plan_of}
use Rattle.rules.specs.Transfer.{in_long, in_short, in_side, transfer_effects, transfer_plan}
use Rattle.rules.specs.Totals.{is_live, signed_quantity, signed_value, sum_over}
use Rattle.rules.specs.declared.Record.{Record}
use Rattle.rules.specs.declared.Position.{Position}
use Rattle.soundness.specs.SoundBooks.{SoundBooks, Accepts, after}
use Rattle.soundness.proofs.Accepted.{own-passed}
use Rattle.soundness.proofs.ReadPosition.{read_at, read-key}
use Rattle.soundness.proofs.NamedRecord.{record_of, next_of, Named, named, adjusted-stands}
use Rattle.soundness.proofs.BookingFacts.{BookingFacts}
use Rattle.soundness.proofs.Transfer.{TransferPassed, transfer-passed, transfer-facts}
use Rattle.totals.specs.Replaced.{replaced}
use Rattle.totals.specs.Amounts.{amount_at, transfer_amounts, amounts_of}
use Rattle.totals.specs.Adds.{Adds}
use Rattle.totals.proofs.Sums.{sum-cons}
use Rattle.totals.proofs.LiveSums.{amount-zero, amount-sum, StandsIn, stands-in, live_at, live-figure, no-figure, adjustable-live, named_live, adjusted-gone, inverse-gone}
use Rattle.totals.proofs.Stored.{stored-two}
use Rattle.totals.proofs.EffectsAdd.{Changes, effects-add, once, sum_one, gone-figure, replaced-figure, signed-zero, signed-sum}

-- ---- what leaves and what comes

-- A quantity and its negative come to nothing.
no-quantity : (side q : ℤ) → signed side q +ℤ signed side (neg_ℤ q) ≡ pos 0
no-quantity side q =
    let none_left : q +ℤ neg_ℤ q ≡ pos 0 = omega (zarith, +-lin q (neg_ℤ q), neg-lin q) in
    signed-sum side q (neg_ℤ q) ∙ ap (signed side) none_left ∙ signed-zero side

no_value : (side q price : ℤ) → signed side q *ℤ price +ℤ signed side (neg_ℤ q) *ℤ price ≡ pos 0
no_value side q price =
    sym (+ℤ-*ℤ (signed side q) (signed side (neg_ℤ q)) price) ∙ ap (λ (z : ℤ). z *ℤ price) (no-quantity side q) ∙ zero-*ℤ price

-- ---- the effects, of any types of rows

module _ (b : Books) (sound : SoundBooks b) (id suffix from to series inverse_kind new_kind : ℤ) (a s : ℤ) where
  abbrev k : Key
  k = key_of id suffix

  abbrev r : Record
  r = record_of b.records k

  abbrev next : ℤ
  next = next_of b.records id

  abbrev inverted : Record
  inverted = inverse_record b.day r next inverse_kind (in_long r.side (neg_ℤ r.quantity)) (in_short r.side (neg_ℤ r.quantity)) (pos 0)

  abbrev arrived : Record
  arrived = adjustable_record b.day r (next +ℤ pos 1) new_kind to r.quantity (in_long r.side r.quantity) (in_short r.side r.quantity)

  abbrev old : Position
  old = read_at from series b.positions

  abbrev new : Position
  new = read_at to series b.positions

  abbrev effects : Effects
  effects = transfer_effects inverse_kind new_kind b.day r next to old new

  module _ (n : Named b.records k) (live : is_live r ≡ true) (in-from : StandsIn from series r) where
    arrived-figure : (figure : Record → ℤ) → live_at figure a s arrived ≡ amount_at to series (figure arrived) a s
    unfolding adjustable_record
    arrived-figure figure = live-figure figure a s arrived (adjustable-live arrived refl) ∙ ap (λ (z : ℤ). amount_at to z (figure arrived) a s) in-from.same-series

    -- Of a figure that comes to nothing with what leaves the old account.
    moves : (figure : Record → ℤ) (left : ℤ) → figure r +ℤ left ≡ pos 0 → Changes figure b effects a s (amount_at from series left a s +ℤ amount_at to series (figure arrived) a s)
    moves figure left h =
        let changed : ℤ = sum_over (live_at figure a s) (adjusted_record r ∷ []) in
        let added : ℤ = sum_over (live_at figure a s) (inverted ∷ arrived ∷ []) in
        let before : ℤ = sum_over (live_at figure a s) (replaced b.records (adjusted_record r ∷ [])) in
        let here : ℤ = amount_at from series (figure r) a s in
        let out : ℤ = amount_at from series left a s in
        let there : ℤ = amount_at to series (figure arrived) a s in
        let nothing-changed : changed ≡ pos 0 = gone-figure figure a s (adjusted_record r) (adjusted-gone r) in
        let one-added : added ≡ there =
        sum-cons (live_at figure a s) inverted (arrived ∷ [])
        ∙ ap₂ (λ (x y : ℤ). x +ℤ y)
        (no-figure figure a s inverted (inverse-gone b.day r next inverse_kind (in_long r.side (neg_ℤ r.quantity)) (in_short r.side (neg_ℤ r.quantity)) (pos 0)))
        (sum_one (live_at figure a s) arrived ∙ arrived-figure figure)
        ∙ +ℤ_idl there in
        let was : before ≡ here =
        replaced-figure figure a s b.records (adjusted_record r) r (adjusted-stands b.records k n) live
        ∙ ap₂ (λ (x y : ℤ). amount_at x y (figure r) a s) in-from.same-account in-from.same-series in
        let gone : here +ℤ out ≡ pos 0 = amount-sum from series a s (figure r) left ∙ ap (λ (z : ℤ). amount_at from series z a s) h ∙ amount-zero from series a s in
        omega (zarith, nothing-changed, one-added, was, gone, +-lin changed added, +-lin here out, +-lin out there, +-lin before (out +ℤ there))

    pub transfer-effects-add : eq_z from to ≡ false → BookingFacts b effects → Adds b (booked effects b) a s (transfer_amounts r from to series a s)
    unfolding moved signed_quantity signed_value adjustable_record
    transfer-effects-add differ facts =
        let side : ℤ = r.side in
        let q : ℤ = r.quantity in
        let p : Position = moved old (in_side side (neg_ℤ q) r.price) in
        let p-later : Position = moved new (in_side side q r.price) in
        effects-add b sound effects facts (once (adjusted_record r)) a s _
        (moves signed_quantity (signed side (neg_ℤ q)) (no-quantity side q))
        (moves signed_value (signed side (neg_ℤ q) *ℤ r.price) (no_value side q r.price))
        (stored-two (λ (x : Position). x.quantity) from to series differ p p-later b.positions (signed side (neg_ℤ q)) (signed side q)
        (read-key from series b.positions) refl (read-key to series b.positions) refl a s)
        (stored-two (λ (x : Position). x.value) from to series differ p p-later b.positions (signed side (neg_ℤ q) *ℤ r.price) (signed side q *ℤ r.price)
        (read-key from series b.positions) refl (read-key to series b.positions) refl a s)

-- ---- the request

stands-in-from : (b : Books) (id suffix from to series : ℤ) → Accepts b (transfer id suffix from to series) → StandsIn from series (record_of b.records (key_of id suffix))
unfolding plan_of transfer_plan view_of test
stands-in-from b id suffix from to series accepted = stands-in from series (record_of b.records (key_of id suffix)) (own-passed b _ _ accepted).1.1.0

pub transfer-adds : (b : Books) → SoundBooks b → (id suffix from to series : ℤ) → Accepts b (transfer id suffix from to series) → (a s : ℤ) →
    Adds b (after b (transfer id suffix from to series)) a s (amounts_of (view_of b) (transfer id suffix from to series) a s)
unfolding plan_of transfer_plan plan_books view_of amounts_of
transfer-adds b sound id suffix from to series accepted a s =
    let p : TransferPassed b.records id suffix from to = transfer-passed b id suffix from to series accepted in
    let r : Record = record_of b.records (key_of id suffix) in
    transfer-effects-add b sound id suffix from to series transfer_kind transfer_kind a s
    (named b.records (key_of id suffix) sound.records-sound p.record-found p.record-adjustable) (named_live r p.record-adjustable)
    (stands-in-from b id suffix from to series accepted) p.accounts-differ (transfer-facts b sound id suffix from to series accepted)
