-- An accepted separation on sound books changes neither sum, and moves no position: its parts have the record's account, series, side and price, and their quantities sum to its own (test 11).
-- By induction on the parts. Assumes nothing.
use mathlib.Core.Path.{◌≡◌, refl, sym, ◌∙◌, ap, ap₂}
use mathlib.Core.List.{List, [], ◌∷◌}
use borrow.Author.Tests.{not-false}
use lib.IntN.{ℤ, pos, ◌+ℤ◌, ◌*ℤ◌, +ℤ_idl, +ℤ_idr, zero-*ℤ}
use Rattle.integers.specs.Order.{eq_z}
use Rattle.integers.proofs.Parts.{eq_z-true}
use Rattle.integers.proofs.Ring.{+ℤ-*ℤ}
use Rattle.rules.specs.Figures.{signed, separation_kind}
use Rattle.rules.specs.Keyed.{Key}
use Rattle.rules.specs.Rows.{key_of, adjusted_record, inverse_record, adjustable_record}
use Rattle.rules.specs.Refusal.{test}
use Rattle.rules.specs.Request.{separate}
use Rattle.rules.specs.Books.{Books, view_of}
use Rattle.rules.specs.Plan.{plan_books}
use Rattle.rules.specs.Handle.{plan_of}
use Rattle.rules.specs.Separation.{sum_of, part_records, separation_plan}
use Rattle.rules.specs.Totals.{signed_quantity, signed_value, sum_over}
use Rattle.rules.specs.declared.Record.{Record}
use Rattle.rules.specs.declared.Position.{Position}
use Rattle.soundness.specs.SoundBooks.{SoundBooks, Accepts, after}
use Rattle.soundness.proofs.Accepted.{own-passed}
use Rattle.soundness.proofs.NamedRecord.{record_of, next_of, Named, named, adjusted-stands}
use Rattle.soundness.proofs.Separation.{SeparationPassed, separation-passed, separation-facts}
use Rattle.totals.specs.Replaced.{replaced}
use Rattle.totals.specs.Amounts.{amount_at, amounts_of}
use Rattle.totals.specs.Adds.{Adds}
use Rattle.totals.proofs.Sums.{sum-cons}
use Rattle.totals.proofs.LiveSums.{live_at, no-figure, adjustable-live, named_live, adjusted-gone, inverse-gone}
use Rattle.totals.proofs.Stored.{stored-none}
use Rattle.totals.proofs.EffectsAdd.{effects-add, once, gone-figure, replaced-figure, AllLive, sum-all, signed-zero, signed-sum}

-- Test 11 does not apply.
parts-sum : (b : Books) (id suffix account series : ℤ) (parts : List ℤ) → Accepts b (separate id suffix account series parts) → sum_of parts ≡ (record_of b.records (key_of id suffix)).quantity
unfolding plan_of separation_plan view_of test
parts-sum b id suffix account series parts accepted =
    let q : ℤ = (record_of b.records (key_of id suffix)).quantity in
    eq_z-true (sum_of parts) q (not-false (eq_z (sum_of parts) q) (own-passed b _ _ accepted).1.1.1.1.0)

-- ---- the parts

parts-live : (today : ℤ) (r : Record) (suffix : ℤ) (parts : List ℤ) → AllLive r.account r.series (part_records today r suffix parts)
unfolding part_records adjustable_record
parts-live today r suffix [] = tt
parts-live today r suffix (q ∷ rest) =
    (adjustable-live (adjustable_record today r suffix separation_kind r.account q (pos 0) (pos 0)) refl, refl, refl, parts-live today r (suffix +ℤ pos 1) rest)

parts-quantity : (today : ℤ) (r : Record) (suffix : ℤ) (parts : List ℤ) → sum_over signed_quantity (part_records today r suffix parts) ≡ signed r.side (sum_of parts)
unfolding part_records adjustable_record sum_over signed_quantity sum_of
parts-quantity today r suffix [] = sym (signed-zero r.side)
parts-quantity today r suffix (q ∷ rest) =
    ap (λ (z : ℤ). signed r.side q +ℤ z) (parts-quantity today r (suffix +ℤ pos 1) rest) ∙ signed-sum r.side q (sum_of rest)

parts-value : (today : ℤ) (r : Record) (suffix : ℤ) (parts : List ℤ) → sum_over signed_value (part_records today r suffix parts) ≡ signed r.side (sum_of parts) *ℤ r.price
unfolding part_records adjustable_record sum_over signed_quantity signed_value sum_of
parts-value today r suffix [] = sym (ap (λ (z : ℤ). z *ℤ r.price) (signed-zero r.side) ∙ zero-*ℤ r.price)
parts-value today r suffix (q ∷ rest) =
    ap (λ (z : ℤ). signed r.side q *ℤ r.price +ℤ z) (parts-value today r (suffix +ℤ pos 1) rest)
    ∙ sym (+ℤ-*ℤ (signed r.side q) (signed r.side (sum_of rest)) r.price)
    ∙ ap (λ (z : ℤ). z *ℤ r.price) (signed-sum r.side q (sum_of rest))

-- ---- the request

module _ (b : Books) (sound : SoundBooks b) (id suffix account series : ℤ) (parts : List ℤ) (accepted : Accepts b (separate id suffix account series parts)) (a s : ℤ) where
  abbrev k : Key
  k = key_of id suffix

  abbrev r : Record
  r = record_of b.records k

  abbrev next : ℤ
  next = next_of b.records id

  -- Of a figure that the parts have together as the record has it.
  parts-count : (figure : Record → ℤ) → sum_over figure (part_records b.day r (next +ℤ pos 1) parts) ≡ figure r →
      sum_over (live_at figure a s) (adjusted_record r ∷ [])
      +ℤ sum_over (live_at figure a s) (inverse_record b.day r next separation_kind (pos 0) (pos 0) (pos 0) ∷ part_records b.day r (next +ℤ pos 1) parts)
      ≡ sum_over (live_at figure a s) (replaced b.records (adjusted_record r ∷ [])) +ℤ pos 0
  parts-count figure same =
      let p : SeparationPassed b.records id suffix parts = separation-passed b id suffix account series parts accepted in
      let n : Named b.records k = named b.records k sound.records-sound p.record-found p.record-adjustable in
      let inverted : Record = inverse_record b.day r next separation_kind (pos 0) (pos 0) (pos 0) in
      let rows : List Record = part_records b.day r (next +ℤ pos 1) parts in
      let changed : sum_over (live_at figure a s) (adjusted_record r ∷ []) ≡ pos 0 = gone-figure figure a s (adjusted_record r) (adjusted-gone r) in
      let added : sum_over (live_at figure a s) (inverted ∷ rows) ≡ amount_at r.account r.series (figure r) a s =
      sum-cons (live_at figure a s) inverted rows
      ∙ ap (λ (z : ℤ). z +ℤ sum_over (live_at figure a s) rows) (no-figure figure a s inverted (inverse-gone b.day r next separation_kind (pos 0) (pos 0) (pos 0)))
      ∙ +ℤ_idl (sum_over (live_at figure a s) rows)
      ∙ sum-all figure r.account r.series a s rows (parts-live b.day r (next +ℤ pos 1) parts)
      ∙ ap (λ (z : ℤ). amount_at r.account r.series z a s) same in
      let old : sum_over (live_at figure a s) (replaced b.records (adjusted_record r ∷ [])) ≡ amount_at r.account r.series (figure r) a s =
      replaced-figure figure a s b.records (adjusted_record r) r (adjusted-stands b.records k n) (named_live r p.record-adjustable) in
      ap₂ (λ (x y : ℤ). x +ℤ y) changed added ∙ +ℤ_idl (amount_at r.account r.series (figure r) a s) ∙ sym old
      ∙ sym (+ℤ_idr (sum_over (live_at figure a s) (replaced b.records (adjusted_record r ∷ []))))

  same-quantity : sum_over signed_quantity (part_records b.day r (next +ℤ pos 1) parts) ≡ signed_quantity r
  unfolding signed_quantity
  same-quantity = parts-quantity b.day r (next +ℤ pos 1) parts ∙ ap (signed r.side) (parts-sum b id suffix account series parts accepted)

  same-value : sum_over signed_value (part_records b.day r (next +ℤ pos 1) parts) ≡ signed_value r
  unfolding signed_value signed_quantity
  same-value = parts-value b.day r (next +ℤ pos 1) parts ∙ ap (λ (z : ℤ). signed r.side z *ℤ r.price) (parts-sum b id suffix account series parts accepted)

  pub separation-adds : Adds b (after b (separate id suffix account series parts)) a s (amounts_of (view_of b) (separate id suffix account series parts) a s)
  unfolding plan_of separation_plan plan_books view_of amounts_of
  separation-adds =
      effects-add b sound _ (separation-facts b sound id suffix account series parts accepted) (once (adjusted_record r)) a s _
      (parts-count signed_quantity same-quantity) (parts-count signed_value same-value)
      (stored-none (λ (p : Position). p.quantity) b.positions a s) (stored-none (λ (p : Position). p.value) b.positions a s)
