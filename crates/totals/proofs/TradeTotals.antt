-- An accepted trade on sound books adds its signed quantity, and that times its price, to the sums and to the stored figures of its position. Its one record is new and counts. Assumes nothing.
use mathlib.Core.Path.{◌≡◌, refl, ◌∙◌, ap}
use mathlib.Core.List.{[], ◌∷◌}
use lib.IntN.{ℤ, ◌+ℤ◌, ◌*ℤ◌}
use Rattle.rules.specs.Figures.{signed}
use Rattle.rules.specs.Rows.{record_key, new_record, in_booked, moved}
use Rattle.rules.specs.Request.{trade}
use Rattle.rules.specs.Books.{Books, view_of}
use Rattle.rules.specs.Plan.{plan_books}
use Rattle.rules.specs.Handle.{plan_of}
use Rattle.rules.specs.Trade.{closed_by, long_booked, short_booked, is_closing_error, trade_kind, trade_plan}
use Rattle.rules.specs.Totals.{signed_quantity, signed_value, sum_over}
use Rattle.rules.specs.declared.Record.{Record}
use Rattle.rules.specs.declared.Position.{Position}
use Rattle.keys.proofs.Counts.{distinct_nil}
use Rattle.soundness.specs.SoundBooks.{SoundBooks, Accepts, after}
use Rattle.soundness.proofs.ReadPosition.{read_at, read-key}
use Rattle.soundness.proofs.Trade.{trade-facts}
use Rattle.totals.specs.Replaced.{replaced}
use Rattle.totals.specs.Amounts.{amount_at, amounts_of}
use Rattle.totals.specs.Adds.{Adds}
use Rattle.totals.proofs.LiveSums.{live_at, live-figure, adjustable-live}
use Rattle.totals.proofs.Stored.{stored_one}
use Rattle.totals.proofs.EffectsAdd.{effects-add, sum_one}

-- One new record that counts.
new-counts : (figure : Record → ℤ) (a s today id kind account series side quantity price long short : ℤ) →
    (let row : Record = new_record today id kind account series side quantity price long short in
    sum_over (live_at figure a s) [] +ℤ sum_over (live_at figure a s) (row ∷ []) ≡ sum_over (live_at figure a s) [] +ℤ amount_at account series (figure row) a s)
unfolding new_record
new-counts figure a s today id kind account series side quantity price long short =
    let row : Record = new_record today id kind account series side quantity price long short in
    ap (λ (z : ℤ). sum_over (live_at figure a s) [] +ℤ z) (sum_one (live_at figure a s) row ∙ live-figure figure a s row (adjustable-live row refl))

pub trade-adds : (b : Books) → SoundBooks b → (id account series side quantity price : ℤ) → Accepts b (trade id account series side quantity price) → (a s : ℤ) →
    Adds b (after b (trade id account series side quantity price)) a s (amounts_of (view_of b) (trade id account series side quantity price) a s)
unfolding plan_of trade_plan plan_books view_of amounts_of new_record moved signed_quantity signed_value replaced
trade-adds b sound id account series side quantity price accepted a s =
    let old : Position = read_at account series b.positions in
    let c : ℤ = closed_by side quantity old in
    let long : ℤ = long_booked side quantity c in
    let short : ℤ = short_booked side quantity c in
    let kind : ℤ = trade_kind (is_closing_error side quantity c) in
    let new : Position = moved old (in_booked side quantity price long short) in
    effects-add b sound _ (trade-facts b sound id account series side quantity price accepted) (distinct_nil record_key) a s _
    (new-counts signed_quantity a s b.day id kind account series side quantity price long short)
    (new-counts signed_value a s b.day id kind account series side quantity price long short)
    (stored_one (λ (p : Position). p.quantity) account series new b.positions (signed side quantity) (read-key account series b.positions) refl a s)
    (stored_one (λ (p : Position). p.value) account series new b.positions (signed side quantity *ℤ price) (read-key account series b.positions) refl a s)
