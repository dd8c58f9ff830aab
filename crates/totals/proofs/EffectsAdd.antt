-- What the effects of a plan add, from what they change in the sums and in the stored figures. And what the kinds of request share: one named record that is changed, records that count at one
-- position, and quantities on one side. By the law of sums. Assumes nothing.
use mathlib.Core.Path.{◌≡◌, refl, sym, ◌∙◌, ap, ap₂}
use mathlib.Core.Bool.{Bool, true, false, cond}
use mathlib.Core.List.{List, [], ◌∷◌}
use mathlib.Core.Option.{Option, some}
use lib.IntN.{ℤ, pos, neg_ℤ, ◌+ℤ◌, +ℤ_idr}
use Rattle.integers.proofs.Linear.{zarith, +-lin, neg-lin}
use Rattle.rules.specs.Figures.{is_buy, signed}
use Rattle.rules.specs.Keyed.{find, upsert_all}
use Rattle.rules.specs.Rows.{record_key, position_key}
use Rattle.rules.specs.NamedRecord.{the_record}
use Rattle.rules.specs.Books.{Books, view_of}
use Rattle.rules.specs.Plan.{Effects, booked}
use Rattle.rules.specs.Totals.{is_live, signed_quantity, signed_value, sum_over}
use Rattle.rules.specs.declared.Record.{Record}
use Rattle.keys.proofs.Clauses.{all_of-nil}
use Rattle.keys.proofs.Counts.{distinct, distinct_nil, distinct-intro}
use Rattle.soundness.specs.SoundBooks.{SoundBooks}
use Rattle.soundness.proofs.BookingFacts.{BookingFacts}
use Rattle.soundness.proofs.ReadPosition.{read_at}
use Rattle.totals.specs.Replaced.{replaced}
use Rattle.totals.specs.Amounts.{Amounts, amount_at}
use Rattle.totals.specs.Adds.{Adds}
use Rattle.totals.proofs.Sums.{sum-nil, sum-cons, booked-sum}
use Rattle.totals.proofs.LiveSums.{amount-zero, amount-sum, live_at, live-figure, no-figure, total-quantity, total-value}

-- ---- effects

-- The effects change the sum of a figure over a position's records by this amount: those changed and added have it, and those replaced had the rest.
abbrev pub Changes : (Record → ℤ) → Books → Effects → (account series amount : ℤ) → Type 0
Changes figure b e account series amount =
    sum_over (live_at figure account series) e.changed +ℤ sum_over (live_at figure account series) e.added
    ≡ sum_over (live_at figure account series) (replaced b.records e.changed) +ℤ amount

module _ (b : Books) (sound : SoundBooks b) (e : Effects) (facts : BookingFacts b e) (once : distinct record_key e.changed ≡ true) (account series : ℤ) where
  sum-grows : (figure : Record → ℤ) (amount : ℤ) → Changes figure b e account series amount →
      sum_over (live_at figure account series) (booked e b).records ≡ sum_over (live_at figure account series) b.records +ℤ amount
  sum-grows figure amount h =
      let before : ℤ = sum_over (live_at figure account series) b.records in
      let end : ℤ = sum_over (live_at figure account series) (booked e b).records in
      let old : ℤ = sum_over (live_at figure account series) (replaced b.records e.changed) in
      let new : ℤ = sum_over (live_at figure account series) e.changed +ℤ sum_over (live_at figure account series) e.added in
      let whole : end +ℤ old ≡ before +ℤ new = booked-sum (live_at figure account series) b sound e facts once in
      omega (zarith, h, +-lin end old, +-lin before new, +-lin old amount, +-lin before amount)

  pub effects-add : (amounts : Amounts) → Changes signed_quantity b e account series amounts.quantity → Changes signed_value b e account series amounts.value →
      (read_at account series (upsert_all position_key e.positions b.positions)).quantity ≡ (read_at account series b.positions).quantity +ℤ amounts.quantity →
      (read_at account series (upsert_all position_key e.positions b.positions)).value ≡ (read_at account series b.positions).value +ℤ amounts.value →
      Adds b (booked e b) account series amounts
  unfolding view_of booked
  effects-add amounts quantity value stored-quantity stored-value = record {
    quantity-summed =
        total-quantity account series (booked e b).records ∙ sum-grows signed_quantity amounts.quantity quantity
        ∙ ap (λ (z : ℤ). z +ℤ amounts.quantity) (sym (total-quantity account series b.records));
    value-summed =
        total-value account series (booked e b).records ∙ sum-grows signed_value amounts.value value
        ∙ ap (λ (z : ℤ). z +ℤ amounts.value) (sym (total-value account series b.records));
    quantity-stored = stored-quantity;
    value-stored = stored-value;
  }

-- ---- one record changed

pub once : (r : Record) → distinct record_key (r ∷ []) ≡ true
once r = distinct-intro record_key r [] all_of-nil (distinct_nil record_key)

replaced-one : (t : List Record) (new old : Record) → find record_key (record_key new) t ≡ some old → replaced t (new ∷ []) ≡ old ∷ []
unfolding replaced the_record
replaced-one t new old f = ap (λ (o : Option Record). the_record o ∷ []) f

pub sum_one : (figure : Record → ℤ) (r : Record) → sum_over figure (r ∷ []) ≡ figure r
sum_one figure r = sum-cons figure r [] ∙ ap (λ (z : ℤ). figure r +ℤ z) (sum-nil figure) ∙ +ℤ_idr (figure r)

pub gone-figure : (figure : Record → ℤ) (account series : ℤ) (r : Record) → is_live r ≡ false → sum_over (live_at figure account series) (r ∷ []) ≡ pos 0
gone-figure figure account series r h = sum_one (live_at figure account series) r ∙ no-figure figure account series r h

pub replaced-figure : (figure : Record → ℤ) (account series : ℤ) (t : List Record) (new old : Record) → find record_key (record_key new) t ≡ some old → is_live old ≡ true →
    sum_over (live_at figure account series) (replaced t (new ∷ [])) ≡ amount_at old.account old.series (figure old) account series
replaced-figure figure account series t new old f h =
    ap (sum_over (live_at figure account series)) (replaced-one t new old f) ∙ sum_one (live_at figure account series) old ∙ live-figure figure account series old h

-- ---- records that count, all of one account and series

abbrev pub AllLive : (own_account own_series : ℤ) → List Record → Type 0
AllLive own_account own_series [] = Unit {0}
AllLive own_account own_series (r ∷ rest) = (is_live r ≡ true) × (r.account ≡ own_account) × (r.series ≡ own_series) × AllLive own_account own_series rest

pub sum-all : (figure : Record → ℤ) (own_account own_series account series : ℤ) (rs : List Record) → AllLive own_account own_series rs →
    sum_over (live_at figure account series) rs ≡ amount_at own_account own_series (sum_over figure rs) account series
unfolding sum_over
sum-all figure own_account own_series account series [] h = sym (amount-zero own_account own_series account series)
sum-all figure own_account own_series account series (r ∷ rest) h =
    ap₂ (λ (x y : ℤ). x +ℤ y)
    (live-figure figure account series r h.0 ∙ ap₂ (λ (x y : ℤ). amount_at x y (figure r) account series) h.1 h.2)
    (sum-all figure own_account own_series account series rest h.3)
    ∙ amount-sum own_account own_series account series (figure r) (sum_over figure rest)

-- ---- quantities on one side

pub signed-zero : (side : ℤ) → signed side (pos 0) ≡ pos 0
unfolding signed
signed-zero side = go (is_buy side)
  where
    go : (c : Bool) → cond c (pos 0) (neg_ℤ (pos 0)) ≡ pos 0
    go true = refl
    go false = refl

pub signed-sum : (side x y : ℤ) → signed side x +ℤ signed side y ≡ signed side (x +ℤ y)
unfolding signed
signed-sum side x y = go (is_buy side)
  where
    go : (c : Bool) → cond c x (neg_ℤ x) +ℤ cond c y (neg_ℤ y) ≡ cond c (x +ℤ y) (neg_ℤ (x +ℤ y))
    go true = refl
    go false = omega (zarith, +-lin (neg_ℤ x) (neg_ℤ y), neg-lin x, neg-lin y, +-lin x y, neg-lin (x +ℤ y))
