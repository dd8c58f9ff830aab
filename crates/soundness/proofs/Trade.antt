-- An accepted trade on sound books: its one row is new and sound. What it closes lies between 0 and its quantity, since open figures are not negative,
-- so its booked cells are in range. Assumes nothing.
use mathlib.Core.Path.{◌≡◌, refl}
use mathlib.Core.Bool.{Bool, true, false, cond}
use mathlib.Core.List.{[]}
use mathlib.Core.Logic.{◌⊎◌, inl, inr}
use mathlib.Core.Option.{Option, none}
use borrow.Author.Tests.{not-false}
use lib.IntN.{ℤ, pos, neg_ℤ, ◌-ℤ◌}
use lib.Signed.{le_z, ◌≤ℤ◌}
use Rattle.integers.specs.Order.{eq_z}
use Rattle.integers.proofs.Linear.{zarith, neg-lin, minus-lin}
use Rattle.rules.specs.Figures.{valid_id, valid_account, valid_series, valid_side, valid_quantity, valid_price, is_buy, is_to_close, most_quantity}
use Rattle.rules.specs.Keyed.{greatest}
use Rattle.rules.specs.Rows.{record_key, position_key, new_record, in_booked, moved, sound_record, sound_position, valid_kind, valid_booked}
use Rattle.rules.specs.Refusal.{test}
use Rattle.rules.specs.Request.{trade}
use Rattle.rules.specs.Books.{Books, view_of}
use Rattle.rules.specs.Handle.{plan_of}
use Rattle.rules.specs.Trade.{trade_figures, open_against, smaller, closed_by, long_booked, short_booked, is_closing_error, trade_kind, trade_reply, trade_plan}
use Rattle.rules.specs.Tables.{day_within}
use Rattle.rules.specs.declared.Record.{Record}
use Rattle.rules.specs.declared.Position.{Position}
use Rattle.keys.proofs.Split.{split}
use Rattle.keys.proofs.Clauses.{all_of-nil, all_of-intro}
use Rattle.keys.proofs.Greatest.{greatest-none}
use Rattle.keys.proofs.Counts.{is_some-absent, distinct_nil, distinct-intro, lacks_all-intro}
use Rattle.soundness.specs.SoundBooks.{SoundBooks, plan_on, Accepts}
use Rattle.soundness.specs.RowsAnswered.{rows_answered}
use Rattle.soundness.proofs.Accepted.{own-passed, both}
use Rattle.soundness.proofs.SoundPosition.{figures-positive}
use Rattle.soundness.proofs.ReadPosition.{read_at, read-sound}
use Rattle.soundness.proofs.FigureRanges.{quantity-range, in-booked}
use Rattle.soundness.proofs.SoundRows.{new-sound}
use Rattle.soundness.proofs.Days.{today-range, new-within}
use Rattle.soundness.proofs.BookingFacts.{PlanFacts}

-- ---- what it has passed

pub record TradePassed (id account series side quantity price : ℤ) (new_id : Option ℤ) : Type 0 where
  pub id-valid : valid_id id ≡ true
  pub account-valid : valid_account account ≡ true
  pub series-valid : valid_series series ≡ true
  pub side-valid : valid_side side ≡ true
  pub quantity-valid : valid_quantity quantity ≡ true
  pub price-valid : valid_price price ≡ true
  pub id-is-new : new_id ≡ none

pub trade-passed : (b : Books) (id account series side quantity price : ℤ) → Accepts b (trade id account series side quantity price) →
    TradePassed id account series side quantity price ((view_of b).greatest_suffix id)
unfolding plan_of trade_plan test trade_figures
trade-passed b id account series side quantity price accepted =
    let p = own-passed b _ _ accepted in
    let f1 = both _ _ (not-false (trade_figures id account series side quantity price) p.0) in
    let f2 = both _ _ f1.0 in
    let f3 = both _ _ f2.0 in
    let f4 = both _ _ f3.0 in
    let f5 = both _ _ f4.0 in
    record {
      id-valid = f5.0;
      account-valid = f5.1;
      series-valid = f4.1;
      side-valid = f3.1;
      quantity-valid = f2.1;
      price-valid = f1.1;
      id-is-new = is_some-absent ((view_of b).greatest_suffix id) p.1.0;
    }

-- ---- what it books

-- What is open against a trade is not negative.
open-positive : (side : ℤ) (p : Position) → sound_position p ≡ true → pos 0 ≤ℤ open_against side p
unfolding open_against
open-positive side p h = go (figures-positive p h).0 (figures-positive p h).1 (split (is_buy side))
  where
    go : pos 0 ≤ℤ p.long → pos 0 ≤ℤ p.short → (is_buy side ≡ true) ⊎ (is_buy side ≡ false) → pos 0 ≤ℤ cond (is_buy side) p.short p.long
    go l s (inl e) = rw e s
    go l s (inr e) = rw e l

smaller-range : (a b : ℤ) → pos 0 ≤ℤ a → pos 0 ≤ℤ b → (pos 0 ≤ℤ smaller a b) × (smaller a b ≤ℤ a)
unfolding smaller
smaller-range a b h k = go (split (le_z a b))
  where
    go : (le_z a b ≡ true) ⊎ (le_z a b ≡ false) → (pos 0 ≤ℤ cond (le_z a b) a b) × (cond (le_z a b) a b ≤ℤ a)
    go (inl e) = rw e (h, omega zarith)
    go (inr e) = rw e (k, omega zarith)

closed-range : (side quantity : ℤ) (p : Position) → sound_position p ≡ true → pos 1 ≤ℤ quantity → (pos 0 ≤ℤ closed_by side quantity p) × (closed_by side quantity p ≤ℤ quantity)
unfolding closed_by
closed-range side quantity p h q = go (split (is_to_close side))
  where
    c : ℤ
    c = smaller quantity (open_against side p)

    go : (is_to_close side ≡ true) ⊎ (is_to_close side ≡ false) → (pos 0 ≤ℤ cond (is_to_close side) c (pos 0)) × (cond (is_to_close side) c (pos 0) ≤ℤ quantity)
    go (inl e) = rw e (smaller-range quantity (open_against side p) (omega zarith) (open-positive side p h))
    go (inr e) = rw e (omega zarith, omega zarith)

module _ (side quantity c : ℤ) (low : pos 0 ≤ℤ c) (high : c ≤ℤ quantity) (most : quantity ≤ℤ pos most_quantity) where
  rest-booked : valid_booked (quantity -ℤ c) ≡ true
  rest-booked = in-booked (quantity -ℤ c) (omega (zarith, minus-lin quantity c)) (omega (zarith, minus-lin quantity c))

  closed-booked : valid_booked (neg_ℤ c) ≡ true
  closed-booked = in-booked (neg_ℤ c) (omega (zarith, neg-lin c)) (omega (zarith, neg-lin c))

  long-booked : valid_booked (long_booked side quantity c) ≡ true
  unfolding long_booked
  long-booked = go (split (is_buy side))
    where
      go : (is_buy side ≡ true) ⊎ (is_buy side ≡ false) → valid_booked (cond (is_buy side) (quantity -ℤ c) (neg_ℤ c)) ≡ true
      go (inl e) = rw e rest-booked
      go (inr e) = rw e closed-booked

  short-booked : valid_booked (short_booked side quantity c) ≡ true
  unfolding short_booked
  short-booked = go (split (is_buy side))
    where
      go : (is_buy side ≡ true) ⊎ (is_buy side ≡ false) → valid_booked (cond (is_buy side) (neg_ℤ c) (quantity -ℤ c)) ≡ true
      go (inl e) = rw e closed-booked
      go (inr e) = rw e rest-booked

kind-valid : (error : Bool) → valid_kind (trade_kind error) ≡ true
unfolding trade_kind valid_kind eq_z
kind-valid true = refl
kind-valid false = refl

one-row : (error : Bool) (excess : ℤ) → rows_answered (trade_reply error excess) ≡ pos 1
unfolding trade_reply
one-row true excess = refl
one-row false excess = refl

pub trade-facts : (b : Books) → SoundBooks b → (id account series side quantity price : ℤ) → Accepts b (trade id account series side quantity price) →
    PlanFacts b (plan_on b (trade id account series side quantity price))
unfolding plan_of trade_plan view_of new_record
trade-facts b sound id account series side quantity price accepted =
    let old : Position = read_at account series b.positions in
    let c : ℤ = closed_by side quantity old in
    let error : Bool = is_closing_error side quantity c in
    let long : ℤ = long_booked side quantity c in
    let short : ℤ = short_booked side quantity c in
    let row : Record = new_record b.day id (trade_kind error) account series side quantity price long short in
    let p : TradePassed id account series side quantity price (greatest record_key id b.records) = trade-passed b id account series side quantity price accepted in
    let q : (pos 1 ≤ℤ quantity) × (quantity ≤ℤ pos most_quantity) = quantity-range quantity p.quantity-valid in
    let closed : (pos 0 ≤ℤ c) × (c ≤ℤ quantity) = closed-range side quantity old (read-sound account series b.positions sound.positions-sound) q.0 in
    record {
      changed-present = all_of-nil;
      changed-sound = all_of-nil;
      changed-days = all_of-nil;
      added-absent = lacks_all-intro record_key b.records row [] (greatest-none record_key id (pos 0) b.records p.id-is-new) all_of-nil;
      added-distinct = distinct-intro record_key row [] all_of-nil (distinct_nil record_key);
      added-sound = all_of-intro (sound_record row) []
          (new-sound b.day id (trade_kind error) account series side quantity price long short p.id-valid (kind-valid error) p.account-valid p.series-valid p.side-valid
          q.0 q.1 p.price-valid (long-booked side quantity c closed.0 closed.1 q.1) (short-booked side quantity c closed.0 closed.1 q.1))
          all_of-nil;
      added-days = all_of-intro (day_within b.day row) [] (new-within b.day (today-range b.day b.records sound.days-sound).0 row refl) all_of-nil;
      positions-distinct = distinct-intro position_key (moved old (in_booked side quantity price long short)) [] all_of-nil (distinct_nil position_key);
      process-kept = tt;
      answered = one-row error (quantity -ℤ c);
    }
