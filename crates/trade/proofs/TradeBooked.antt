-- What a trade closes and books, by its side, in the shape in which the code returns it; the ranges of what it opens and undoes; and the position that it leaves.
-- By the definitions. Assumes nothing.
use mathlib.Core.Path.{◌≡◌}
use mathlib.Core.Bool.{Bool, true, false, ◌&&◌}
use mathlib.Core.List.{List}
use lib.IntN.{ℤ, pos, neg_ℤ, ◌-ℤ◌}
use lib.Signed.{lt_z, le_z, ◌≤ℤ◌}
use mir.Syntax.{w64}
use mir.Val.{SFits}
use Rattle.integers.proofs.Linear.{zarith, neg-lin, minus-lin}
use Rattle.rules.specs.Figures.{valid_id, valid_account, valid_series, valid_side, valid_quantity, valid_price, is_buy, is_to_close, most_quantity}
use Rattle.rules.specs.Rows.{key_of, position_key, in_booked, sound_position, moved}
use Rattle.rules.specs.Layout.{rows_of}
use Rattle.rules.specs.Tables.{positions_layout}
use Rattle.rules.specs.Trade.{trade_figures, open_against, smaller, closed_by, long_booked, short_booked, is_closing_error}
use Rattle.rules.specs.declared.Position.{Position}
use Rattle.keys.proofs.Split.{and_left, and_right}
use Rattle.soundness.proofs.FigureRanges.{magnitude-range, quantity-range}
use Rattle.soundness.proofs.ReadPosition.{read-key}
use Rattle.verdict.specs.MovedReady.{MovedReady}
use Rattle.verdict.proofs.Moves.{closed-range, trade-moves}
use Rattle.verdict.proofs.Room.{position_read}
use Rattle.verdict.proofs.Trade.{trade_closed, trade_error, trade_movement, trade_position}
use Rattle.trade.specs.Booking.{booking_of, position_after}
use Rattle.trade.specs.declared.Booking.{Booking}

-- Figures that pass test 3 have a quantity in range.
pub figures-quantity : (id account series side quantity price : ℤ) → trade_figures id account series side quantity price ≡ true → valid_quantity quantity ≡ true
unfolding trade_figures
figures-quantity id account series side quantity price h =
    let first : Bool = valid_id id && valid_account account && valid_series series && valid_side side in
    and_right first (valid_quantity quantity) (and_left (first && valid_quantity quantity) (valid_price price) h)

-- Figures that pass test 3 have a price in range.
pub figures-price : (id account series side quantity price : ℤ) → trade_figures id account series side quantity price ≡ true → valid_price price ≡ true
unfolding trade_figures
figures-price id account series side quantity price h =
    and_right (valid_id id && valid_account account && valid_series series && valid_side side && valid_quantity quantity) (valid_price price) h

pub quantity_fits : (q : ℤ) → valid_quantity q ≡ true → SFits w64 q
quantity_fits q h =
    let range : (pos 1 ≤ℤ q) × (q ≤ℤ pos most_quantity) = quantity-range q h in
    omega zarith

pub price_fits : (z : ℤ) → valid_price z ≡ true → SFits w64 z
unfolding valid_price
price_fits z h =
    let range : (neg_ℤ (pos 1000000000000) ≤ℤ z) × (z ≤ℤ pos 1000000000000) = magnitude-range 1000000000000 z h in
    omega (zarith, neg-lin (pos 1000000000000))

-- ---- what is closed

module _ (side quantity : ℤ) (p : Position) where
  pub opens : is_to_close side ≡ false → pos 0 ≡ closed_by side quantity p
  unfolding closed_by
  opens h = rw h

  pub closes-all : is_to_close side ≡ true → le_z quantity (open_against side p) ≡ true → quantity ≡ closed_by side quantity p
  unfolding closed_by smaller
  closes-all h k = rw (h, k)

  pub closes-some : is_to_close side ≡ true → le_z quantity (open_against side p) ≡ false → open_against side p ≡ closed_by side quantity p
  unfolding closed_by smaller
  closes-some h k = rw (h, k)

pub against-buy : (side : ℤ) (p : Position) → is_buy side ≡ true → p.short ≡ open_against side p
unfolding open_against
against-buy side p h = rw h

pub against-sell : (side : ℤ) (p : Position) → is_buy side ≡ false → p.long ≡ open_against side p
unfolding open_against
against-sell side p h = rw h

-- ---- the booking

module _ (side quantity : ℤ) (p : Position) where
  abbrev c : ℤ
  c = closed_by side quantity p

  pub error-open : is_to_close side ≡ false → false ≡ is_closing_error side quantity c
  unfolding is_closing_error
  error-open h = rw h

  pub error-close : is_to_close side ≡ true → lt_z c quantity ≡ is_closing_error side quantity c
  unfolding is_closing_error
  error-close h = rw h

  negated : (pos 0 -ℤ c) ≡ neg_ℤ c
  negated = omega (zarith, minus-lin (pos 0) c, neg-lin c)

  module _ (price : ℤ) (error : Bool) (told : error ≡ is_closing_error side quantity c) where
    pub booking-buy : is_buy side ≡ true →
        ◌≡◌ {A = Booking} (record { closed = c; movement = in_booked side quantity price (quantity -ℤ c) (pos 0 -ℤ c); error = error }) (booking_of side quantity price p)
    unfolding booking_of long_booked short_booked
    booking-buy h = rw (h, told, negated)

    pub booking-sell : is_buy side ≡ false →
        ◌≡◌ {A = Booking} (record { closed = c; movement = in_booked side quantity price (pos 0 -ℤ c) (quantity -ℤ c); error = error }) (booking_of side quantity price p)
    unfolding booking_of long_booked short_booked
    booking-sell h = rw (h, told, negated)

  -- ---- the ranges

  module _ (valid : valid_quantity quantity ≡ true) (sound : sound_position p ≡ true) where
    pub opened-fits : SFits w64 (quantity -ℤ c)
    opened-fits =
        let range : (pos 0 ≤ℤ c) × (c ≤ℤ quantity) = closed-range side quantity p sound valid in
        let most : quantity ≤ℤ pos most_quantity = (quantity-range quantity valid).1 in
        omega (zarith, minus-lin quantity c)

    pub undone-fits : SFits w64 (pos 0 -ℤ c)
    undone-fits =
        let range : (pos 0 ≤ℤ c) × (c ≤ℤ quantity) = closed-range side quantity p sound valid in
        let most : quantity ≤ℤ pos most_quantity = (quantity-range quantity valid).1 in
        omega (zarith, minus-lin (pos 0) c)

    pub booking-moves : (price : ℤ) → valid_price price ≡ true → (b : Booking) → b ≡ booking_of side quantity price p → MovedReady p b.movement
    unfolding booking_of
    booking-moves price price-valid b e = rw e (trade-moves side quantity p sound valid price price-valid)

-- ---- of the position that is read

module _ (ps : List ℤ) (account series side quantity price : ℤ) where
  module _ (p : Position) (b : Booking) (e : p ≡ position_read ps account series) (f : b ≡ booking_of side quantity price p) where
    pub closed_is : b.closed ≡ trade_closed ps account series side quantity
    unfolding booking_of
    closed_is = rw (f, e)

    pub movement-is : b.movement ≡ trade_movement ps account series side quantity price
    unfolding booking_of
    movement-is = rw (f, e)

    pub error-is : b.error ≡ trade_error ps account series side quantity
    unfolding booking_of
    error-is = rw (f, e)

    pub moved-is : moved p b.movement ≡ trade_position ps account series side quantity price
    unfolding booking_of
    moved-is = rw (f, e)

  pub after_is : (p : Position) → p ≡ position_read ps account series → position_after side quantity price p ≡ trade_position ps account series side quantity price
  unfolding position_after booking_of
  after_is p e = rw e

  -- The position that is left has the account and series that were named.
  pub left_key : position_key (trade_position ps account series side quantity price) ≡ key_of account series
  unfolding moved
  left_key = read-key account series (rows_of positions_layout ps)
