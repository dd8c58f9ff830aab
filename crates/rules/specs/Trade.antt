-- Document 01, "Trade": names id, account, series, side code, quantity q, price.
use Rattle.std.specs.Prelude.{Bool, cond, not, ◌&&◌, [], ◌∷◌, ℤ, pos, neg_ℤ, ◌-ℤ◌}
use Rattle.std.proofs.Math.Option.{Option, none}
use Rattle.std.specs.Int.Signed.{lt_z, le_z}
use Rattle.rules.specs.Figures.{valid_id, valid_account, valid_series, valid_side, valid_quantity, valid_price, is_buy, is_to_close, original_kind, closing_error_kind}
use Rattle.rules.specs.Keyed.{is_some}
use Rattle.rules.specs.Rows.{new_record, in_booked, moved}
use Rattle.rules.specs.Refusal.{test}
use Rattle.rules.specs.Plan.{Plan, booking}
use Rattle.rules.specs.declared.Position.{Position}
use Rattle.rules.specs.declared.Reply.{Reply}
use Rattle.rules.specs.declared.Reply.TheVariants.{Booked, ClosingError}

-- 3: every figure in its range
unfoldable pub trade_figures : (id account series side quantity price : ℤ) → Bool
trade_figures id account series side quantity price =
    valid_id id && valid_account account && valid_series series && valid_side side && valid_quantity quantity && valid_price price

-- What a trade to close can close: a buy the open short, a sell the open long.
unfoldable pub open_against : ℤ → Position → ℤ
open_against side p = cond (is_buy side) p.short p.long

unfoldable pub smaller : ℤ → ℤ → ℤ
smaller a b = cond (le_z a b) a b

-- "Buy close with open short S closes c = the smaller of q and S"; "Sell close mirrors this"; a trade to open closes nothing.
unfoldable pub closed_by : ℤ → ℤ → Position → ℤ
closed_by side quantity p = cond (is_to_close side) (smaller quantity (open_against side p)) (pos 0)

-- "Buy open books long +q, sell open short +q"; a buy close "short -c, long +(q-c)", a sell close its mirror. Given c, with c = 0 to open:
unfoldable pub long_booked : ℤ → ℤ → ℤ → ℤ
long_booked side quantity c = cond (is_buy side) (quantity -ℤ c) (neg_ℤ c)

unfoldable pub short_booked : ℤ → ℤ → ℤ → ℤ
short_booked side quantity c = cond (is_buy side) (neg_ℤ c) (quantity -ℤ c)

-- "If q > c the type is 10 and the answer carries q-c (closing error); otherwise type 0", of a trade to close.
unfoldable pub is_closing_error : ℤ → ℤ → ℤ → Bool
is_closing_error side quantity c = is_to_close side && lt_z c quantity

unfoldable pub trade_kind : Bool → ℤ
trade_kind error = cond error closing_error_kind original_kind

unfoldable pub trade_reply : Bool → ℤ → Reply
trade_reply error excess = cond error (ClosingError excess) (Booked (pos 1) (pos 0))

-- `today` is the current day; `greatest` the greatest suffix of the id, where it has a record; `p` the position of the account and series; `c` what is closed.
unfoldable pub trade_plan : (today id account series side quantity price : ℤ) → Option ℤ → Position → Plan
trade_plan today id account series side quantity price greatest p =
    let c : ℤ = closed_by side quantity p in
    let error : Bool = is_closing_error side quantity c in
    let long : ℤ = long_booked side quantity c in
    let short : ℤ = short_booked side quantity c in
    booking
    (test 3 (not (trade_figures id account series side quantity price))
    ∷ test 4 (is_some greatest)
    ∷ [])
    (record {
      changed = [];
      added = new_record today id (trade_kind error) account series side quantity price long short ∷ [];
      positions = moved p (in_booked side quantity price long short) ∷ [];
      process = none;
      reply = trade_reply error (quantity -ℤ c);
    })
