-- The tests of a trade in the shape in which code meets them, and the tables and answer of an accepted one. 13 never applies: the new row's suffix is 0.
-- By the definitions. Assumes nothing.
use Prim.Native.Nat.{ℕ, ◌+◌}
use mathlib.Core.Path.{◌≡◌, refl, ◌∙◌, ap}
use mathlib.Core.Bool.{Bool, true, false, not}
use mathlib.Core.List.{List, [], ◌∷◌}
use lib.Dec.{ltb}
use lib.IntN.{ℤ, pos, ◌-ℤ◌}
use lib.ListN.{length}
use Rattle.rules.specs.Keyed.{greatest, is_some, upsert, upsert_all}
use Rattle.rules.specs.Rows.{record_key, position_key, new_record, in_booked, moved, sound_position}
use Rattle.rules.specs.Refusal.{test, any_of, all_of, first_refusal}
use Rattle.rules.specs.Request.{trade}
use Rattle.rules.specs.Books.{view_of}
use Rattle.rules.specs.Plan.{plan_tests, booking_tests, process_room_test, suffix_is_above, booked, plan_reply}
use Rattle.rules.specs.Trade.{trade_figures, closed_by, long_booked, short_booked, is_closing_error, trade_kind, trade_reply, trade_plan}
use Rattle.rules.specs.Layout.{room_of, rows_of, write}
use Rattle.rules.specs.Tables.{current_day, books_of, write_books, records_layout, positions_layout}
use Rattle.rules.specs.Handle.{plan_of, plan_tables, written_by, answered}
use Rattle.rules.specs.declared.Record.{Record}
use Rattle.rules.specs.declared.Position.{Position}
use Rattle.rules.specs.declared.Movement.{Movement}
use Rattle.rules.specs.declared.Reply.TheVariants.{Booked, ClosingError}
use Rattle.verdict.specs.Verdict.{verdict_on, accepted_on, absent_position}
use Rattle.verdict.proofs.Remaining.{Listed, row, from_test, Remaining, and-true}
use Rattle.verdict.proofs.Room.{position_read, absent-one}

-- What a trade closes and books, the position that it leaves, and its row.
module _ (ps : List ℤ) (account series side quantity : ℤ) where
  abbrev pub trade_closed : ℤ
  trade_closed = closed_by side quantity (position_read ps account series)

  abbrev pub trade_long : ℤ
  trade_long = long_booked side quantity trade_closed

  abbrev pub trade_short : ℤ
  trade_short = short_booked side quantity trade_closed

  abbrev pub trade_error : Bool
  trade_error = is_closing_error side quantity trade_closed

  abbrev pub trade_movement : ℤ → Movement
  trade_movement price = in_booked side quantity price trade_long trade_short

  abbrev pub trade_position : ℤ → Position
  trade_position price = moved (position_read ps account series) (trade_movement price)

  abbrev pub trade_row : (today id price : ℤ) → Record
  trade_row today id price = new_record today id (trade_kind trade_error) account series side quantity price trade_long trade_short

module _ (rs ps : List ℤ) (id account series side quantity price : ℤ) where
  -- ---- the verdict

  abbrev trade_tests : List Listed
  trade_tests =
      row 3 (not (trade_figures id account series side quantity price))
      ∷ row 4 (is_some (greatest record_key id (rows_of records_layout rs)))
      ∷ row 14 (ltb (room_of records_layout rs) (length (rows_of records_layout rs) + 1))
      ∷ row 15 (ltb (room_of positions_layout ps) (length (rows_of positions_layout ps) + absent_position ps account series))
      ∷ row 16 (not (sound_position (trade_position ps account series side quantity price)))
      ∷ []

  -- The verdict is that of the tests from number n on.
  abbrev pub TradeFrom : ℕ → Type 0
  TradeFrom n = Remaining (verdict_on rs ps (trade id account series side quantity price)) (from_test n trade_tests)

  pub trade-tests : TradeFrom 3
  unfolding verdict_on plan_of trade_plan view_of books_of plan_tests booking_tests process_room_test suffix_is_above new_record any_of all_of first_refusal test
  trade-tests = record { is = rw (absent-one, and-true) }

  -- ---- the booking

  abbrev records_after : List ℤ
  records_after = write records_layout rs (upsert record_key (trade_row ps account series side quantity (current_day rs) id price) (rows_of records_layout rs))

  abbrev positions_after : List ℤ
  positions_after = write positions_layout ps (upsert position_key (trade_position ps account series side quantity price) (rows_of positions_layout ps))

  pub trade-booked : accepted_on rs ps (trade id account series side quantity price)
      ≡ answered (trade_reply (trade_error ps account series side quantity) (quantity -ℤ trade_closed ps account series side quantity)) records_after positions_after
  unfolding accepted_on plan_of trade_plan view_of books_of plan_reply plan_tables written_by write_books booked upsert_all
  trade-booked = refl

  pub trade-booked-error : trade_error ps account series side quantity ≡ true → accepted_on rs ps (trade id account series side quantity price)
      ≡ answered (ClosingError (quantity -ℤ trade_closed ps account series side quantity)) records_after positions_after
  unfolding trade_reply
  trade-booked-error e = trade-booked ∙ ap (λ (b : Bool). answered (trade_reply b (quantity -ℤ trade_closed ps account series side quantity)) records_after positions_after) e

  pub trade-booked-plain : trade_error ps account series side quantity ≡ false → accepted_on rs ps (trade id account series side quantity price)
      ≡ answered (Booked (pos 1) (pos 0)) records_after positions_after
  unfolding trade_reply
  trade-booked-plain e = trade-booked ∙ ap (λ (b : Bool). answered (trade_reply b (quantity -ℤ trade_closed ps account series side quantity)) records_after positions_after) e
