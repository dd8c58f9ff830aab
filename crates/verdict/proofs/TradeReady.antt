-- What the booking of an accepted trade requires: its row is sound, absent and has room; the position it leaves is sound and has room. And what the booking
-- comes to. Assumes nothing.
use mathlib.Core.Path.{◌≡◌, sym, ◌∙◌, ap}
use mathlib.Core.Bool.{Bool, true, false}
use mathlib.Core.List.{List, [], ◌∷◌}
use lib.IntN.{ℤ, pos, ◌-ℤ◌}
use Rattle.rules.specs.Figures.{valid_quantity, valid_price, original_kind, closing_error_kind}
use Rattle.rules.specs.Rows.{record_key, position_key, new_record}
use Rattle.rules.specs.Request.{trade}
use Rattle.rules.specs.Books.{view_of}
use Rattle.rules.specs.Trade.{trade_kind, trade_plan}
use Rattle.rules.specs.Tables.{current_day, books_of, records_layout, positions_layout, sound_records, sound_positions, tables_of}
use Rattle.rules.specs.Handle.{plan_of, answered}
use Rattle.rules.specs.declared.Record.{Record}
use Rattle.rules.specs.declared.Reply.TheVariants.{Booked, ClosingError}
use Rattle.cells.proofs.RowCells.{records-lawful, positions-lawful}
use Rattle.cells.proofs.SoundCells.{record-rows-sound, records-known, positions-known}
use Rattle.soundness.specs.SoundBooks.{Accepts}
use Rattle.soundness.proofs.Trade.{trade-passed, trade-facts}
use Rattle.verdict.specs.MovedReady.{MovedReady}
use Rattle.verdict.specs.Verdict.{verdict_on, accepted_on}
use Rattle.verdict.specs.Verdict.{Accepted}
use Rattle.verdict.proofs.Acceptance.{sound-books, accepted-accepts}
use Rattle.verdict.proofs.Puts.{put_one, put-none}
use Rattle.verdict.proofs.Ready.{Ready, ready, InsertReady, insert-ready, PutReady, put-ready}
use Rattle.verdict.proofs.Room.{position_read}
use Rattle.verdict.proofs.SoundReads.{position-read-sound}
use Rattle.verdict.proofs.Moves.{trade-moves}
use Rattle.verdict.proofs.Trade.{trade_closed, trade_long, trade_short, trade_error, trade_movement, trade_position, trade_row, trade-booked-error, trade-booked-plain}

module _ (rs ps : List ℤ) (id account series side quantity price : ℤ)
    (records-sound : sound_records rs ≡ true) (positions-sound : sound_positions ps ≡ true)
    (accepted : verdict_on rs ps (trade id account series side quantity price) ≡ Accepted) where
  pub trade-quantity : valid_quantity quantity ≡ true
  trade-quantity =
      (trade-passed (books_of (tables_of rs ps)) id account series side quantity price (accepted-accepts rs ps (trade id account series side quantity price) accepted)).quantity-valid

  pub trade-price : valid_price price ≡ true
  trade-price =
      (trade-passed (books_of (tables_of rs ps)) id account series side quantity price (accepted-accepts rs ps (trade id account series side quantity price) accepted)).price-valid

  pub trade-moved : MovedReady (position_read ps account series) (trade_movement ps account series side quantity price)
  trade-moved = trade-moves side quantity (position_read ps account series) (position-read-sound ps positions-sound account series) trade-quantity price trade-price

  pub trade-ready : Ready rs ps [] (trade_row ps account series side quantity (current_day rs) id price ∷ []) (trade_position ps account series side quantity price ∷ [])
  unfolding plan_of trade_plan view_of books_of
  trade-ready =
      let a : Accepts (books_of (tables_of rs ps)) (trade id account series side quantity price) = accepted-accepts rs ps (trade id account series side quantity price) accepted in
      ready rs ps _ _ (trade-facts (books_of (tables_of rs ps)) (sound-books rs ps records-sound positions-sound) id account series side quantity price a) a

  pub trade-insert : InsertReady rs (trade_row ps account series side quantity (current_day rs) id price)
  trade-insert =
      insert-ready rs ps [] [] [] (trade_row ps account series side quantity (current_day rs) id price) (trade_position ps account series side quantity price ∷ []) trade-ready (record-rows-sound rs records-sound)
      rs (put-none records_layout record_key records-lawful rs (records-known rs (record-rows-sound rs records-sound)).count-sound) (record-rows-sound rs records-sound)

  pub trade-put : PutReady ps (trade_position ps account series side quantity price)
  trade-put =
      put-ready rs ps [] (trade_row ps account series side quantity (current_day rs) id price ∷ []) [] [] (trade_position ps account series side quantity price) trade-ready positions-sound
      ps (put-none positions_layout position_key positions-lawful ps (positions-known ps positions-sound).count-sound) positions-sound

-- ---- what it comes to

module _ (rs ps : List ℤ) (id account series side quantity price : ℤ) (rs₁ ps₁ : List ℤ)
    (e : rs₁ ≡ put_one records_layout record_key rs (trade_row ps account series side quantity (current_day rs) id price))
    (f : ps₁ ≡ put_one positions_layout position_key ps (trade_position ps account series side quantity price)) where
  pub trade-returns-error : trade_error ps account series side quantity ≡ true
      → answered (ClosingError (quantity -ℤ trade_closed ps account series side quantity)) rs₁ ps₁ ≡ accepted_on rs ps (trade id account series side quantity price)
  trade-returns-error b =
      (λ i. answered (ClosingError (quantity -ℤ trade_closed ps account series side quantity)) (e i) (f i))
      ∙ sym (trade-booked-error rs ps id account series side quantity price b)

  pub trade-returns-plain : trade_error ps account series side quantity ≡ false
      → answered (Booked (pos 1) (pos 0)) rs₁ ps₁ ≡ accepted_on rs ps (trade id account series side quantity price)
  trade-returns-plain b = (λ i. answered (Booked (pos 1) (pos 0)) (e i) (f i)) ∙ sym (trade-booked-plain rs ps id account series side quantity price b)

-- The row by its kind, once it is known whether there is a closing error.
module _ (ps : List ℤ) (account series side quantity today id price : ℤ) where
  abbrev row_of : ℤ → Record
  row_of kind = new_record today id kind account series side quantity price (trade_long ps account series side quantity) (trade_short ps account series side quantity)

  pub trade-row-error : trade_error ps account series side quantity ≡ true → trade_row ps account series side quantity today id price ≡ row_of closing_error_kind
  unfolding trade_kind
  trade-row-error b = ap (λ (x : Bool). row_of (trade_kind x)) b

  pub trade-row-plain : trade_error ps account series side quantity ≡ false → trade_row ps account series side quantity today id price ≡ row_of original_kind
  unfolding trade_kind
  trade-row-plain b = ap (λ (x : Bool). row_of (trade_kind x)) b
