-- `trade::book` meets its contract: the row and the position of the rules are put, and the answer is theirs. What each call requires follows from the verdict.
-- Assumes nothing.
use mathlib.Core.Path.{◌≡◌, sym, ◌∙◌, ap, subst}
use mathlib.Core.Bool.{Bool, true}
use mathlib.Core.List.{List, [], ◌∷◌}
use mathlib.Core.Option.{none}
use borrow.Author.Rules.{rules}
use Prim.Native.Nat.{ℕ, ◌+◌, ◌≤◌, ◌<◌}
use lib.IntN.{ℤ, ◌-ℤ◌}
use lib.ListN.{length}
use mir.Facts.{to_z-of_z}
use mir.Syntax.{w64}
use mir.Val.{SFits, to_z, of_z}
use Rattle.rules.specs.Figures.{valid_quantity, valid_price}
use Rattle.rules.specs.Keyed.{Key, find, absent_from}
use Rattle.rules.specs.Rows.{record_key, position_key, new_record, moved, sound_record, sound_position}
use Rattle.rules.specs.Layout.{room_of, rows_of}
use Rattle.rules.specs.Tables.{records_layout, positions_layout, current_day, sound_record_rows, sound_positions}
use Rattle.rules.specs.Trade.{trade_kind}
use Rattle.rules.specs.Handle.{answered}
use Rattle.rules.specs.declared.Record.{Record}
use Rattle.rules.specs.declared.Position.{Position}
use Rattle.rules.specs.declared.Movement.{Movement}
use Rattle.rules.specs.declared.Reply.TheVariants.{ClosingError}
use Rattle.lookup.specs.Lookup.{found_in, place_in}
use Rattle.std.specs.Prelude.{Result}
use Rattle.lookup.specs.Found.{found_told}
use Rattle.cells.proofs.SoundCells.{record-rows-sound}
use Rattle.scan.proofs.ReadBack.{read_back}
use Rattle.verdict.proofs.Puts.{put_one}
use Rattle.verdict.proofs.Ready.{InsertReady, PutReady}
use Rattle.verdict.proofs.Room.{position_read}
use Rattle.verdict.proofs.SoundReads.{position-read-sound}
use Rattle.verdict.proofs.Trade.{trade_closed, trade_long, trade_short, trade_error, trade_movement, trade_position, trade_row}
use Rattle.verdict.proofs.TradeReady.{trade-quantity, trade-price, trade-insert, trade-put, trade-returns-error, trade-returns-plain}
use Rattle.trade.specs.Booking.{booking_of}
use Rattle.trade.proofs.TradeBooked.{opened-fits, booking-moves, closed_is, movement-is, error-is, moved-is, left_key}
use Rattle.trade.proofs.book.Statement.{statement}
use Rattle.trade.proofs.book.Lts.{then-b, else-b}
use Rattle.trade.proofs.book.Tie as tie

-- What `insert_record` and `write_position` ask.
abbrev PlaceReady : List ℤ → ℕ → Record → Type 0
PlaceReady cells place r = (sound_record_rows cells ≡ true) × (sound_record r ≡ true) × (find record_key (record_key r) (rows_of records_layout cells) ≡ none)
    × (length (rows_of records_layout cells) < room_of records_layout cells) × (place ≡ place_in records_layout (record_key r) cells)

abbrev WriteReady : List ℤ → Result ℕ ℕ → Position → Type 0
WriteReady cells found p = (sound_positions cells ≡ true) × (sound_position p ≡ true) × (length (rows_of positions_layout cells) + absent_from position_key (rows_of positions_layout cells) (p ∷ []) ≤ room_of positions_layout cells)
    × (found_told found ≡ found_in positions_layout (position_key p) cells)

-- What the function is given, and what the rules make of it.
module _ (s : tie.Start) where
  abbrev rs : List ℤ
  rs = s.args.records.now

  abbrev ps : List ℤ
  ps = s.args.positions.now

  abbrev closed_of : ℤ
  closed_of = trade_closed ps s.args.t.account s.args.t.series s.args.t.side s.args.t.quantity

  abbrev error_of : Bool
  error_of = trade_error ps s.args.t.account s.args.t.series s.args.t.side s.args.t.quantity

  abbrev row_of : Record
  row_of = trade_row ps s.args.t.account s.args.t.series s.args.t.side s.args.t.quantity (current_day rs) s.args.t.id s.args.t.price

  abbrev left_of : Position
  left_of = trade_position ps s.args.t.account s.args.t.series s.args.t.side s.args.t.quantity s.args.t.price

  -- The position, as it was read.
  read : s.args.held.position ≡ position_read ps s.args.t.account s.args.t.series
  read = s.requires.3.read_is

  read-sound : sound_position s.args.held.position ≡ true
  read-sound = ap sound_position read ∙ position-read-sound ps s.requires.1 s.args.t.account s.args.t.series

  quantity-valid : valid_quantity s.args.t.quantity ≡ true
  quantity-valid =
      trade-quantity rs ps s.args.t.id s.args.t.account s.args.t.series s.args.t.side s.args.t.quantity s.args.t.price s.requires.0 s.requires.1 s.requires.2

  price-valid : valid_price s.args.t.price ≡ true
  price-valid =
      trade-price rs ps s.args.t.id s.args.t.account s.args.t.series s.args.t.side s.args.t.quantity s.args.t.price s.requires.0 s.requires.1 s.requires.2

  insertable : PlaceReady rs s.args.place row_of
  unfolding new_record
  insertable =
      let ready : InsertReady rs row_of =
      trade-insert rs ps s.args.t.id s.args.t.account s.args.t.series s.args.t.side s.args.t.quantity s.args.t.price s.requires.0 s.requires.1 s.requires.2 in
      (ready.0, ready.1, ready.2, ready.3, s.requires.4)

  writable : WriteReady ps s.args.held.found left_of
  writable =
      let ready : PutReady ps left_of =
      trade-put rs ps s.args.t.id s.args.t.account s.args.t.series s.args.t.side s.args.t.quantity s.args.t.price s.requires.0 s.requires.1 s.requires.2 in (
        ready.0,
        ready.1,
        ready.2,
        s.requires.3.found-is ∙ ap (λ (k : Key). found_in positions_layout k ps) (sym (left_key ps s.args.t.account s.args.t.series s.args.t.side s.args.t.quantity s.args.t.price)),
      )

-- What the trade closes and books.
module _ (c : tie.After-booking_of-b) where
  abbrev s : tie.Start
  s = c.before.before

  booked : c.booking_of-b.result ≡ booking_of s.args.t.side s.args.t.quantity s.args.t.price s.args.held.position
  booked = c.booking_of-b.ensures

  closed : c.booking_of-b.result.closed ≡ closed_of s
  closed = closed_is (ps s) s.args.t.account s.args.t.series s.args.t.side s.args.t.quantity s.args.t.price s.args.held.position c.booking_of-b.result (read s) booked

  movement : c.booking_of-b.result.movement ≡ trade_movement (ps s) s.args.t.account s.args.t.series s.args.t.side s.args.t.quantity s.args.t.price
  movement = movement-is (ps s) s.args.t.account s.args.t.series s.args.t.side s.args.t.quantity s.args.t.price s.args.held.position c.booking_of-b.result (read s) booked

  error : c.booking_of-b.result.error ≡ error_of s
  error = error-is (ps s) s.args.t.account s.args.t.series s.args.t.side s.args.t.quantity s.args.t.price s.args.held.position c.booking_of-b.result (read s) booked

  left : moved s.args.held.position c.booking_of-b.result.movement ≡ left_of s
  left = moved-is (ps s) s.args.t.account s.args.t.series s.args.t.side s.args.t.quantity s.args.t.price s.args.held.position c.booking_of-b.result (read s) booked

-- The row that is made.
module _ (c : tie.After-new_record-row) where
  abbrev b : tie.After-booking_of-b
  b = c.before.before.before.before.before.before.before.before.before.before.before.before

  kind : to_z w64 c.if-b.kind-bits ≡ trade_kind b.booking_of-b.result.error
  unfolding trade_kind
  kind =
      elim c.if-b.branch [
        | then-b w ↦ w.kind-is ∙ sym (ap trade_kind w.if-b.true)
        | else-b w ↦ w.kind-is ∙ sym (ap trade_kind w.if-b.false)
      ]

  row : c.new_record-row.result ≡ row_of (s b)
  row =
      let kind-is : to_z w64 c.if-b.kind-bits ≡ trade_kind (error_of (s b)) = kind ∙ ap trade_kind (error b) in
      let long-is : to_z w64 (of_z w64 b.booking_of-b.result.movement.long) ≡ trade_long (ps (s b)) (s b).args.t.account (s b).args.t.series (s b).args.t.side (s b).args.t.quantity
      = read_back b.booking_of-b.result.movement.long c.struct_told-7-1.given.0.1 ∙ ap (λ (m : Movement). m.long) (movement b) in
      let short-is : to_z w64 (of_z w64 b.booking_of-b.result.movement.short) ≡ trade_short (ps (s b)) (s b).args.t.account (s b).args.t.series (s b).args.t.side (s b).args.t.quantity
      = read_back b.booking_of-b.result.movement.short c.struct_told-8-1.given.1.0.1 ∙ ap (λ (m : Movement). m.short) (movement b) in
      let today-is : to_z w64 (of_z w64 c.today-today.result) ≡ current_day (rs (s b))
      = read_back c.today-today.result c.today-today.type_inv ∙ c.today-today.ensures in
      c.new_record-row.ensures
      ∙ (λ i.
      new_record
      (today-is i)
      (read_back (s b).args.t.id c.struct_told-1.given.0.1 i)
      (kind-is i)
      (read_back (s b).args.t.account c.struct_told-1.given.1.0.1 i)
      (read_back (s b).args.t.series c.struct_told-1.given.1.1.0.1 i)
      (read_back (s b).args.t.side c.struct_told-1.given.1.1.1.0.1 i)
      (read_back (s b).args.t.quantity c.struct_told-1.given.1.1.1.1.0.1 i)
      (read_back (s b).args.t.price c.struct_told-1.given.1.1.1.1.1.0.1 i)
      (long-is i)
      (short-is i))

-- The row inserted.
module _ (c : tie.After-insert_record) where
  abbrev d : tie.After-booking_of-b
  d = b c.before.before

  inserted : c.insert_record.new.cells ≡ put_one records_layout record_key (rs (s d)) (row_of (s d))
  inserted = c.insert_record.ensures.0 ∙ ap (put_one records_layout record_key (rs (s d))) (row c.before.before)

-- The position that the trade leaves.
module _ (c : tie.After-moved-left) where
  abbrev e : tie.After-booking_of-b
  e = d c.before.before

  leaves : c.moved-left.result ≡ left_of (s e)
  leaves = c.moved-left.ensures ∙ left e

put : (c : tie.After-write_position) → c.write_position.new.cells ≡ put_one positions_layout position_key (ps (s (e c.before.before))) (left_of (s (e c.before.before)))
put c = c.write_position.ensures.0 ∙ ap (put_one positions_layout position_key (ps (s (e c.before.before)))) (leaves c.before.before)

-- The excess of a closing error.
module _ (c : tie.After-struct_told-then-b-2-2-1) where
  abbrev p : tie.After-write_position
  p = c.before.before.before.before.before.before

  abbrev f : tie.After-booking_of-b
  f = e p.before.before

  excess-fits : SFits w64 ((s f).args.t.quantity -ℤ closed_of (s f))
  excess-fits =
      opened-fits (s f).args.t.side (s f).args.t.quantity (position_read (ps (s f)) (s f).args.t.account (s f).args.t.series) (quantity-valid (s f))
      (position-read-sound (ps (s f)) (s f).requires.1 (s f).args.t.account (s f).args.t.series)

  excess : (to_z w64 (of_z w64 (s f).args.t.quantity) -ℤ to_z w64 (of_z w64 f.booking_of-b.result.closed)) ≡ (s f).args.t.quantity -ℤ closed_of (s f)
  excess =
      let closed-back : to_z w64 (of_z w64 f.booking_of-b.result.closed) ≡ closed_of (s f)
      = read_back f.booking_of-b.result.closed c.struct_told-then-b-2-2-1.given.0.1 ∙ closed f in
      λ i. read_back (s f).args.t.quantity c.struct_told-then-b-2-1.given.1.1.1.1.0.1 i -ℤ closed-back i

booking-of-requires : tie.Need-booking_of-b-requires
booking-of-requires c κs =
    (quantity-valid c.before, read-sound c.before, price-valid c.before)

today-requires : tie.Need-today-today-requires
today-requires c κs = let s : tie.Start = s c.before.before in record-rows-sound (rs s) s.requires.0

new-record-requires : tie.Need-new_record-row-requires
new-record-requires c κs = search rules

insert-record-requires : tie.Need-insert_record-requires
insert-record-requires c κs =
    let s : tie.Start = s (b c.before) in
    subst (λ (r : Record). PlaceReady (rs s) s.args.place r) (sym (row c.before)) (insertable s)

moved-requires : tie.Need-moved-left-requires
moved-requires c κs =
    let b : tie.After-booking_of-b = d c.before in
    booking-moves (s b).args.t.side (s b).args.t.quantity (s b).args.held.position (quantity-valid (s b)) (read-sound (s b)) (s b).args.t.price (price-valid (s b)) b.booking_of-b.result (booked b)

write-position-requires : tie.Need-write_position-requires
write-position-requires c κs =
    let s : tie.Start = s (e c.before) in
    subst (λ (q : Position). WriteReady (ps s) s.args.held.found q) (sym (leaves c.before)) (writable s)

sub-excess : tie.Need-overflow_sub-excess
sub-excess c = subst (SFits w64) (sym (excess c)) (excess-fits c)

same_length : tie.Need-shape_of-records-then-b-2
same_length c = search rules

same-length-2 : tie.Need-shape_of-positions-then-b-2
same-length-2 c = search rules

returns : tie.Need-returns-then-b-2
returns c =
    let s : tie.Start = s (f c) in
    let excess-back : to_z w64 (of_z w64 (to_z w64 (of_z w64 s.args.t.quantity) -ℤ to_z w64 (of_z w64 (f c).booking_of-b.result.closed))) ≡ s.args.t.quantity -ℤ closed_of s
    = ap (λ (z : ℤ). to_z w64 (of_z w64 z)) (excess c) ∙ to_z-of_z (excess-fits c) in
    let i : tie.After-insert_record = (p c).before.before.before.before in
    ap (λ (z : ℤ). answered (ClosingError z) i.insert_record.new.cells (p c).write_position.new.cells) excess-back
    ∙ trade-returns-error (rs s) (ps s) s.args.t.id s.args.t.account s.args.t.series s.args.t.side s.args.t.quantity s.args.t.price
    i.insert_record.new.cells (p c).write_position.new.cells (inserted i) (put (p c)) (sym (error (f c)) ∙ c.if-b-2.true)

same-length-3 : tie.Need-shape_of-records-else-b-2
same-length-3 c = search rules

same-length-4 : tie.Need-shape_of-positions-else-b-2
same-length-4 c = search rules

returns-2 : tie.Need-returns-else-b-2
returns-2 c =
    let p : tie.After-write_position = c.before.before in
    let s : tie.Start = s (e p.before.before) in
    let i : tie.After-insert_record = p.before.before.before.before in
    trade-returns-plain (rs s) (ps s) s.args.t.id s.args.t.account s.args.t.series s.args.t.side s.args.t.quantity s.args.t.price
    i.insert_record.new.cells p.write_position.new.cells (inserted i) (put p) (sym (error (e p.before.before)) ∙ c.if-b-2.false)

pub book_spec : {M : Type 1} → statement M
book_spec =
    tie.close
    (tie.spec
    booking-of-requires
    today-requires
    new-record-requires
    insert-record-requires
    moved-requires
    write-position-requires
    sub-excess
    same_length
    same-length-2
    returns
    same-length-3
    same-length-4
    returns-2)
