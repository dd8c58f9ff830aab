-- `trade::verdict` meets its contract: past each test the verdict is that of the tests which remain, and each return is the one that applies.
-- Assumes nothing.
use Prim.Native.Nat.{ℕ, ◌+◌}
use native.Mathlib.Omega.{arith}
use mathlib.Core.Path.{◌≡◌, sym, ◌∙◌, ap}
use mathlib.Core.Bool.{not}
use borrow.Author.Rules.{rules}
use lib.Dec.{ltb}
use lib.ListN.{length}
use Rattle.rules.specs.Keyed.{is_some}
use Rattle.rules.specs.Rows.{sound_position}
use Rattle.rules.specs.Layout.{room_of, rows_of}
use Rattle.rules.specs.Tables.{positions_layout}
use Rattle.cells.proofs.SoundCells.{record-rows-sound}
use Rattle.figures.proofs.Tests.{failed, passed}
use Rattle.verdict.specs.Verdict.{absent_position}
use Rattle.verdict.proofs.Remaining.{◌past◌, stops, ends}
use Rattle.verdict.proofs.Room.{absent-at-most-one}
use Rattle.verdict.proofs.SoundReads.{position-read-sound}
use Rattle.verdict.proofs.Trade.{trade_position, TradeFrom, trade-tests}
use Rattle.requests.proofs.AbsentRow.{absent-is}
use Rattle.trade.proofs.TradeBooked.{after_is, figures-quantity, figures-price}
use Rattle.trade.proofs.verdict.Statement.{statement}
use Rattle.trade.proofs.verdict.Tie as tie

module _ (s : tie.Start) where
  -- The verdict is that of the tests from number n on.
  abbrev From : ℕ → Type 0
  From n = TradeFrom s.args.records.now s.args.positions.now s.args.t.id s.args.t.account s.args.t.series s.args.t.side s.args.t.quantity s.args.t.price n

  at-14 : From 14
  unfolding is_some
  at-14 =
      trade-tests s.args.records.now s.args.positions.now s.args.t.id s.args.t.account s.args.t.series s.args.t.side s.args.t.quantity s.args.t.price
      past ap not s.requires.2
      past ap is_some s.requires.3

-- ---- test 14

returns : tie.Need-returns-then-lacks_records_room
returns c = stops (at-14 c.before.before) (sym c.lacks_records_room.ensures ∙ c.if-lacks_records_room.true)

-- ---- test 15

module _ (c : tie.Else-lacks_records_room) where
  abbrev start15 : tie.Start
  start15 = c.before.before

  at-15 : From start15 15
  at-15 = at-14 start15 past sym c.lacks_records_room.ensures ∙ c.if-lacks_records_room.false

absent : (c : tie.After-absent_row-absent) → let a = (start15 c.before).args in c.absent_row-absent.result ≡ absent_position a.positions.now a.t.account a.t.series
absent c =
    let s : tie.Start = start15 c.before in
    c.absent_row-absent.ensures ∙ absent-is s.args.positions.now s.args.t.account s.args.t.series s.args.held.found s.requires.4.found-is

answer-15 : (c : tie.After-lacks_positions_room) → let a = (start15 c.before.before).args in
    c.lacks_positions_room.result
    ≡ ltb (room_of positions_layout a.positions.now) (length (rows_of positions_layout a.positions.now) + absent_position a.positions.now a.t.account a.t.series)
answer-15 c = simp (absent c.before) at c.lacks_positions_room.ensures

lacks-positions-room-requires : tie.Need-lacks_positions_room-requires
lacks-positions-room-requires c κs =
    let s : tie.Start = start15 c.before in
    (s.requires.1, omega (arith, absent c, absent-at-most-one s.args.positions.now s.args.t.account s.args.t.series))

returns-2 : tie.Need-returns-then-lacks_positions_room
returns-2 c = stops (at-15 c.before.before.before) (sym (answer-15 c.before) ∙ c.if-lacks_positions_room.true)

-- ---- test 16

module _ (c : tie.Else-lacks_positions_room) where
  abbrev start16 : tie.Start
  start16 = start15 c.before.before.before

  at-16 : From start16 16
  at-16 = at-15 c.before.before.before past sym (answer-15 c.before) ∙ c.if-lacks_positions_room.false

answer-16 : (c : tie.After-sound_position) → let a = (start16 c.before.before.before).args in
    c.sound_position.result ≡ sound_position (trade_position a.positions.now a.t.account a.t.series a.t.side a.t.quantity a.t.price)
answer-16 c =
    let s : tie.Start = start16 c.before.before.before in
    let left : c.position_after-left.result ≡ trade_position s.args.positions.now s.args.t.account s.args.t.series s.args.t.side s.args.t.quantity s.args.t.price
    = c.position_after-left.ensures
    ∙ after_is s.args.positions.now s.args.t.account s.args.t.series s.args.t.side s.args.t.quantity s.args.t.price s.args.held.position s.requires.4.read_is in
    c.sound_position.ensures ∙ ap sound_position left

position-after-requires : tie.Need-position_after-left-requires
position-after-requires c κs =
    let s : tie.Start = start16 c.before in (
      figures-quantity s.args.t.id s.args.t.account s.args.t.series s.args.t.side s.args.t.quantity s.args.t.price s.requires.2,
      ap sound_position s.requires.4.read_is ∙ position-read-sound s.args.positions.now s.requires.1 s.args.t.account s.args.t.series,
      figures-price s.args.t.id s.args.t.account s.args.t.series s.args.t.side s.args.t.quantity s.args.t.price s.requires.2,
    )

returns-3 : tie.Need-returns-then-not-sound_position
returns-3 c = stops (at-16 c.before.before.before.before) (ap not (failed (answer-16 c.before) c.if-not-sound_position.true-raw))

returns-4 : tie.Need-returns
returns-4 c = ends (at-16 c.before.before.before.before past ap not (passed (answer-16 c.before) c.if-not-sound_position.false-raw))

pub verdict_spec : {M : Type 1} → statement M
verdict_spec =
    tie.close
    (tie.spec
    (λ c κs. (record-rows-sound c.args.records.now c.requires.0, omega arith))
    returns
    (λ c κs. search rules)
    lacks-positions-room-requires
    returns-2
    position-after-requires
    (λ c κs. search rules)
    returns-3
    returns-4)
