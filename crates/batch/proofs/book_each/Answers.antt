use Rattle.std.proofs.Common.{◌≡◌, ℕ, ◌+◌, ◌*◌, ◌<◌, ◌≤◌, ◌^◌, ap, ◌∙◌, List, ℤ, pos, length, arith, w64, FitsSigned, to_z, of_z, Ok, Err}
use mir.Facts.{to_z-of_z, to_z_pos}
use borrow.Author.Rules.{rules, sfits_of}
use Rattle.rules.specs.Tables.{Tables, tables_of}
use Rattle.rules.specs.Left.{left}
use Rattle.rules.specs.Batch.{trade_count}
use Rattle.rules.specs.Reasons.{number_of}
use Rattle.rules.specs.declared.Reply.TheVariants as Reply
use Rattle.batch.proofs.BookedSoFar.{trades-fit, none-booked, one_more, stopped, all-booked}
use Rattle.batch.proofs.book_each.Goals as goal

pub loop-i-init : goal.loop-i-init
loop-i-init c = none-booked c.args.records.now c.args.positions.now c.args.trades.now c.args.excess.now c.requires.0 c.requires.1

pub returns-in-Err : goal.returns-in-Err
returns-in-Err c =
    let fit = trades-fit c.args.trades.now (length c.args.excess.now) c.requires.2 in
    let small : c.loop-i.i < 2 ^ 63 = omega (arith, c.loop-i-test.true, fit.0) in
    let number-fits : FitsSigned w64 c.number-number.result = search rules in
    let place-fits : FitsSigned w64 c.in-Err.refusal.place = search rules in
    simp (to_z_pos w64 small, to_z-of_z number-fits, to_z-of_z place-fits)
    (rw c.number-number.ensures
    (stopped (tables_of c.args.records.now c.args.positions.now) c.args.trades.now c.args.excess.now c.loop-i.records c.loop-i.positions c.loop-i.excess c.loop-i.i c.loop-i.invariant
    (number_of c.in-Err.refusal.reason) c.in-Err.refusal.place _ _ c.loop-i-test.true c.in-Err.ensures))

pub bounds-excess-i : goal.bounds-excess-i
bounds-excess-i c =
    let fit = trades-fit c.args.trades.now (length c.args.excess.now) c.requires.2 in
    omega (arith, c.loop-i-test.true, fit.1, c.loop-i.invariant.same_size)

pub loop-i-preserved : goal.loop-i-preserved
loop-i-preserved c =
    let fit = trades-fit c.args.trades.now (length c.args.excess.now) c.requires.2 in
    let m = one_more (tables_of c.args.records.now c.args.positions.now) c.args.trades.now c.args.excess.now c.loop-i.records c.loop-i.positions c.loop-i.excess c.loop-i.i c.loop-i.invariant c.in-Ok.over _ _ c.loop-i-test.true
    (omega (arith, c.loop-i-test.true, fit.1)) c.in-Ok.ensures c.book_trade.auto.records c.book_trade.auto.positions in
    let over-fits : FitsSigned w64 c.in-Ok.over = search rules in
    simp (to_z-of_z over-fits) m

pub returns : goal.returns
returns c =
    let fit = trades-fit c.args.trades.now (length c.args.excess.now) c.requires.2 in
    let small : trade_count c.args.trades.now < 2 ^ 63 = omega (arith, fit.0) in
    ap (λ (rows : ℤ). left (Reply.Booked rows (pos 0)) c.loop-i.excess c.loop-i.records c.loop-i.positions) (to_z_pos w64 small)
    ∙ all-booked (tables_of c.args.records.now c.args.positions.now) c.args.trades.now c.args.excess.now c.loop-i.records c.loop-i.positions c.loop-i.excess c.loop-i.i c.loop-i.invariant c.loop-i-test.false c.loop-i.invariant.within
