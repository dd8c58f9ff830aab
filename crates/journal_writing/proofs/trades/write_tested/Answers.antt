use Rattle.std.proofs.Common.{◌^◌, ◌≤◌, ◌<◌, List, ℕ, ℤ, length, ap, ◌∙◌, arith}
use mir.Facts.{to_z_pos}
use mir.Syntax.{w64}
use Rattle.rules.specs.Writing.{text_left}
use Rattle.rules.specs.declared.Reply.TheVariants.{Written}
use Rattle.journal_writing.proofs.TradesLeft.{lines_of}
use Rattle.journal_writing.proofs.WritingAnswers.{refused-3, refused-14, written-at-front, trades-tested, few-trades}
use Rattle.journal_writing.proofs.trades.write_tested.Goals as goal

pub returns-then-not-trades_valid : goal.returns-then-not-trades_valid
returns-then-not-trades_valid c =
    rw c.from.ensures (refused-3 (lines_of c.args.trades.now) c.args.text.now ∙ trades-tested c.args.trades.now c.args.text.now c.if-not-trades_valid.ensures)

pub trades_width-width-requires : goal.trades_width-width-requires
trades_width-width-requires c = few-trades c.args.trades.now c.args.text.now c.if-not-trades_valid.ensures

pub returns-then-text-width : goal.returns-then-text-width
returns-then-text-width c =
    rw
    c.from-then-text-width.ensures
    (refused-14 (lines_of c.args.trades.now) c.args.text.now (omega (arith, c.if-text-width.true, c.trades_width-width.ensures.0))
    ∙ trades-tested c.args.trades.now c.args.text.now c.if-not-trades_valid.ensures)

pub write_each-end-requires : goal.write_each-end-requires
write_each-end-requires c =
    (few-trades c.args.trades.now c.args.text.now c.if-not-trades_valid.ensures, omega (arith, c.if-text-width.false, c.trades_width-width.ensures.0))

pub returns : goal.returns
returns c =
    let lines : List ℕ = lines_of c.args.trades.now in
    let few = few-trades c.args.trades.now c.args.text.now c.if-not-trades_valid.ensures in
    let room : length lines ≤ length c.args.text.now = omega (arith, c.if-text-width.false, c.trades_width-width.ensures.0) in
    let small : c.write_each-end.result < 2 ^ 63 = omega (arith, c.write_each-end.ensures.0, c.trades_width-width.ensures, few) in
    ap (λ (bytes : ℤ). text_left (Written bytes) c.write_each-end.new.text) (to_z_pos w64 small)
    ∙ written-at-front lines c.args.text.now _ _ room (omega (arith, c.write_each-end.ensures.0), c.write_each-end.ensures.1)
    ∙ trades-tested c.args.trades.now c.args.text.now c.if-not-trades_valid.ensures
