use Rattle.std.proofs.Common.{◌≡◌, length, ◌∙◌, arith}
use Rattle.std.specs.Slice.Iter.{chunks_exact_rest}
use Rattle.journal_writing.proofs.TradesLeft.{lines-next, count-next, none_long}
use Rattle.journal_writing.proofs.trades.trades_width.Goals as goal

pub loop-trade-preserved : goal.loop-trade-preserved
loop-trade-preserved c =
    let s = c.in-Some.ensures.steps in
    let six : length c.in-Some.trade.now ≡ 6 = s.1.1 ∙ c.loop-trade.invariant.0 in (
      s.0 ∙ c.loop-trade.invariant.0,
      omega (arith, c.loop-trade.invariant.1, lines-next _ _ _ s.1.0 six, c.line_width-width.ensures.0),
      omega (arith, c.loop-trade.invariant.2, count-next _ _ _ s.1.0 six, c.line_width-width.ensures.1, six),
    )

pub returns : goal.returns
returns c =
    (omega (arith, c.loop-trade.invariant.1, none_long (chunks_exact_rest c.loop-trade.trade-iterator) (omega (arith, c.in-None.ensures.steps.1.0, c.loop-trade.invariant.0))), omega (arith, c.loop-trade.invariant.2))
