use Rattle.std.proofs.Common.{sym, ◌∙◌, arith}
use Rattle.journal_writing.proofs.TradesLeft.{passes-next, none_pass}
use Rattle.journal_writing.proofs.trades.each_valid.Goals as goal

pub returns-then-not-trade_valid : goal.returns-then-not-trade_valid
returns-then-not-trade_valid c =
    let s = c.in-Some.ensures.steps in
    sym (passes-next _ _ _ s.1.0 (s.1.1 ∙ c.loop-trade.invariant.0) c.loop-trade.invariant.1 c.if-not-trade_valid.ensures)

pub loop-trade-preserved : goal.loop-trade-preserved
loop-trade-preserved c =
    let s = c.in-Some.ensures.steps in
    (s.0 ∙ c.loop-trade.invariant.0, passes-next _ _ _ s.1.0 (s.1.1 ∙ c.loop-trade.invariant.0) c.loop-trade.invariant.1 c.if-not-trade_valid.ensures)

pub returns : goal.returns
returns c = none_pass _ (omega (arith, c.in-None.ensures.steps.1.0, c.loop-trade.invariant.0)) c.loop-trade.invariant.1
