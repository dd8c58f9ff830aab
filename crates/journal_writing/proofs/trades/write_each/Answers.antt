use Rattle.std.proofs.Common.{◌∙◌, arith}
use Rattle.journal_writing.proofs.LinesLeft.{line-fits, one_written, all-written}
use Rattle.journal_writing.proofs.trades.write_each.Goals as goal

pub write_line-next-requires : goal.write_line-next-requires
write_line-next-requires c =
    let s = c.in-Some.ensures.steps in
    let left = rw s.1.0 at c.loop-trade.invariant.1 in
    line-fits _ _ (s.1.1 ∙ c.loop-trade.invariant.0) left c.requires.1

pub loop-trade-preserved : goal.loop-trade-preserved
loop-trade-preserved c =
    let s = c.in-Some.ensures.steps in
    let left = rw s.1.0 at c.loop-trade.invariant.1 in
    (s.0 ∙ c.loop-trade.invariant.0, one_written _ _ (s.1.1 ∙ c.loop-trade.invariant.0) left c.requires.1 c.write_line-next.ensures)

pub returns : goal.returns
returns c = all-written _ (omega (arith, c.in-None.ensures.steps.1.0, c.loop-trade.invariant.0)) c.loop-trade.invariant.1
