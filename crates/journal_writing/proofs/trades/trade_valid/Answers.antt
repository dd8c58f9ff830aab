use Rattle.std.proofs.Common.{rules}
use Rattle.rules.specs.Line.{passes_test3}
use Rattle.journal_writing.proofs.trades.trade_valid.Goals as goal

pub returns : goal.returns
unfolding passes_test3
returns c = search rules
