-- The lines that are left, written where it stands, give the whole text.
use Rattle.std.proofs.Common.{◌≡◌}
use Rattle.std.specs.Slice.Iter.{chunks_exact_rest, chunks_exact_size}
use Rattle.journal_writing.proofs.TradesLeft.{lines_of}
use Rattle.journal_writing.proofs.LinesLeft.{LinesLeft}
use Rattle.journal_writing.proofs.trades.write_each.Given as goal

abbrev pub invariant-loop-trade : goal.invariant-loop-trade
invariant-loop-trade l = (chunks_exact_size l.trade-iterator ≡ 6) × LinesLeft (lines_of l.trades) l.fn.text (chunks_exact_rest l.trade-iterator) l.text l.next
