-- The width so far and that of the lines left are that of all, and it is at most 136 for each trade so far.
use Rattle.std.proofs.Common.{◌≡◌, ◌+◌, ◌*◌, ◌≤◌, length}
use Rattle.std.specs.Slice.Iter.{chunks_exact_rest, chunks_exact_size}
use Rattle.rules.specs.Batch.{trade_count}
use Rattle.journal_writing.proofs.TradesLeft.{lines_of}
use Rattle.journal_writing.proofs.trades.trades_width.Given as goal

abbrev pub invariant-loop-trade : goal.invariant-loop-trade
invariant-loop-trade l =
    (chunks_exact_size l.trade-iterator ≡ 6) × (l.width + length (lines_of (chunks_exact_rest l.trade-iterator)) ≡ length (lines_of l.trades))
    × (l.width + 136 * trade_count (chunks_exact_rest l.trade-iterator) ≤ 136 * trade_count l.trades)
