-- All pass test 3 where those that are left do.
use Rattle.std.proofs.Common.{◌≡◌}
use Rattle.std.specs.Slice.Iter.{chunks_exact_rest, chunks_exact_size}
use Rattle.journal_writing.proofs.TradesLeft.{all_pass}
use Rattle.journal_writing.proofs.trades.each_valid.Given as goal

abbrev pub invariant-loop-trade : goal.invariant-loop-trade
invariant-loop-trade l = (chunks_exact_size l.trade-iterator ≡ 6) × (all_pass l.trades ≡ all_pass (chunks_exact_rest l.trade-iterator))
