-- The trades so far are booked, their excesses written, and the rest of the list is still to be handed in.
use Rattle.rules.specs.Tables.{tables_of}
use Rattle.batch.proofs.BookedSoFar.{BookedSoFar}
use Rattle.batch.proofs.book_each.Given as goal

abbrev pub invariant-loop-i : goal.invariant-loop-i
invariant-loop-i l = BookedSoFar (tables_of l.fn.records l.fn.positions) l.trades l.fn.excess l.records l.positions l.excess l.i
