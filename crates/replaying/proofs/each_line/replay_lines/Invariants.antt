-- The answer from the next line on, with so many lines booked, is the answer to the whole. The measure is what is left of the text.
use Rattle.std.proofs.Common.{◌-◌, length}
use Rattle.rules.specs.Tables.{all_tables}
use Rattle.replaying.proofs.ReplayedSoFar.{ReplayedSoFar}
use Rattle.replaying.proofs.each_line.replay_lines.Given as goal

abbrev pub invariant-loop-at : goal.invariant-loop-at
invariant-loop-at l = ReplayedSoFar (all_tables l.fn.records l.fn.positions l.fn.processes) l.text l.records l.positions l.processes l.figures l.at l.line

abbrev pub decreases-loop-at : goal.decreases-loop-at
decreases-loop-at l = length l.text - l.at
