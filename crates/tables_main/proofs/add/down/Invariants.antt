-- What is done and what is left are together at most `top`.
use Rattle.std.proofs.Common.{◌+◌, ◌≤◌}
use Rattle.tables_main.proofs.add.down.Given as goal

abbrev pub invariant-loop-id : goal.invariant-loop-id
invariant-loop-id l = l.done + l.id ≤ l.top
