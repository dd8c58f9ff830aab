use Rattle.std.proofs.Common.{◌≡◌}
use Rattle.tables_main.proofs.damage.each.Given as goal

abbrev pub invariant-loop-at : goal.invariant-loop-at
invariant-loop-at g l = l.all ≡ l.fn.all
