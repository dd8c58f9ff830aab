use Rattle.std.proofs.Common.{rules}
use Rattle.tables_main.proofs.Mended.{mended}
use Rattle.tables_main.proofs.damage.one.Goals as goal

pub returns : goal.returns
returns c = search (rules, mended)
