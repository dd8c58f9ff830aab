-- `processes::process_cells` meets its contract: the cells of the process's row. Assumes nothing.
use mathlib.Core.Path.{ap, ◌∙◌}
use borrow.Author.Rules.{rules}
use Rattle.rules.specs.Tables.{process_cells}
use Rattle.processes.proofs.process_cells.Statement.{statement}
use Rattle.processes.proofs.process_cells.Tie as tie

returns : tie.Need-returns
returns c = c.process_cells.ensures ∙ ap process_cells c.row_of.ensures

pub process_cells_spec : {M : Type 1} → statement M
process_cells_spec = tie.close (tie.spec (λ c κs. search rules) (λ c κs. search rules) returns)
