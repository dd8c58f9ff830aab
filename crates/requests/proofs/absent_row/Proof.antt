-- `requests::absent_row` meets its contract: what the lookup found, as a number. Assumes nothing.
use mathlib.Core.Path.{sym, ap}
use borrow.Author.Rules.{rules}
use Rattle.requests.specs.AbsentRow.{absent_row}
use Rattle.requests.proofs.absent_row.Statement.{statement}
use Rattle.requests.proofs.absent_row.Tie as tie

returns : tie.Need-returns-in-Ok
unfolding absent_row
returns c = sym (ap absent_row c.in-Ok.is)

returns-2 : tie.Need-returns-in-Err
unfolding absent_row
returns-2 c = sym (ap absent_row c.in-Err.is)

pub absent_row_spec : {M : Type 1} → statement M
absent_row_spec = tie.close (tie.spec (λ c. search rules) (λ c. search rules) returns returns-2)
