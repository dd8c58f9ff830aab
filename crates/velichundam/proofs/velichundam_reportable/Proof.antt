-- `velichundam_reportable` meets its contract: `book::reportable`'s, in numbers.
-- Assumes nothing.
use borrow.Author.Rules.{rules}
use Rattle.velichundam.proofs.Handed.{handed-with}
use Rattle.velichundam.proofs.velichundam_reportable.Statement.{statement}
use Rattle.velichundam.proofs.velichundam_reportable.Tie as tie

returns : tie.Need-returns
returns c = handed-with c.from.ensures c.reportable.ensures

pub velichundam_reportable_spec : {M : Type 1} → statement M
velichundam_reportable_spec = tie.close (tie.spec (λ c κs. search rules) (λ c κs. search rules) (λ c. search rules) returns)
