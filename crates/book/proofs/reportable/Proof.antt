-- `book::reportable` meets its contract: the list's own call. Assumes nothing.
use borrow.Author.Rules.{rules}
use Rattle.book.proofs.reportable.Statement.{statement}
use Rattle.book.proofs.reportable.Tie as tie

pub reportable_spec : {M : Type 1} → statement M
reportable_spec = tie.close (tie.spec (λ c κs. search rules) (λ c. search rules) (λ c. c.reportable.ensures))
