-- `book::day` meets its contract: the request's own call. Assumes nothing.
use mir.Facts.{to_z-of_z}
use borrow.Author.Rules.{rules}
use Rattle.book.proofs.day.Statement.{statement}
use Rattle.book.proofs.day.Tie as tie

returns : tie.Need-returns
returns c = simp (to_z-of_z c.ranges.day) at c.day.ensures

pub day_spec : {M : Type 1} → statement M
day_spec = tie.close (tie.spec (λ c κs. search rules) (λ c. search rules) returns)
