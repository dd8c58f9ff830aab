-- `velichundam_day` meets its contract: `book::day`'s, in numbers.
-- Assumes nothing.
use mir.Facts.{to_z-of_z}
use borrow.Author.Rules.{rules}
use Rattle.velichundam.proofs.Handed.{handed}
use Rattle.velichundam.proofs.velichundam_day.Statement.{statement}
use Rattle.velichundam.proofs.velichundam_day.Tie as tie

returns : tie.Need-returns
returns c = handed c.from.ensures (simp (to_z-of_z c.ranges.day) at c.day.ensures)

pub velichundam_day_spec : {M : Type 1} → statement M
velichundam_day_spec = tie.close (tie.spec (λ c κs. search rules) (λ c κs. search rules) (λ c. search rules) returns)
