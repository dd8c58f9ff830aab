-- `velichundam_write_day` meets its contract: that of the writing call behind it, in numbers. Assumes nothing.
use mir.Facts.{to_z-of_z}
use borrow.Author.Rules.{rules}
use Rattle.velichundam.proofs.Handed.{handed-text}
use Rattle.velichundam.proofs.text_calls.velichundam_write_day.Statement.{statement}
use Rattle.velichundam.proofs.text_calls.velichundam_write_day.Tie as tie

returns : tie.Need-returns
returns c =
    let s : tie.Start = c.before.before.before.before.before.before in
    handed-text c.from.ensures (simp (to_z-of_z s.ranges.day) at c.write_day.ensures)

pub velichundam_write_day_spec : {M : Type 1} → statement M
velichundam_write_day_spec = tie.close (tie.spec (λ c κs. search rules) (λ c κs. search rules) (λ c. search rules) returns)
