-- `velichundam_write_separation` meets its contract: that of the writing call behind it, in numbers. Each figure is handed on as it came. Assumes nothing.
use mir.Facts.{to_z-of_z}
use borrow.Author.Rules.{rules}
use Rattle.velichundam.proofs.Handed.{handed-text}
use Rattle.velichundam.proofs.text_calls.velichundam_write_separation.Statement.{statement}
use Rattle.velichundam.proofs.text_calls.velichundam_write_separation.Tie as tie

returns : tie.Need-returns
returns c =
    let s : tie.Start = c.before.before.before.before.before.before in
    handed-text c.from.ensures (simp (to_z-of_z s.ranges.id, to_z-of_z s.ranges.suffix, to_z-of_z s.ranges.account, to_z-of_z s.ranges.series) at c.write_separation.ensures)

pub velichundam_write_separation_spec : {M : Type 1} → statement M
velichundam_write_separation_spec = tie.close (tie.spec (λ c κs. search rules) (λ c κs. search rules) (λ c. search rules) returns)
