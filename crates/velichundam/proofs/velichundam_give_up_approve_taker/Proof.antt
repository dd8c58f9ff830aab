-- `velichundam_give_up_approve_taker` meets its contract: `book::give_up`'s for this step, in numbers. Each figure is handed on as it came.
-- Assumes nothing.
use mir.Facts.{to_z-of_z}
use borrow.Author.Rules.{rules}
use Rattle.velichundam.proofs.Handed.{handed-all}
use Rattle.velichundam.proofs.velichundam_give_up_approve_taker.Statement.{statement}
use Rattle.velichundam.proofs.velichundam_give_up_approve_taker.Tie as tie

returns : tie.Need-returns
returns c =
    let s : tie.Start = c.before.before.before.before.before.before.before.before in
    handed-all c.from.ensures
    (simp (to_z-of_z s.ranges.process, to_z-of_z s.ranges.id, to_z-of_z s.ranges.suffix, to_z-of_z s.ranges.giving, to_z-of_z s.ranges.taking, to_z-of_z s.ranges.series)
    at c.give_up.ensures)

pub velichundam_give_up_approve_taker_spec : {M : Type 1} → statement M
velichundam_give_up_approve_taker_spec = tie.close (tie.spec (λ c κs. search rules) (λ c κs. search rules) (λ c. search rules) (λ c. search rules) (λ c. search rules) returns)
