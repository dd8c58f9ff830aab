-- `velichundam_write_trade` meets its contract: that of the writing call behind it, in numbers. Each figure is handed on as it came. Assumes nothing.
use mir.Facts.{to_z-of_z}
use borrow.Author.Rules.{rules}
use Rattle.velichundam.proofs.Handed.{handed-text}
use Rattle.velichundam.proofs.text_calls.velichundam_write_trade.Statement.{statement}
use Rattle.velichundam.proofs.text_calls.velichundam_write_trade.Tie as tie

returns : tie.Need-returns
returns c =
    let s : tie.Start = c.before.before.before.before.before.before in
    handed-text c.from.ensures (simp (to_z-of_z s.ranges.id, to_z-of_z s.ranges.account, to_z-of_z s.ranges.series, to_z-of_z s.ranges.side, to_z-of_z s.ranges.quantity, to_z-of_z s.ranges.price) at c.write_trade.ensures)

pub velichundam_write_trade_spec : {M : Type 1} → statement M
velichundam_write_trade_spec = tie.close (tie.spec (λ c κs. search rules) (λ c κs. search rules) (λ c. search rules) returns)
