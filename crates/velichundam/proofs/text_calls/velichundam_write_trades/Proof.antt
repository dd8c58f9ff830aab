-- `velichundam_write_trades` meets its contract: that of the writing call behind it, in numbers. Each figure is handed on as it came. Assumes nothing.
use borrow.Author.Rules.{rules}
use Rattle.velichundam.proofs.Handed.{handed-text}
use Rattle.velichundam.proofs.text_calls.velichundam_write_trades.Statement.{statement}
use Rattle.velichundam.proofs.text_calls.velichundam_write_trades.Tie as tie

returns : tie.Need-returns
returns c =
    handed-text c.from.ensures c.write_trades.ensures

pub velichundam_write_trades_spec : {M : Type 1} → statement M
velichundam_write_trades_spec = tie.close (tie.spec (λ c κs. search rules) (λ c κs. search rules) (λ c. search rules) returns)
