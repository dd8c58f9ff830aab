-- `velichundam_trades` meets its contract: `book::trades`'s, in numbers.
-- Assumes nothing.
use borrow.Author.Rules.{rules}
use Rattle.velichundam.proofs.Handed.{handed-with}
use Rattle.velichundam.proofs.velichundam_trades.Statement.{statement}
use Rattle.velichundam.proofs.velichundam_trades.Tie as tie

returns : tie.Need-returns
returns c = handed-with c.from.ensures c.trades.ensures

pub velichundam_trades_spec : {M : Type 1} → statement M
velichundam_trades_spec =
    tie.close (tie.spec (λ c κs. search rules) (λ c κs. search rules) (λ c. search rules) (λ c. search rules) (λ c. search rules) returns)
