-- `velichundam_replay` meets its contract: `book::replay`'s, in numbers. Assumes nothing.
use borrow.Author.Rules.{rules}
use Rattle.velichundam.proofs.Handed.{handed-all}
use Rattle.velichundam.proofs.text_calls.velichundam_replay.Statement.{statement}
use Rattle.velichundam.proofs.text_calls.velichundam_replay.Tie as tie

returns : tie.Need-returns
returns c = handed-all c.from.ensures c.replay.ensures

pub velichundam_replay_spec : {M : Type 1} → statement M
velichundam_replay_spec = tie.close (tie.spec (λ c κs. search rules) (λ c κs. search rules) (λ c. search rules) (λ c. search rules) (λ c. search rules) returns)
