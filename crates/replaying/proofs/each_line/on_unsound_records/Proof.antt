-- `on_unsound_records` meets its contract: the first line's answer, with cells for its figures. Assumes nothing.
use borrow.Author.Rules.{rules}
use Rattle.replaying.proofs.each_line.on_unsound_records.Statement.{statement}
use Rattle.replaying.proofs.each_line.on_unsound_records.Tie as tie

pub on_unsound_records_spec : {M : Type 1} → statement M
on_unsound_records_spec = tie.close (tie.spec (λ c. search rules) (λ c κs. search rules) (λ c. c.first_line_refused.ensures))
