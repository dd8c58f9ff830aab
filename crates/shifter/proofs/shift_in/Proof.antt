-- `shifter::shift_in` meets its contract, by the two laws that it calls: moved up by a row, then written over. Assumes nothing.
use borrow.Author.Rules.{rules}
use Rattle.shifter.proofs.Placed.{shifted}
use Rattle.shifter.proofs.shift_in.Statement.{statement}
use Rattle.shifter.proofs.shift_in.Tie as tie

returns : tie.Need-returns
returns c =
    let s : tie.Start = c.before.before.before.before.before.before in
    shifted s.args.tail.now c.move_up.new.tail c.overwrite.new.tail s.args.row.now s.args.used s.requires c.move_up.ensures c.overwrite.ensures

pub shift_in_spec : {M : Type 1} → statement M
shift_in_spec = tie.close (tie.spec (λ c κs. search rules) (λ c κs. search rules) (λ c. search rules) returns)
