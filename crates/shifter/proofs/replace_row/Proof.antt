-- `shifter::replace_row` meets its contract: the part from the row on is lent, its first cells are written over, and it is handed back. Assumes nothing.
use borrow.Author.Rules.{rules}
use Rattle.shifter.proofs.Placed.{replacement}
use Rattle.shifter.proofs.replace_row.Statement.{statement}
use Rattle.shifter.proofs.replace_row.Tie as tie

returns : tie.Need-returns
returns c =
    let s : tie.Start = c.before.before.before in
    replacement s.args.header s.args.cells.now s.args.row.now c.overwrite.new.tail s.args.place s.requires c.overwrite.ensures

pub replace_row_spec : {M : Type 1} → statement M
replace_row_spec =
    tie.close
    (tie.spec
    (λ c. search rules)
    (λ c. search rules)
    (λ c. search rules)
    (λ c. search rules)
    (λ c. search rules)
    (λ c. search rules)
    (λ c κs. search rules)
    (λ c. search rules)
    returns)
