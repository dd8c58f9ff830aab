-- `book::lineage` meets its contract: the request's own call, each figure handed on as it came. Assumes nothing.
use mir.Facts.{to_z-of_z}
use borrow.Author.Rules.{rules}
use Rattle.book.proofs.lineage.Statement.{statement}
use Rattle.book.proofs.lineage.Tie as tie

lineage-requires : tie.Need-lineage-requires
lineage-requires c κs = search rules

returns : tie.Need-returns
returns c = simp (to_z-of_z c.ranges.id, to_z-of_z c.ranges.suffix) at c.lineage.ensures

pub lineage_spec : {M : Type 1} → statement M
lineage_spec = tie.close (tie.spec lineage-requires returns)
