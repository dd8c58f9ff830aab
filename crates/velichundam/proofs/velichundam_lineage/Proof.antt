use mathlib.Core.Path.{ap, ◌∙◌}
use mir.Facts.{to_z-of_z}
use borrow.Author.Rules.{rules}
use Rattle.rules.specs.Reply.{code_of}
use Rattle.velichundam.proofs.velichundam_lineage.Statement.{statement}
use Rattle.velichundam.proofs.velichundam_lineage.Tie as tie

lineage-requires : tie.Need-lineage-requires
lineage-requires c κs = search rules

code-of-requires : tie.Need-from-requires
code-of-requires c κs = search rules

returns : tie.Need-returns
returns c = c.from.ensures ∙ ap code_of (simp (to_z-of_z c.ranges.id, to_z-of_z c.ranges.suffix) at c.lineage.ensures)

pub velichundam_lineage_spec : {M : Type 1} → statement M
velichundam_lineage_spec = tie.close (tie.spec lineage-requires code-of-requires returns)
