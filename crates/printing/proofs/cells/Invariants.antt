-- What is written is the text of the cells before the index.
use Rattle.std.proofs.Common.{take}
use Rattle.std.specs.Io.KnownBytes.{Appends}
use Rattle.printing.specs.Printed.{barred_text}
use Rattle.printing.proofs.cells.Given as goal

abbrev pub invariant-loop-z : goal.invariant-loop-z
invariant-loop-z g l = Appends (g.W.Write.contents l.fn.to) (g.W.Write.contents l.to) (barred_text (take l.z-index l.all))
