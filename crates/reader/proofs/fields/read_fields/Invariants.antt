-- The fields so far, then those from here on, are the fields of the text.
use Rattle.std.proofs.Common.{◌≡◌, length}
use Rattle.reader.proofs.FieldsSoFar.{FieldsSoFar}
use Rattle.reader.proofs.fields.read_fields.Given as goal

abbrev pub invariant-loop-cell : goal.invariant-loop-cell
invariant-loop-cell l = (l.count ≡ l.cell-index) × FieldsSoFar l.text l.at (length l.fn.figures) l.figures l.count l.next
