-- The fields so far are written, and the place is the one after them.
use Rattle.std.proofs.Common.{take}
use Rattle.text.specs.Fields.{fields_text}
use Rattle.text.proofs.WrittenLaws.{Wrote}
use Rattle.writer.proofs.fields.write_fields.Given as goal

abbrev pub invariant-loop-figure : goal.invariant-loop-figure
invariant-loop-figure l = Wrote (fields_text (take l.figure-index l.figures)) l.at l.fn.text l.next l.text
