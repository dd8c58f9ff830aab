-- The width of the fields so far, which is at most 22 for each.
use Rattle.std.proofs.Common.{◌≡◌, ◌*◌, ◌≤◌, length, take}
use Rattle.text.specs.Fields.{fields_text}
use Rattle.writer.proofs.fields.fields_width.Given as goal

abbrev pub invariant-loop-figure : goal.invariant-loop-figure
invariant-loop-figure l = (l.width ≡ length (fields_text (take l.figure-index l.figures))) × (l.width ≤ 22 * l.figure-index)
