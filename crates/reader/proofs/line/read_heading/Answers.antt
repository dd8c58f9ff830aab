use Rattle.std.proofs.Common.{rules, arith, sym, ◌∙◌, ap}
use Rattle.rules.specs.Reader.{take_heading}
use Rattle.reader.proofs.Places.{begins}
use Rattle.reader.proofs.Headings.{no-heading}
use Rattle.reader.proofs.line.read_heading.Goals as goal
use Rattle.reader.proofs.line.read_heading.Goals.{in-84, in-83, in-65, in-77, in-68}

pub returns-in-71 : goal.returns-in-71
unfolding take_heading
returns-in-71 c = c.read_step.ensures ∙ sym (ap take_heading (begins c.args.text.now c.args.at c.byte_at.ensures c.in-71.is (omega arith)))

pub returns-in_default : goal.returns-in_default
returns-in_default c = search (rules, no-heading c.args.text.now c.args.at c.byte_at.ensures)

pub returns : goal.returns
unfolding take_heading
returns c =
    elim c.match-byte_at.branch [
      | in-84 w ↦ rw w.heading-is (sym (ap take_heading (begins c.args.text.now c.args.at c.byte_at.ensures w.in-84.is (omega arith))))
      | in-83 w ↦ rw w.heading-is (sym (ap take_heading (begins c.args.text.now c.args.at c.byte_at.ensures w.in-83.is (omega arith))))
      | in-65 w ↦ rw w.heading-is (sym (ap take_heading (begins c.args.text.now c.args.at c.byte_at.ensures w.in-65.is (omega arith))))
      | in-77 w ↦ rw w.heading-is (sym (ap take_heading (begins c.args.text.now c.args.at c.byte_at.ensures w.in-77.is (omega arith))))
      | in-68 w ↦ rw w.heading-is (sym (ap take_heading (begins c.args.text.now c.args.at c.byte_at.ensures w.in-68.is (omega arith))))
    ]
