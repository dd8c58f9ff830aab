use Rattle.std.proofs.Common.{sym, ◌∙◌}
use Rattle.reader.proofs.Numbers.{no_field, field-there}
use Rattle.reader.proofs.fields.read_field.Goals as goal

pub returns-then-byte_at-ne9 : goal.returns-then-byte_at-ne9
returns-then-byte_at-ne9 c = no_field c.args.text.now c.args.at c.byte_at.ensures c.if-byte_at-ne9.true

pub returns : goal.returns
returns c = c.read_number.ensures ∙ sym (field-there c.args.text.now c.args.at c.byte_at.ensures c.if-byte_at-ne9.false)
