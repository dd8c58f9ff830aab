use Rattle.std.proofs.Common.{get_or, pos, sym, FitsSigned, w64, rules, arith}
use Rattle.std.proofs.lemmas.Int.{to_z-of_z}
use Rattle.text.specs.Fields.{fields_text}
use Rattle.text.proofs.WrittenLaws.{written-nothing}
use Rattle.writer.proofs.NumbersWritten.{field_room, field-written}
use Rattle.writer.proofs.fields.write_fields.Goals as goal

pub loop-figure-init : goal.loop-figure-init
unfolding fields_text
loop-figure-init c = (omega arith, sym (written-nothing c.args.at c.args.text.now))

pub write_byte-after-requires : goal.write_byte-after-requires
write_byte-after-requires c =
    omega (arith, field_room c.args.figures.now c.loop-figure.figure-index c.args.at c.args.text.now (omega arith) c.requires _ _ c.loop-figure.invariant)

pub write_number-next-requires : goal.write_number-next-requires
write_number-next-requires c =
    let fits : FitsSigned w64 (get_or c.args.figures.now c.loop-figure.figure-index (pos 0)) = search rules in
    let room = field_room c.args.figures.now c.loop-figure.figure-index c.args.at c.args.text.now (omega arith) c.requires _ _ c.loop-figure.invariant in
    rw (to_z-of_z w64 _ fits) (omega (arith, room, c.write_byte-after.auto.text))

pub loop-figure-preserved : goal.loop-figure-preserved
loop-figure-preserved c =
    let fits : FitsSigned w64 (get_or c.args.figures.now c.loop-figure.figure-index (pos 0)) = search rules in
    field-written c.args.figures.now c.loop-figure.figure-index c.args.at c.args.text.now (omega arith) c.requires _ _ _ _ _ _ c.loop-figure.invariant c.write_byte-after.ensures
    (simp (to_z-of_z w64 _ fits) at c.write_number-next.ensures)
