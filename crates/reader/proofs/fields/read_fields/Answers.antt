use Rattle.std.proofs.Common.{rules, arith, FitsSigned, w64}
use Rattle.std.proofs.lemmas.Int.{to_z-of_z}
use Rattle.std.proofs.lemmas.List.{set-get_or}
use Rattle.reader.proofs.FieldsSoFar.{one-read, no-more-fields, cells-full}
use Rattle.reader.proofs.fields.read_fields.Goals as goal

pub returns-in_default : goal.returns-in_default
returns-in_default c = let f = c.loop-cell.invariant.1 in rw set-get_or (no-more-fields f c.in_default.ensures, omega (arith, f.within, f.same_size))

pub loop-cell-preserved : goal.loop-cell-preserved
loop-cell-preserved c =
    let fits : FitsSigned w64 c.in-Some.field.value = search rules in
    (omega arith, rw (to_z-of_z w64 _ fits, ← c.loop-cell.invariant.0) (one-read c.loop-cell.invariant.1 (omega arith) c.in-Some.ensures))

pub returns : goal.returns
returns c = let f = c.loop-cell.invariant.1 in (cells-full f (omega arith), omega (arith, f.within, f.same_size))
