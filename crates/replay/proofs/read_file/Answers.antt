use Rattle.std.proofs.Common.{rules, ◌-◌, length, sym, subst}
use Rattle.std.specs.Io.KnownBytes.{Consumes}
use Rattle.std.proofs.KnownBytes.{Consumes-trans}
use Rattle.replay.proofs.Parts.{taken}
use Rattle.replay.proofs.read_file.Goals as goal

pub loop-at-preserved : goal.loop-at-preserved
loop-at-preserved g c =
    let at = c.loop-at.at in
    let text = c.loop-at.text in
    let read = taken at c.in_ok-more.more (length text - at) text c.read_part.new.text c.loop-at.invariant.0 c.in_ok-more.ensures.within in
    (search rules, subst (Consumes _ _) (sym read) (Consumes-trans _ _ _ _ _ c.loop-at.invariant.1 c.in_ok-more.ensures.bytes.0))
