use Rattle.writer.proofs.LineWritten.{give-up}
use Rattle.writer.proofs.line.write_heading.Goals as goal

pub returns : goal.returns
returns c =
    let room = rw c.in-GiveUp.is at c.requires in
    let letter = rw c.in-GiveUp.is at c.letter.ensures in
    rw c.in-GiveUp.is (give-up _ _ _ _ _ _ _ _ _ _ _ room letter c.step_letter.ensures c.write_byte-next.ensures c.write_byte-after.ensures c.write_byte.ensures)
