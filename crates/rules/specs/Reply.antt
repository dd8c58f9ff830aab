-- Document 01, "Replies": the number and the values of each answer, with those that document 02 adds.
use Rattle.std.specs.Prelude.{ℤ, pos}
use Rattle.rules.specs.Refusal.{Test}
use Rattle.rules.specs.declared.Reply.{Reply}
use Rattle.rules.specs.declared.Reply.TheVariants.{Booked, ClosingError, Lineage, Refused, Stopped, Written, Replayed, BadLine, LineRefused, Listed}

-- An answer as four numbers: which it is, in the order of "The answer is one of" and then of document 02, and what it carries, 0 where it carries less.
pub record Code : Type 0 where
  pub kind : ℤ
  pub first : ℤ
  pub second : ℤ
  pub third : ℤ

abbrev pub code_of : Reply → Code
code_of (Booked rows residual) = record { kind = pos 0; first = rows; second = residual; third = pos 0 }
code_of (ClosingError excess) = record { kind = pos 1; first = excess; second = pos 0; third = pos 0 }
code_of (Lineage price links) = record { kind = pos 2; first = price; second = links; third = pos 0 }
code_of (Refused number place) = record { kind = pos 3; first = number; second = place; third = pos 0 }
code_of (Stopped booked number place) = record { kind = pos 4; first = booked; second = number; third = place }
code_of (Written bytes) = record { kind = pos 5; first = bytes; second = pos 0; third = pos 0 }
code_of (Replayed lines) = record { kind = pos 6; first = lines; second = pos 0; third = pos 0 }
code_of (BadLine line) = record { kind = pos 7; first = line; second = pos 0; third = pos 0 }
code_of (LineRefused line number place) = record { kind = pos 8; first = line; second = number; third = place }
code_of (Listed records) = record { kind = pos 9; first = records; second = pos 0; third = pos 0 }

-- "refused, with number and place"
unfoldable pub refused_by : Test → Reply
refused_by t = Refused (pos t.number) (pos t.place)
