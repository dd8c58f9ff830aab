-- The rows that an answer says were added to the records table: what a booked one carries; a closing error is a trade's, which adds one; a batch that stopped
-- added one for each trade that it booked; the others name none. What a replay added is the sum over the requests that it booked (history/specs/RowsBooked).
use Rattle.std.specs.Prelude.{ℤ, pos}
use Rattle.rules.specs.declared.Reply.{Reply}
use Rattle.rules.specs.declared.Reply.TheVariants.{Booked, ClosingError, Lineage, Refused, Stopped, Written, Replayed, BadLine, LineRefused, Listed}

abbrev pub rows_answered : Reply → ℤ
rows_answered (Booked rows residual) = rows
rows_answered (ClosingError excess) = pos 1
rows_answered (Lineage price links) = pos 0
rows_answered (Refused number place) = pos 0
rows_answered (Stopped booked number place) = booked
rows_answered (Written bytes) = pos 0
rows_answered (Replayed lines) = pos 0
rows_answered (BadLine line) = pos 0
rows_answered (LineRefused line number place) = pos 0
rows_answered (Listed records) = pos 0
