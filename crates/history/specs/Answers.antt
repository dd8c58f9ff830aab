-- Which answers are refusals of a request. No request is answered as a batch that stopped, a writing, a replay or the list is.
use Rattle.std.specs.Prelude.{Bool, true, false}
use Rattle.rules.specs.declared.Reply.{Reply}
use Rattle.rules.specs.declared.Reply.TheVariants.{Booked, ClosingError, Lineage, Refused, Stopped, Written, Replayed, BadLine, LineRefused, Listed}

unfoldable pub is_refusal : Reply → Bool
is_refusal (Booked rows residual) = false
is_refusal (ClosingError excess) = false
is_refusal (Lineage price links) = false
is_refusal (Refused number place) = true
is_refusal (Stopped booked number place) = false
is_refusal (Written bytes) = false
is_refusal (Replayed lines) = false
is_refusal (BadLine line) = false
is_refusal (LineRefused line number place) = false
is_refusal (Listed records) = false
