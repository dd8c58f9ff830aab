-- A trade of a batch, by its reply: refused, or booked with an excess. The answers of other calls are no trade's.
use Rattle.std.specs.Prelude.{ℤ, pos, Result, Ok, Err}
use Rattle.rules.specs.Reasons.{number_of}
use Rattle.rules.specs.declared.Reply.{Reply}
use Rattle.rules.specs.declared.Reply.TheVariants as Reply
use Rattle.rules.specs.declared.refusals.Refusal.{Refusal}

-- Booked, with its excess or 0, or refused with a number and a place.
pub data Outcome : Type 0 where
  Booked : (excess : ℤ) → Outcome
  Refused : (number place : ℤ) → Outcome

-- What the code's result says of it.
abbrev pub became : Result ℤ Refusal → Outcome
became (Ok excess) = Booked excess
became (Err refusal) = Refused (number_of refusal.reason) refusal.place

abbrev pub outcome_of : Reply → Outcome
outcome_of (Reply.Booked rows residual) = Booked (pos 0)
outcome_of (Reply.ClosingError excess) = Booked excess
outcome_of (Reply.Lineage price links) = Booked (pos 0)
outcome_of (Reply.Refused number place) = Refused number place
outcome_of (Reply.Stopped booked number place) = Booked (pos 0)
outcome_of (Reply.Written bytes) = Booked (pos 0)
outcome_of (Reply.Replayed lines) = Booked (pos 0)
outcome_of (Reply.BadLine line) = Booked (pos 0)
outcome_of (Reply.LineRefused line number place) = Booked (pos 0)
outcome_of (Reply.Listed records) = Booked (pos 0)
