-- What became of a line: booked, with the place of the next; bad; or refused with a number and a place. And what the code's result says of it.
use Rattle.std.specs.Prelude.{ℕ, ℤ, Result, Ok, Err}
use Rattle.rules.specs.Reasons.{number_of}
use Rattle.replaying.specs.declared.Unbooked.{Unbooked}
use Rattle.replaying.specs.declared.Unbooked.TheVariants as Unbooked

pub data Became : Type 0 where
  Booked : (next : ℕ) → Became
  Bad : Became
  Refused : (number place : ℤ) → Became

abbrev pub became : Result ℕ Unbooked → Became
became (Ok next) = Booked next
became (Err Unbooked.Bad) = Bad
became (Err (Unbooked.Refused refusal)) = Refused (number_of refusal.reason) refusal.place
