-- What is required where a position is moved by amounts: it is sound, and the amounts are small enough for every sum to fit.
use Rattle.std.specs.Prelude.{◌≡◌, true}
use Rattle.rules.specs.Figures.{magnitude_at_most}
use Rattle.rules.specs.Rows.{sound_position, valid_booked}
use Rattle.rules.specs.declared.Position.{Position}
use Rattle.rules.specs.declared.Movement.{Movement}

pub record MovedReady (p : Position) (m : Movement) : Type 0 where
  pub sound : sound_position p ≡ true
  pub long : valid_booked m.long ≡ true
  pub short : valid_booked m.short ≡ true
  pub cash : magnitude_at_most 1000000 m.cash ≡ true
  pub quantity : magnitude_at_most 1000000 m.quantity ≡ true
  pub value : magnitude_at_most 1000000000000000000 m.value ≡ true
