-- A sound position figure by figure. By the definition. Assumes nothing.
use mathlib.Core.Path.{◌≡◌}
use mathlib.Core.Bool.{true}
use lib.IntN.{pos}
use lib.Signed.{◌≤ℤ◌}
use Rattle.integers.specs.Order.{in_range}
use Rattle.integers.proofs.Order.{in_range-true}
use Rattle.rules.specs.Figures.{magnitude_at_most}
use Rattle.rules.specs.Rows.{valid_total, sound_position}
use Rattle.rules.specs.declared.Position.{Position}
use Rattle.soundness.proofs.Accepted.{both}

pub record SoundPosition (p : Position) : Type 0 where
  pub long : in_range (pos 0) (pos 1000000000000) p.long ≡ true
  pub short : in_range (pos 0) (pos 1000000000000) p.short ≡ true
  pub cash : magnitude_at_most 1000000000000000 p.cash ≡ true
  pub quantity : valid_total p.quantity ≡ true
  pub value : valid_total p.value ≡ true

pub position-sound : (p : Position) → sound_position p ≡ true → SoundPosition p
unfolding sound_position
position-sound p h =
    let f1 = both _ _ h in
    let f2 = both _ _ f1.0 in
    let f3 = both _ _ f2.0 in
    let f4 = both _ _ f3.0 in
    record { long = f4.0; short = f4.1; cash = f3.1; quantity = f2.1; value = f1.1 }

-- Long and short are not negative.
pub figures-positive : (p : Position) → sound_position p ≡ true → (pos 0 ≤ℤ p.long) × (pos 0 ≤ℤ p.short)
figures-positive p h =
    let s : SoundPosition p = position-sound p h in
    ((in_range-true (pos 0) (pos 1000000000000) p.long s.long).0, (in_range-true (pos 0) (pos 1000000000000) p.short s.short).0)
