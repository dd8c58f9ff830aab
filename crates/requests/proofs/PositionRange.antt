-- The figures of a sound position lie in their ranges, and stay far from the ends of 64 bits under the changes that a request makes. Assumes nothing.
use mathlib.Core.Path.{◌≡◌}
use lib.IntN.{ℤ, pos, neg_ℤ, ◌+ℤ◌}
use lib.Signed.{◌≤ℤ◌}
use mathlib.Core.Bool.{true}
use mir.Syntax.{w64}
use mir.Val.{SFits}
use Rattle.integers.specs.Order.{in_range}
use Rattle.integers.proofs.Order.{in_range-true}
use Rattle.integers.proofs.Linear.{zarith, +-lin, neg-lin}
use Rattle.rules.specs.Figures.{magnitude_at_most}
use Rattle.rules.specs.Rows.{valid_booked, valid_total}
use Rattle.rules.specs.declared.Position.{Position}
use Rattle.rules.specs.declared.Movement.{Movement}
use Rattle.soundness.proofs.FigureRanges.{magnitude-range, in-magnitude}
use Rattle.soundness.proofs.SoundPosition.{SoundPosition, position-sound}
use Rattle.verdict.specs.MovedReady.{MovedReady}

-- The sum of a figure from 0 to 1,000,000,000,000 and a booked amount.
figure-fits : (a b : ℤ) → in_range (pos 0) (pos 1000000000000) a ≡ true → valid_booked b ≡ true → SFits w64 (a +ℤ b)
unfolding valid_booked
figure-fits a b h k =
    let x : (pos 0 ≤ℤ a) × (a ≤ℤ pos 1000000000000) = in_range-true (pos 0) (pos 1000000000000) a h in
    let y : (neg_ℤ (pos 1000000) ≤ℤ b) × (b ≤ℤ pos 1000000) = magnitude-range 1000000 b k in
    omega (zarith, +-lin a b)

cash-fits : (a b : ℤ) → magnitude_at_most 1000000000000000 a ≡ true → magnitude_at_most 1000000 b ≡ true → SFits w64 (a +ℤ b)
cash-fits a b h k =
    let x : (neg_ℤ (pos 1000000000000000) ≤ℤ a) × (a ≤ℤ pos 1000000000000000) = magnitude-range 1000000000000000 a h in
    let y : (neg_ℤ (pos 1000000) ≤ℤ b) × (b ≤ℤ pos 1000000) = magnitude-range 1000000 b k in
    omega (zarith, +-lin a b)

-- A total of at most 4,000,000,000,000,000,000 in magnitude, and a quantity times a price.
total-fits : (a b : ℤ) → valid_total a ≡ true → magnitude_at_most 1000000000000000000 b ≡ true → SFits w64 (a +ℤ b)
unfolding valid_total
total-fits a b h k =
    let x : (neg_ℤ (pos 4000000000000000000) ≤ℤ a) × (a ≤ℤ pos 4000000000000000000) = magnitude-range 4000000000000000000 a h in
    let y : (neg_ℤ (pos 1000000000000000000) ≤ℤ b) × (b ≤ℤ pos 1000000000000000000) = magnitude-range 1000000000000000000 b k in
    omega (zarith, +-lin a b)

quantity-within : (b : ℤ) → magnitude_at_most 1000000 b ≡ true → magnitude_at_most 1000000000000000000 b ≡ true
quantity-within b k =
    let y : (neg_ℤ (pos 1000000) ≤ℤ b) × (b ≤ℤ pos 1000000) = magnitude-range 1000000 b k in
    in-magnitude 1000000000000000000 b (omega (zarith, neg-lin (pos 1000000), neg-lin (pos 1000000000000000000))) (omega zarith)

module _ (p : Position) (m : Movement) (ready : MovedReady p m) where
  figures : SoundPosition p
  figures = position-sound p ready.sound

  pub long-fits : SFits w64 (p.long +ℤ m.long)
  long-fits = figure-fits p.long m.long figures.long ready.long

  pub short-fits : SFits w64 (p.short +ℤ m.short)
  short-fits = figure-fits p.short m.short figures.short ready.short

  pub moved-cash-fits : SFits w64 (p.cash +ℤ m.cash)
  moved-cash-fits = cash-fits p.cash m.cash figures.cash ready.cash

  pub quantity-fits : SFits w64 (p.quantity +ℤ m.quantity)
  quantity-fits = total-fits p.quantity m.quantity figures.quantity (quantity-within m.quantity ready.quantity)

  pub value-fits : SFits w64 (p.value +ℤ m.value)
  value-fits = total-fits p.value m.value figures.value ready.value
