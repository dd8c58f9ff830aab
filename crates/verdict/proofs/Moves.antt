-- The amounts by which a trade, a transfer or a merge moves a position are in range: what a trade closes lies between 0 and its quantity, since a sound position's figures are
-- not negative; a quantity times a price is small beside the totals' range. Assumes nothing.
use mathlib.Core.Path.{◌≡◌, refl}
use mathlib.Core.Bool.{Bool, true, false, cond}
use mathlib.Core.Logic.{◌⊎◌, inl, inr}
use Prim.Native.Nat.{◌≤◌}
use lib.IntN.{ℤ, pos, neg_ℤ, nat_abs, ◌-ℤ◌, ◌*ℤ◌}
use lib.Signed.{le_z, ◌≤ℤ◌}
use Rattle.integers.specs.Order.{in_range}
use Rattle.integers.proofs.Linear.{zarith, neg-lin, minus-lin}
use Rattle.integers.proofs.Products.{nat_abs-≤, ≤-nat_abs, nat_abs-mul-≤}
use Rattle.rules.specs.Figures.{magnitude_at_most, valid_quantity, valid_price, is_buy, signed, is_to_close, most_quantity}
use Rattle.rules.specs.Rows.{in_booked, by_residual, sound_position, valid_booked}
use Rattle.rules.specs.Trade.{open_against, smaller, closed_by, long_booked, short_booked}
use Rattle.rules.specs.Transfer.{in_long, in_short, in_side}
use Rattle.rules.specs.declared.Position.{Position}
use Rattle.keys.proofs.Split.{split}
use Rattle.soundness.proofs.FigureRanges.{magnitude-range, in-magnitude, quantity-range, in-booked, price-range}
use Rattle.soundness.proofs.SoundPosition.{figures-positive}
use Rattle.verdict.specs.MovedReady.{MovedReady}

no-cash : magnitude_at_most 1000000 (pos 0) ≡ true
unfolding magnitude_at_most in_range
no-cash = refl

-- One of two amounts, by the side.
either-booked : (b : Bool) (x y : ℤ) → valid_booked x ≡ true → valid_booked y ≡ true → valid_booked (cond b x y) ≡ true
either-booked true x y h k = h
either-booked false x y h k = k

-- ---- the totals

-- A small amount with the sign of its side, and that times a price.
pub signed-small : (side amount : ℤ) → magnitude_at_most 1000000 amount ≡ true → magnitude_at_most 1000000 (signed side amount) ≡ true
unfolding signed
signed-small side amount small = go (is_buy side)
  where
    range : (neg_ℤ (pos 1000000) ≤ℤ amount) × (amount ≤ℤ pos 1000000)
    range = magnitude-range 1000000 amount small

    go : (buy : Bool) → magnitude_at_most 1000000 (cond buy amount (neg_ℤ amount)) ≡ true
    go true = small
    go false =
        in-magnitude 1000000 (neg_ℤ amount) (omega (zarith, range.0, range.1, neg-lin amount, neg-lin (pos 1000000))) (omega (zarith, range.0, range.1, neg-lin amount, neg-lin (pos 1000000)))

pub value-small : (quantity price : ℤ) → magnitude_at_most 1000000 quantity ≡ true → valid_price price ≡ true → nat_abs (quantity *ℤ price) ≤ 1000000000000000000
value-small quantity price small valid =
    let range : (neg_ℤ (pos 1000000) ≤ℤ quantity) × (quantity ≤ℤ pos 1000000) = magnitude-range 1000000 quantity small in
    nat_abs-mul-≤ quantity price (≤-nat_abs quantity 1000000 range.0 range.1) (price-range price valid)

signed-value-small : (side amount price : ℤ) → magnitude_at_most 1000000 amount ≡ true → valid_price price ≡ true → magnitude_at_most 1000000000000000000 (signed side amount *ℤ price) ≡ true
signed-value-small side amount price small valid =
    let bound = nat_abs-≤ (signed side amount *ℤ price) 1000000000000000000 (value-small (signed side amount) price (signed-small side amount small) valid) in
    in-magnitude 1000000000000000000 (signed side amount *ℤ price) bound.0 bound.1

pub quantity-magnitude : (quantity : ℤ) → valid_quantity quantity ≡ true → magnitude_at_most 1000000 quantity ≡ true
quantity-magnitude quantity valid =
    let range : (pos 1 ≤ℤ quantity) × (quantity ≤ℤ pos most_quantity) = quantity-range quantity valid in
    in-magnitude 1000000 quantity (omega (zarith, range.0, neg-lin (pos 1000000))) range.1

-- What is small for cash is for the value.
smaller-still : (residual : ℤ) → magnitude_at_most 1000000 residual ≡ true → magnitude_at_most 1000000000000000000 residual ≡ true
smaller-still residual small =
    let range : (neg_ℤ (pos 1000000) ≤ℤ residual) × (residual ≤ℤ pos 1000000) = magnitude-range 1000000 residual small in
    in-magnitude 1000000000000000000 residual (omega (zarith, range.0, neg-lin (pos 1000000), neg-lin (pos 1000000000000000000))) (omega (zarith, range.1))

-- ---- a trade

module _ (side quantity : ℤ) (p : Position) (sound : sound_position p ≡ true) (valid : valid_quantity quantity ≡ true) where
  pub closed-range : (pos 0 ≤ℤ closed_by side quantity p) × (closed_by side quantity p ≤ℤ quantity)
  unfolding closed_by smaller open_against
  closed-range = go (is_to_close side) (is_buy side) (figures-positive p sound) (quantity-range quantity valid)
    where
      least : (against : ℤ) → pos 0 ≤ℤ against → pos 1 ≤ℤ quantity → (le_z quantity against ≡ true) ⊎ (le_z quantity against ≡ false)
          → (pos 0 ≤ℤ cond (le_z quantity against) quantity against) × (cond (le_z quantity against) quantity against ≤ℤ quantity)
      least against o q (inl e) = rw e (omega zarith, omega zarith)
      least against o q (inr e) = rw e (o, omega zarith)

      go : (closes buys : Bool) → (pos 0 ≤ℤ p.long) × (pos 0 ≤ℤ p.short) → (pos 1 ≤ℤ quantity) × (quantity ≤ℤ pos most_quantity)
          → (pos 0 ≤ℤ cond closes (cond (le_z quantity (cond buys p.short p.long)) quantity (cond buys p.short p.long)) (pos 0))
          × (cond closes (cond (le_z quantity (cond buys p.short p.long)) quantity (cond buys p.short p.long)) (pos 0) ≤ℤ quantity)
      go true true f q = least p.short f.1 q.0 (split (le_z quantity p.short))
      go true false f q = least p.long f.0 q.0 (split (le_z quantity p.long))
      go false buys f q = (omega zarith, omega (zarith, q.0))

  pub trade-moves : (price : ℤ) → valid_price price ≡ true →
      MovedReady p (in_booked side quantity price (long_booked side quantity (closed_by side quantity p)) (short_booked side quantity (closed_by side quantity p)))
  unfolding long_booked short_booked
  trade-moves price price-valid =
      let c : ℤ = closed_by side quantity p in
      let range : (pos 0 ≤ℤ c) × (c ≤ℤ quantity) = closed-range in
      let most : quantity ≤ℤ pos most_quantity = (quantity-range quantity valid).1 in
      let opened : valid_booked (quantity -ℤ c) ≡ true = in-booked (quantity -ℤ c) (omega (zarith, minus-lin quantity c)) (omega (zarith, minus-lin quantity c)) in
      let undone : valid_booked (neg_ℤ c) ≡ true = in-booked (neg_ℤ c) (omega (zarith, neg-lin c)) (omega (zarith, neg-lin c)) in
      let small : magnitude_at_most 1000000 quantity ≡ true = quantity-magnitude quantity valid in
      record {
        sound = sound;
        long = either-booked (is_buy side) (quantity -ℤ c) (neg_ℤ c) opened undone;
        short = either-booked (is_buy side) (neg_ℤ c) (quantity -ℤ c) undone opened;
        cash = no-cash;
        quantity = signed-small side quantity small;
        value = signed-value-small side quantity price small price-valid;
      }

-- ---- a transfer

pub transfer-moves : (p : Position) (side amount price : ℤ) → sound_position p ≡ true → magnitude_at_most 1000000 amount ≡ true → valid_price price ≡ true
    → MovedReady p (in_side side amount price)
unfolding in_long in_short valid_booked
transfer-moves p side amount price sound small price-valid = record {
  sound = sound;
  long = either-booked (is_buy side) amount (pos 0) small no-cash;
  short = either-booked (is_buy side) (pos 0) amount no-cash small;
  cash = no-cash;
  quantity = signed-small side amount small;
  value = signed-value-small side amount price small price-valid;
}

-- ---- a merge

pub merge-moves : (p : Position) (residual : ℤ) → sound_position p ≡ true → magnitude_at_most 1000000 residual ≡ true → MovedReady p (by_residual residual)
unfolding valid_booked
merge-moves p residual sound small = record {
  sound = sound;
  long = no-cash;
  short = no-cash;
  cash = small;
  quantity = no-cash;
  value = smaller-still residual small;
}
