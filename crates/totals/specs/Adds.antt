-- Document 02, K7: the sums over the records and the figures stored beside a position, before and after a request.
use Rattle.std.specs.Prelude.{◌≡◌, ℤ, ◌+ℤ◌, ◌-ℤ◌}
use Rattle.rules.specs.Books.{Books, view_of}
use Rattle.rules.specs.Totals.{total_quantity, total_value}
use Rattle.totals.specs.Amounts.{Amounts}

-- "adds to the stored figures what it changes in these sums": both by the same amounts, at this account and series
pub record Adds (before after : Books) (account series : ℤ) (amounts : Amounts) : Type 0 where
  pub quantity-summed : total_quantity account series after.records ≡ total_quantity account series before.records +ℤ amounts.quantity
  pub value-summed : total_value account series after.records ≡ total_value account series before.records +ℤ amounts.value
  pub quantity-stored : ((view_of after).position_at account series).quantity ≡ ((view_of before).position_at account series).quantity +ℤ amounts.quantity
  pub value-stored : ((view_of after).position_at account series).value ≡ ((view_of before).position_at account series).value +ℤ amounts.value

-- How far a stored figure is from its sum.
unfoldable pub quantity_off : Books → (account series : ℤ) → ℤ
quantity_off b account series = ((view_of b).position_at account series).quantity -ℤ total_quantity account series b.records

unfoldable pub value_off : Books → (account series : ℤ) → ℤ
value_off b account series = ((view_of b).position_at account series).value -ℤ total_value account series b.records

-- The stored figures of every account and series are as far from their sums in these books as in those.
pub record AsTrue (before after : Books) : Type 0 where
  pub quantities : (account series : ℤ) → quantity_off after account series ≡ quantity_off before account series
  pub values : (account series : ℤ) → value_off after account series ≡ value_off before account series
