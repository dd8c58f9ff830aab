-- The average price of a merge and its residual, as document 01 ("Merge") states them, with the rounding of document 02 (K4).
use Rattle.std.specs.Prelude.{Bool, true, false, ℤ, ◌-ℤ◌, ◌*ℤ◌, neg_ℤ, nat_abs}
use Rattle.integers.specs.Rounded.{rounded}

-- "the average is V/Q rounded to a whole unit" (01). "A half goes away from zero, so that negating every price negates the average." (02, K4)
unfoldable pub average_of : ℤ → ℤ → ℤ
average_of value quantity = rounded value (nat_abs quantity)

-- "Residual for a buy is Q times the average less V; for a sell the negative of that."
unfoldable pub residual_of : Bool → ℤ → ℤ → ℤ
residual_of true value quantity = quantity *ℤ average_of value quantity -ℤ value
residual_of false value quantity = neg_ℤ (quantity *ℤ average_of value quantity -ℤ value)
