-- What the average of a merge is asked for: a quantity and a value in the ranges of document 01, so that every step fits an `i64`.
use Rattle.std.specs.Prelude.{◌*◌, ◌≤◌, ℤ, pos, nat_abs, ◌≤ℤ◌}

pub record Averageable (value quantity : ℤ) : Type 0 where
  pub positive : pos 1 ≤ℤ quantity
  pub most : quantity ≤ℤ pos 1_000_000
  pub bounded : nat_abs value ≤ nat_abs quantity * 1_000_000_000_000
