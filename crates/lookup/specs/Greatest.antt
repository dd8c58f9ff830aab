-- The greatest suffix of an id, or that it has no record.
use Rattle.std.specs.Prelude.{ℤ, Option, Some, None}

pub data Greatest : Type 0 where
  Suffix : (suffix : ℤ) → Greatest
  Nothing : Greatest

abbrev pub greatest_told : Option ℤ → Greatest
greatest_told (Some suffix) = Suffix suffix
greatest_told None = Nothing
