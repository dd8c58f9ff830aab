-- What a search finds: the row with a key, or the row where it belongs; and what the code's result says of it.
use Rattle.std.specs.Prelude.{ℕ, Result, Ok, Err}

pub data Found : Type 0 where
  Row : (row : ℕ) → Found
  Absent : (place : ℕ) → Found

abbrev pub found_told : Result ℕ ℕ → Found
found_told (Ok row) = Row row
found_told (Err place) = Absent place
