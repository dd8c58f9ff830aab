-- The rows that a table lacks for what a lookup found: 1 where it found none, else 0.
use Rattle.std.specs.Prelude.{ℕ, Result, Ok, Err}

unfoldable pub absent_row : Result ℕ ℕ → ℕ
absent_row (Ok row) = 0
absent_row (Err place) = 1
