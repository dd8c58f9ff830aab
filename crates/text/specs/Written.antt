-- A text with these bytes at this place, and all others as they were; or a lent output with these cells.
use Rattle.std.specs.Prelude.{ℕ, ◌+◌, List, ◌++◌, length, take, drop}

unfoldable pub written : {A : Type 0} → List A → ℕ → List A → List A
written bytes at text = take at text ++ (bytes ++ drop (at + length bytes) text)
