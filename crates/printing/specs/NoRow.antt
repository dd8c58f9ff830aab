-- The cells of a table that holds no row.
use Rattle.std.specs.Prelude.{ℕ, ℤ, List, pos, negsuc, length, get_or, ◌≡◌, ◌<◌, ◌≤◌}

--- A header of zeros, and -1 in each cell past it.
abbrev pub HoldsNoRow : (header : ℕ) → List ℤ → Type 0
HoldsNoRow header cells =
    ((k : ℕ) → k < length cells → k < header → get_or cells k (pos 0) ≡ pos 0) × ((k : ℕ) → k < length cells → header ≤ k → get_or cells k (pos 0) ≡ negsuc 0)
