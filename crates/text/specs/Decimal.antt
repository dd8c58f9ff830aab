-- Whole numbers as text (document 02, K5): "Decimal, no leading zeros, minus for negatives only." A text is a list of bytes, each a number.
use Rattle.std.specs.Prelude.{ℕ, zero, suc, ◌+◌, ◌/◌, ◌%◌, List, [], ◌∷◌, ◌++◌, ℤ, pos, negsuc}

-- The byte of a digit: 48 is 0, and 1 to 9 follow it.
abbrev pub digit : ℕ → ℕ
digit n = 48 + n

abbrev pub minus : ℕ
minus = 45

-- The digits before the last one: none before that of a number below 10.
unfoldable pub digits_before : ℕ → (ℕ → List ℕ) → List ℕ
digits_before zero onward = []
digits_before (suc n) onward = onward (suc n)

-- The digits of n, of which there are at most so many: those of n / 10, then the last one.
unfoldable pub digits_within : ℕ → ℕ → List ℕ
digits_within zero n = []
digits_within (suc most) n = digits_before (n / 10) (λ (m : ℕ). digits_within most m) ++ (digit (n % 10) ∷ [])

-- A number above 0 has no more digits than it counts, and 0 has one.
unfoldable pub digits_of : ℕ → List ℕ
digits_of n = digits_within (suc n) n

unfoldable pub number_text : ℤ → List ℕ
number_text (pos n) = digits_of n
number_text (negsuc n) = minus ∷ digits_of (suc n)
