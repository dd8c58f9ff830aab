-- A quotient rounded to a whole number, a half going away from zero.
use Rattle.std.specs.Prelude.{ℕ, suc, ◌/◌, ◌+◌, ℤ, pos, negsuc, neg_ℤ}

-- Of a natural number by a positive one a half goes up: a/m + 1/2 rounded down, which is 2a + m by 2m.
unfoldable pub half_up : ℕ → ℕ → ℕ
half_up a m = (a + a + m) / (m + m)

-- "A half goes away from zero" (document 02, K4): the magnitude's half goes up, and the sign stays.
unfoldable pub rounded : ℤ → ℕ → ℤ
rounded (pos a) m = pos (half_up a m)
rounded (negsuc a) m = neg_ℤ (pos (half_up (suc a) m))
