-- Tests on integers: equality, and lying in a closed range.
use Rattle.std.specs.Prelude.{Bool, false, ◌&&◌, eqb, ℤ, pos, negsuc}
use Rattle.std.specs.Int.Signed.{le_z}

-- Whether two integers are the same.
unfoldable pub eq_z : ℤ → ℤ → Bool
eq_z (pos a) (pos b) = eqb a b
eq_z (pos a) (negsuc b) = false
eq_z (negsuc a) (pos b) = false
eq_z (negsuc a) (negsuc b) = eqb a b

-- Whether low ≤ z ≤ high.
unfoldable pub in_range : ℤ → ℤ → ℤ → Bool
in_range low high z = le_z low z && le_z z high
