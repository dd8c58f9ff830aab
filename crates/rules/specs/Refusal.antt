-- Document 01's table of refusals: a row is a number, whether it applies, and the place that it would give.
use Rattle.std.specs.Prelude.{ℕ, suc, Bool, true, false, cond, ◌&&◌, ◌||◌, List, [], ◌∷◌}
use Rattle.std.proofs.Math.Option.{Option, none, some}

pub record Test : Type 0 where
  pub number : ℕ
  pub applies : Bool
  pub place : ℕ

-- A row whose place is 0.
unfoldable pub test : ℕ → Bool → Test
test number applies = record { number = number; applies = applies; place = 0 }

unfoldable pub any_of : List Bool → Bool
any_of [] = false
any_of (b ∷ rest) = b || any_of rest

unfoldable pub all_of : List Bool → Bool
all_of [] = true
all_of (b ∷ rest) = b && all_of rest

-- "the list position, from 0, of the first source that fails"
unfoldable pub first_place : List Bool → ℕ
first_place [] = 0
first_place (b ∷ rest) = cond b 0 (suc (first_place rest))

-- "Each test runs over the whole list before the next number is tried": one row for a whole list of sources.
unfoldable pub test_each : ℕ → List Bool → Test
test_each number fails = record { number = number; applies = any_of fails; place = first_place fails }

-- "Given exactly when, and no lower number applies": the first row that applies.
unfoldable pub first_refusal : List Test → Option Test
first_refusal [] = none
first_refusal (t ∷ rest) = cond t.applies (some t) (first_refusal rest)
