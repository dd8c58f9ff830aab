-- What each clause of the searches over a list of keys says. By the definitions. Assumes nothing.
use Prim.Native.Nat.{ℕ, ◌+◌}
use mathlib.Core.Path.{◌≡◌, refl}
use mathlib.Core.Bool.{true, false}
use mathlib.Core.List.{List, [], ◌∷◌}
use mathlib.Core.Option.{none, some}
use Rattle.rules.specs.Keyed.{Key, below, same}
use Rattle.keys.proofs.Split.{cond-true, cond-false}
use Rattle.lookup.specs.Lookup.{row_from, place_from}

pub row_from-nil : (row : ℕ) (k : Key) → row_from row k [] ≡ none
unfolding row_from
row_from-nil row k = refl

pub row_from-here : (row : ℕ) (k e : Key) (rest : List Key) → same e k ≡ true → row_from row k (e ∷ rest) ≡ some row
unfolding row_from
row_from-here row k e rest h = cond-true (some row) (row_from (row + 1) k rest) h

pub row_from-there : (row : ℕ) (k e : Key) (rest : List Key) → same e k ≡ false → row_from row k (e ∷ rest) ≡ row_from (row + 1) k rest
unfolding row_from
row_from-there row k e rest h = cond-false (some row) (row_from (row + 1) k rest) h

pub place_from-nil : (row : ℕ) (k : Key) → place_from row k [] ≡ row
unfolding place_from
place_from-nil row k = refl

pub place_from-here : (row : ℕ) (k e : Key) (rest : List Key) → below k e ≡ true → place_from row k (e ∷ rest) ≡ row
unfolding place_from
place_from-here row k e rest h = cond-true row (place_from (row + 1) k rest) h

pub place_from-there : (row : ℕ) (k e : Key) (rest : List Key) → below k e ≡ false → place_from row k (e ∷ rest) ≡ place_from (row + 1) k rest
unfolding place_from
place_from-there row k e rest h = cond-false row (place_from (row + 1) k rest) h
