-- What stood earlier in the list of pairs.
use Rattle.std.specs.Prelude.{ℕ, zero, suc, ◌+◌, ◌*◌, Bool, List, [], ◌∷◌, ℤ, pos, get_or}
use Rattle.integers.specs.Order.{eq_z}
use Rattle.rules.specs.Keyed.{Key}
use Rattle.rules.specs.Rows.{key_of}
use Rattle.rules.specs.Merge.{pairs_of, is_among, times_in}
use Rattle.merge_sources.specs.Sources.{Place, place_of}

-- A pair of figures, id and suffix, as a key.
abbrev pub pair_of : List ℤ → Key
pair_of figures = key_of (get_or figures 0 (pos 0)) (get_or figures 1 (pos 0))

-- Whether its id is this one.
abbrev pub has_id : ℤ → List ℤ → Bool
has_id id figures = eq_z (pair_of figures).major id

-- The pair at a place.
unfoldable pub pair_at : List ℤ → ℕ → Key
pair_at pairs place = key_of (get_or pairs (2 * place) (pos 0)) (get_or pairs (2 * place + 1) (pos 0))

-- The pairs before a place, and their ids, the nearest first.
unfoldable pub earlier_pairs : List ℤ → ℕ → List Key
earlier_pairs pairs zero = []
earlier_pairs pairs (suc n) = pair_at pairs n ∷ earlier_pairs pairs n

unfoldable pub earlier_ids : List ℤ → ℕ → List ℤ
earlier_ids pairs zero = []
earlier_ids pairs (suc n) = (pair_at pairs n).major ∷ earlier_ids pairs n

unfoldable pub stands_earlier : List ℤ → ℕ → Bool
stands_earlier pairs place = is_among (pair_at pairs place) (earlier_pairs pairs place)

unfoldable pub times_earlier : List ℤ → ℕ → ℤ
times_earlier pairs place = times_in (earlier_ids pairs place) (pair_at pairs place).major

-- Test 9 over the whole list, given what stood earlier.
unfoldable pub repeats_from : List Key → List Key → List Bool
repeats_from earlier [] = []
repeats_from earlier (k ∷ rest) = is_among k earlier ∷ repeats_from (k ∷ earlier) rest

unfoldable pub repeated_place : List ℤ → Place
repeated_place pairs = place_of (repeats_from [] (pairs_of pairs))
