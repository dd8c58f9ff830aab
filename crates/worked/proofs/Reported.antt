-- 002's sample of the end-of-day list (document 02, K8) holds of the rules, by computation. Assumes nothing.
use mathlib.Core.Path.{◌≡◌, refl}
use mathlib.Core.List.{[], ◌∷◌, map}
use lib.IntN.{pos}
use Rattle.rules.proofs.Computed.{Computed}
use Rattle.worked.specs.Examples.{found, stated}
use Rattle.worked.specs.Reporting.{reported_at_end, first_list, second_list, third_list, first_end, second_end, third_end, first_day, second_day, third_day, list_at, list_of}

-- Of the table's rows as they stand at the end of each of the three days, just those with "Yes" are reported, in its order.
pub sample-reported : map reported_at_end (pos 1 ∷ pos 2 ∷ pos 3 ∷ []) ≡ map (map pos) (first_list ∷ second_list ∷ third_list ∷ [])
unfolding Computed
sample-reported = refl

-- The requests of each day book just the table's rows of that day, and change the statuses of rows before to those at its end.
pub first-day-booked : found first_day ≡ stated first_day
unfolding Computed
first-day-booked = refl

pub second-day-booked : found second_day ≡ stated second_day
unfolding Computed
second-day-booked = refl

pub third-day-booked : found third_day ≡ stated third_day
unfolding Computed
third-day-booked = refl

-- The question at each day's end is answered by these pairs.
pub lists-answered :
    map list_at (first_end ∷ second_end ∷ third_end ∷ []) ≡ list_of first_end first_list ∷ list_of second_end second_list ∷ list_of third_end third_list ∷ []
unfolding Computed
lists-answered = refl
