-- Document 01, "Merge": names a new id, account, series and a list of pairs (id, suffix).
use Rattle.std.specs.Prelude.{ℕ, ◌%◌, Bool, false, cond, not, ◌&&◌, ◌||◌, List, [], ◌∷◌, ◌++◌, map, eqb, ℤ, pos, ◌+ℤ◌, ◌*ℤ◌, length}
use Rattle.std.specs.Bool.{beq}
use Rattle.std.proofs.Math.Option.{Option, none}
use Rattle.std.specs.Int.Signed.{lt_z}
use Rattle.integers.specs.Order.{eq_z}
use Rattle.integers.specs.Average.{average_of, residual_of}
use Rattle.rules.specs.Figures.{valid_id, valid_suffix, valid_account, valid_series, valid_count, is_buy, is_to_close, most_quantity, merge_kind}
use Rattle.rules.specs.Keyed.{Key, same, is_some}
use Rattle.rules.specs.Rows.{key_of, adjusted_record, inverse_record, new_record, by_residual, moved}
use Rattle.rules.specs.Refusal.{Test, test, test_each, any_of, all_of, first_place}
use Rattle.rules.specs.Books.{View}
use Rattle.rules.specs.Plan.{Plan, booking}
use Rattle.rules.specs.NamedRecord.{no_record, the_record, next_suffix, is_elsewhere, is_not_adjustable, status_refusal}
use Rattle.rules.specs.declared.Record.{Record}
use Rattle.rules.specs.declared.Position.{Position}
use Rattle.rules.specs.declared.Reply.TheVariants.{Booked}

-- The pairs of a list of figures; a figure left over names no pair.
unfoldable pub pairs_of : List ℤ → List Key
pairs_of [] = []
pairs_of (id ∷ []) = []
pairs_of (id ∷ suffix ∷ rest) = key_of id suffix ∷ pairs_of rest

unfoldable pub valid_pair : Key → Bool
valid_pair k = valid_id k.major && valid_suffix k.minor

-- 3: every figure in its range, "odd pair list", and 2 to 1,000 sources
unfoldable pub merge_figures : (id account series : ℤ) → List ℤ → Bool
merge_figures id account series pairs =
    valid_id id && valid_account account && valid_series series
    && eqb (length pairs % 2) 0 && valid_count (length (pairs_of pairs)) && all_of (map valid_pair (pairs_of pairs))

-- A named pair, its record where there is one, and the greatest suffix of its id.
pub record Source : Type 0 where
  pub pair : Key
  pub found : Option Record
  pub greatest : Option ℤ

unfoldable pub sources_of : View → List Key → List Source
sources_of v [] = []
sources_of v (k ∷ rest) =
    record { pair = k; found = v.record_at k.major k.minor; greatest = v.greatest_suffix k.major } ∷ sources_of v rest

unfoldable pub records_of : List Source → List Record
records_of [] = []
records_of (s ∷ rest) = the_record s.found ∷ records_of rest

-- 5: "no such record"
unfoldable pub is_missing : Source → Bool
is_missing s = not (is_some s.found)

-- 7 or 17, of the first source whose status isn't 0: "a merge's first source failing it gives number and place" (document 02, K3)
unfoldable pub first_status_refusal : List Record → ℕ
first_status_refusal [] = 7
first_status_refusal (r ∷ rest) = cond (is_not_adjustable r) (status_refusal r.status) (first_status_refusal rest)

unfoldable pub status_of_each : List Record → Test
status_of_each rs = record { number = first_status_refusal rs; applies = any_of (map is_not_adjustable rs); place = first_place (map is_not_adjustable rs) }

-- 8: "it is to close"
unfoldable pub closes : Record → Bool
closes r = is_to_close r.side

unfoldable pub is_among : Key → List Key → Bool
is_among k [] = false
is_among k (e ∷ rest) = same k e || is_among k rest

-- 9: "this pair stood earlier in the list", of each source in turn
unfoldable pub stood_earlier : List Key → List Source → List Bool
stood_earlier earlier [] = []
stood_earlier earlier (s ∷ rest) = is_among s.pair earlier ∷ stood_earlier (s.pair ∷ earlier) rest

unfoldable pub first_of : List Record → Record
first_of [] = no_record
first_of (r ∷ rest) = r

-- 10: "side differs from the first source's"
unfoldable pub side_differs : Record → Record → Bool
side_differs first r = not (beq (is_buy r.side) (is_buy first.side))

-- Q, "the sum", and V, "the sum of quantity times price"
unfoldable pub sum_of_quantities : List Record → ℤ
sum_of_quantities [] = pos 0
sum_of_quantities (r ∷ rest) = r.quantity +ℤ sum_of_quantities rest

unfoldable pub sum_of_values : List Record → ℤ
sum_of_values [] = pos 0
sum_of_values (r ∷ rest) = (r.quantity *ℤ r.price) +ℤ sum_of_values rest

-- How often an id stands in a list.
unfoldable pub times_in : List ℤ → ℤ → ℤ
times_in [] id = pos 0
times_in (e ∷ rest) id = cond (eq_z e id) (pos 1) (pos 0) +ℤ times_in rest id

-- "gets, in list order, an inverse row of type 901 with its id's next suffix, parent the source, into = the new id": an earlier source of
-- the same id has taken a suffix already. "Booked cells are 0."
unfoldable pub merge_inverses : (today : ℤ) → ℤ → List ℤ → List Source → List Record
merge_inverses today into earlier [] = []
merge_inverses today into earlier (s ∷ rest) =
    inverse_record today (the_record s.found) (next_suffix s.greatest +ℤ times_in earlier s.pair.major) merge_kind (pos 0) (pos 0) into
    ∷ merge_inverses today into (s.pair.major ∷ earlier) rest

-- "Then the new id's suffix 0, parent 0, type 901, status 0, quantity Q"; "its account, series and side code are the sources'"
unfoldable pub merged_record : (today : ℤ) → ℤ → List Record → Record
merged_record today id sources =
    let first : Record = first_of sources in
    let q : ℤ = sum_of_quantities sources in
    new_record today id merge_kind first.account first.series first.side q (average_of (sum_of_values sources) q) (pos 0) (pos 0)

unfoldable pub merge_residual : List Record → ℤ
merge_residual sources = residual_of (is_buy (first_of sources).side) (sum_of_values sources) (sum_of_quantities sources)

-- `today` is the current day; `new_id` the greatest suffix of the new id, where it has a record; `p` the position of the account and series.
unfoldable pub merge_plan : (today id account series : ℤ) → List ℤ → Option ℤ → List Source → Position → Plan
merge_plan today id account series pairs new_id sources p =
    let rs : List Record = records_of sources in
    let residual : ℤ = merge_residual rs in
    booking
    (test 3 (not (merge_figures id account series pairs))
    ∷ test 4 (is_some new_id)
    ∷ test_each 5 (map is_missing sources)
    ∷ test_each 6 (map (is_elsewhere account series) rs)
    ∷ status_of_each rs
    ∷ test_each 8 (map closes rs)
    ∷ test_each 9 (stood_earlier [] sources)
    ∷ test_each 10 (map (side_differs (first_of rs)) rs)
    ∷ test 11 (lt_z (pos most_quantity) (sum_of_quantities rs))
    ∷ [])
    (record {
      changed = map adjusted_record rs;
      added = merge_inverses today id [] sources ++ (merged_record today id rs ∷ []);
      positions = moved p (by_residual residual) ∷ [];
      process = none;
      reply = Booked (pos (length sources) +ℤ pos 1) residual;
    })
