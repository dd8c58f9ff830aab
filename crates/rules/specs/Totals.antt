-- Document 02, K7, "Totals kept beside the position": the sums over the records that the last two cells of a position row keep, and when they are true.
use Rattle.std.specs.Prelude.{◌≡◌, Bool, cond, ◌&&◌, ◌||◌, List, [], ◌∷◌, ℤ, pos, ◌+ℤ◌, ◌*ℤ◌}
use Rattle.integers.specs.Order.{eq_z}
use Rattle.rules.specs.Figures.{signed, adjustable, under_give_up}
use Rattle.rules.specs.Books.{Books, view_of}
use Rattle.rules.specs.declared.Record.{Record}

-- "of status 0 or 3"
unfoldable pub is_live : Record → Bool
is_live r = eq_z r.status adjustable || eq_z r.status under_give_up

-- A position's records are those of its account and series.
unfoldable pub is_of : (account series : ℤ) → Record → Bool
is_of account series r = eq_z r.account account && eq_z r.series series

-- "over its records of status 0 or 3"
unfoldable pub live_records : (account series : ℤ) → List Record → List Record
live_records account series [] = []
live_records account series (r ∷ rest) =
    cond (is_of account series r && is_live r) (r ∷ live_records account series rest) (live_records account series rest)

-- "buys plus, sells minus"
unfoldable pub signed_quantity : Record → ℤ
signed_quantity r = signed r.side r.quantity

-- "signed quantity times price"
unfoldable pub signed_value : Record → ℤ
signed_value r = signed_quantity r *ℤ r.price

-- A figure of the records, summed.
unfoldable pub sum_over : (Record → ℤ) → List Record → ℤ
sum_over figure [] = pos 0
sum_over figure (r ∷ rest) = figure r +ℤ sum_over figure rest

-- "the signed quantity ... over its records of status 0 or 3"
unfoldable pub total_quantity : (account series : ℤ) → List Record → ℤ
total_quantity account series records = sum_over signed_quantity (live_records account series records)

-- "and signed quantity times price over its records of status 0 or 3"
unfoldable pub total_value : (account series : ℤ) → List Record → ℤ
total_value account series records = sum_over signed_value (live_records account series records)

-- The stored figures, zeros where there is no row, equal the sums, for every account and series. No test asks this of a lent table.
pub record TrueTotals (b : Books) : Type 0 where
  pub quantities : (account series : ℤ) → ((view_of b).position_at account series).quantity ≡ total_quantity account series b.records
  pub values : (account series : ℤ) → ((view_of b).position_at account series).value ≡ total_value account series b.records
