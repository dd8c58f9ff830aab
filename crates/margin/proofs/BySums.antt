-- The margin of records at settlement price s, by two sums over them (document 02, K7): their signed quantity times s, less their signed quantity times price. So that of a position's records of status 0
-- or 3 is its total quantity times s, less its total value. By induction on the records. Assumes nothing.
use mathlib.Core.Path.{◌≡◌, ◌∙◌, ap}
use mathlib.Core.List.{List, [], ◌∷◌}
use native.Mathlib.Omega.{arith}
use lib.IntN.{ℤ, pos, ◌+ℤ◌, ◌-ℤ◌, ◌*ℤ◌}
use Rattle.integers.proofs.Ring.{diff, zdiff}
use Rattle.rules.specs.Totals.{live_records, signed_quantity, signed_value, sum_over, total_quantity, total_value}
use Rattle.rules.specs.declared.Record.{Record}
use Rattle.margin.specs.Margin.{margin_of, margin_of_all}
use Rattle.margin.proofs.OneSide.{one_more}

no-margin : (s : ℤ) → pos 0 ≡ pos 0 *ℤ s -ℤ pos 0
no-margin s = rw (diff s) (simp zdiff (omega arith))

pub margin-by-sums : (s : ℤ) (rs : List Record) → margin_of_all s rs ≡ sum_over signed_quantity rs *ℤ s -ℤ sum_over signed_value rs
unfolding margin_of_all margin_of sum_over signed_value
margin-by-sums s [] = no-margin s
margin-by-sums s (r ∷ rest) =
    ap (λ (z : ℤ). signed_quantity r *ℤ (s -ℤ r.price) +ℤ z) (margin-by-sums s rest)
    ∙ one_more (signed_quantity r) s r.price (sum_over signed_quantity rest) (sum_over signed_value rest)

pub live-margin : (s account series : ℤ) (records : List Record) →
    margin_of_all s (live_records account series records) ≡ total_quantity account series records *ℤ s -ℤ total_value account series records
unfolding total_quantity total_value
live-margin s account series records = margin-by-sums s (live_records account series records)
