-- "negating every price negates the average" (document 02, K4), said of a merge: sources at the negatives of their prices give the same merged record
-- at the negative of its price, and the negative of the residual. By the law of the value's sign (`integers`), the value changing its sign with the prices.
-- Assumes nothing.
use mathlib.Core.Path.{◌≡◌, refl, ◌∙◌, ap}
use mathlib.Core.List.{List, [], ◌∷◌, map}
use native.Mathlib.Omega.{arith}
use lib.IntN.{ℤ, neg_ℤ, ◌+ℤ◌, ◌*ℤ◌}
use Rattle.integers.proofs.AverageLaws.{average-negℤ, residual-negℤ}
use Rattle.integers.proofs.Ring.{diff, zdiff}
use Rattle.rules.specs.Figures.{is_buy}
use Rattle.rules.specs.Rows.{new_record}
use Rattle.rules.specs.Merge.{first_of, sum_of_quantities, sum_of_values, merged_record, merge_residual}
use Rattle.rules.specs.declared.Record.{Record}
use Rattle.margin.specs.Mirrored.{mirrored}

quantities-stay : (rs : List Record) → sum_of_quantities (map mirrored rs) ≡ sum_of_quantities rs
unfolding sum_of_quantities mirrored
quantities-stay [] = refl
quantities-stay (r ∷ rest) = ap (λ (z : ℤ). r.quantity +ℤ z) (quantities-stay rest)

one_more : (q p v : ℤ) → q *ℤ neg_ℤ p +ℤ neg_ℤ v ≡ neg_ℤ (q *ℤ p +ℤ v)
one_more q p v = rw (diff q, diff p, diff v) (simp zdiff (omega arith))

value-negated : (rs : List Record) → sum_of_values (map mirrored rs) ≡ neg_ℤ (sum_of_values rs)
unfolding sum_of_values mirrored
value-negated [] = refl
value-negated (r ∷ rest) =
    ap (λ (z : ℤ). r.quantity *ℤ neg_ℤ r.price +ℤ z) (value-negated rest) ∙ one_more r.quantity r.price (sum_of_values rest)

-- ---- account, series and side of the first source stay

first-account : (rs : List Record) → (first_of (map mirrored rs)).account ≡ (first_of rs).account
unfolding first_of mirrored
first-account [] = refl
first-account (r ∷ rest) = refl

first-series : (rs : List Record) → (first_of (map mirrored rs)).series ≡ (first_of rs).series
unfolding first_of mirrored
first-series [] = refl
first-series (r ∷ rest) = refl

first-side : (rs : List Record) → (first_of (map mirrored rs)).side ≡ (first_of rs).side
unfolding first_of mirrored
first-side [] = refl
first-side (r ∷ rest) = refl

-- ---- the merge

pub merged-mirrored : (today id : ℤ) (rs : List Record) → merged_record today id (map mirrored rs) ≡ mirrored (merged_record today id rs)
unfolding merged_record new_record mirrored
merged-mirrored today id rs =
    rw (first-account rs, first-series rs, first-side rs, value-negated rs, quantities-stay rs, average-negℤ (sum_of_values rs) (sum_of_quantities rs)) refl

pub residual-mirrored : (rs : List Record) → merge_residual (map mirrored rs) ≡ neg_ℤ (merge_residual rs)
unfolding merge_residual
residual-mirrored rs =
    rw (first-side rs, value-negated rs, quantities-stay rs) (residual-negℤ (is_buy (first_of rs).side) (sum_of_values rs) (sum_of_quantities rs))
