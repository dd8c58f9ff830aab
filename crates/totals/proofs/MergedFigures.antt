-- The merged record and its sources, all on one side (test 10): it has their signed quantity, and their signed values and the residual. From the margin of records on one side, which is known at
-- every settlement price: the prices 0 and 1 part the quantities from the values. Assumes nothing.
use mathlib.Core.Path.{◌≡◌, sym, ◌∙◌, ap}
use mathlib.Core.Bool.{Bool, true, false, cond}
use mathlib.Core.List.{List, map}
use mathlib.Core.Logic.{◌⊎◌, inl, inr}
use native.Mathlib.Omega.{arith}
use lib.IntN.{ℤ, pos, neg_ℤ, ◌+ℤ◌, ◌-ℤ◌, ◌*ℤ◌}
use Rattle.integers.specs.Average.{average_of, residual_of}
use Rattle.integers.proofs.Linear.{zarith, +-lin, minus-lin, neg-lin}
use Rattle.integers.proofs.Ring.{diff, zdiff, negℤ-*ℤ}
use Rattle.integers.proofs.AverageLaws.{residual-buy, residual-sell}
use Rattle.rules.specs.Figures.{is_buy, signed}
use Rattle.rules.specs.Rows.{new_record}
use Rattle.rules.specs.Refusal.{any_of}
use Rattle.rules.specs.Merge.{first_of, side_differs, sum_of_quantities, sum_of_values, merged_record, merge_residual}
use Rattle.rules.specs.Totals.{signed_quantity, signed_value, sum_over}
use Rattle.rules.specs.declared.Record.{Record}
use Rattle.keys.proofs.Split.{split}
use Rattle.margin.proofs.OneSide.{margin-of-buys, margin-of-sells}
use Rattle.margin.proofs.BySums.{margin-by-sums}

-- ---- quantities and values, told apart by two prices

at_zero : (q v : ℤ) → q *ℤ pos 0 -ℤ v ≡ neg_ℤ v
at_zero q v = rw (diff q, diff v) (simp zdiff (omega arith))

at_one : (q v : ℤ) → q *ℤ pos 1 -ℤ v ≡ q -ℤ v
at_one q v = rw (diff q, diff v) (simp zdiff (omega arith))

same-figures : (q v x y : ℤ) → ((s : ℤ) → q *ℤ s -ℤ v ≡ x *ℤ s -ℤ y) → (q ≡ x) × (v ≡ y)
same-figures q v x y h =
    let values : neg_ℤ v ≡ neg_ℤ y = sym (at_zero q v) ∙ h (pos 0) ∙ at_zero x y in
    let both : q -ℤ v ≡ x -ℤ y = sym (at_one q v) ∙ h (pos 1) ∙ at_one x y in
    (omega (zarith, values, both, neg-lin v, neg-lin y, minus-lin q v, minus-lin x y), omega (zarith, values, neg-lin v, neg-lin y))

sells-mirrored : (q s v : ℤ) → neg_ℤ (q *ℤ s -ℤ v) ≡ neg_ℤ q *ℤ s -ℤ neg_ℤ v
sells-mirrored q s v = rw (diff q, diff s, diff v) (simp zdiff (omega arith))

-- ---- the merged record

module _ (today id : ℤ) (rs : List Record) (one_side : any_of (map (side_differs (first_of rs)) rs) ≡ false) where
  abbrev q : ℤ
  q = sum_of_quantities rs

  abbrev v : ℤ
  v = sum_of_values rs

  buys : is_buy (first_of rs).side ≡ true → (sum_over signed_quantity rs ≡ q) × (sum_over signed_value rs ≡ v)
  buys e = same-figures (sum_over signed_quantity rs) (sum_over signed_value rs) q v (λ s. sym (margin-by-sums s rs) ∙ margin-of-buys s (first_of rs) rs e one_side)

  sells : is_buy (first_of rs).side ≡ false → (sum_over signed_quantity rs ≡ neg_ℤ q) × (sum_over signed_value rs ≡ neg_ℤ v)
  sells e = same-figures (sum_over signed_quantity rs) (sum_over signed_value rs) (neg_ℤ q) (neg_ℤ v)
      (λ s. sym (margin-by-sums s rs) ∙ margin-of-sells s (first_of rs) rs e one_side ∙ sells-mirrored q s v)

  merged-signed : (c : Bool) → is_buy (first_of rs).side ≡ c → signed_quantity (merged_record today id rs) ≡ cond c q (neg_ℤ q)
  unfolding merged_record new_record signed_quantity signed
  merged-signed c e = ap (λ (x : Bool). cond x q (neg_ℤ q)) e

  pub merged-quantity : signed_quantity (merged_record today id rs) ≡ sum_over signed_quantity rs
  merged-quantity = go (split (is_buy (first_of rs).side))
    where
      go : (is_buy (first_of rs).side ≡ true) ⊎ (is_buy (first_of rs).side ≡ false) → signed_quantity (merged_record today id rs) ≡ sum_over signed_quantity rs
      go (inl e) = merged-signed true e ∙ sym (buys e).0
      go (inr e) = merged-signed false e ∙ sym (sells e).0

  residual-by-side : (c : Bool) → is_buy (first_of rs).side ≡ c → merge_residual rs ≡ residual_of c v q
  unfolding merge_residual
  residual-by-side c e = ap (λ (x : Bool). residual_of x v q) e

  -- The value of the merged record: its signed quantity times the average.
  merged-priced : (z : ℤ) → signed_quantity (merged_record today id rs) ≡ z → signed_value (merged_record today id rs) ≡ z *ℤ average_of v q
  unfolding merged_record new_record signed_value
  merged-priced z e = ap (λ (x : ℤ). x *ℤ average_of v q) e

  pub merged_value : signed_value (merged_record today id rs) ≡ sum_over signed_value rs +ℤ merge_residual rs
  merged_value = go (split (is_buy (first_of rs).side))
    where
      whole : ℤ
      whole = q *ℤ average_of v q

      go : (is_buy (first_of rs).side ≡ true) ⊎ (is_buy (first_of rs).side ≡ false) → signed_value (merged_record today id rs) ≡ sum_over signed_value rs +ℤ merge_residual rs
      go (inl e) =
          let value : signed_value (merged_record today id rs) ≡ whole = merged-priced q (merged-signed true e) in
          let residual : merge_residual rs ≡ whole -ℤ v = residual-by-side true e ∙ residual-buy v q in
          omega (zarith, value, residual, (buys e).1, minus-lin whole v, +-lin (sum_over signed_value rs) (merge_residual rs))
      go (inr e) =
          let value : signed_value (merged_record today id rs) ≡ neg_ℤ whole = merged-priced (neg_ℤ q) (merged-signed false e) ∙ negℤ-*ℤ q (average_of v q) in
          let residual : merge_residual rs ≡ neg_ℤ (whole -ℤ v) = residual-by-side false e ∙ residual-sell v q in
          omega (zarith, value, residual, (sells e).1, neg-lin whole, neg-lin v, minus-lin whole v, neg-lin (whole -ℤ v), +-lin (sum_over signed_value rs) (merge_residual rs))
