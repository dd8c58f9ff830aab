-- The rows of the parts are the rows like the first one, one a quantity. By induction on the parts. Assumes nothing.
use mathlib.Core.Path.{◌≡◌, refl, ap, ◌∙◌}
use mathlib.Core.List.{List, [], ◌∷◌}
use lib.IntN.{ℤ, pos, ◌+ℤ◌}
use Rattle.rules.specs.Figures.{separation_kind}
use Rattle.rules.specs.Rows.{adjustable_record}
use Rattle.rules.specs.Separation.{part_records}
use Rattle.rules.specs.declared.Record.{Record}
use Rattle.tables.specs.NewRows.{rows_like, new_rows}
use Rattle.verdict.proofs.Separation.{separation_inverse}

-- The first of them, whatever its suffix and quantity.
abbrev pub first_part : (today : ℤ) → Record → ℤ → ℤ → Record
first_part today r suffix quantity = adjustable_record today r suffix separation_kind r.account quantity (pos 0) (pos 0)

part-rows : (today : ℤ) (r : Record) (s q suffix : ℤ) (parts : List ℤ) → rows_like (first_part today r s q) suffix parts ≡ part_records today r suffix parts
unfolding rows_like part_records adjustable_record
part-rows today r s q suffix [] = refl
part-rows today r s q suffix (p ∷ rest) = ap (λ (rows : List Record). first_part today r suffix p ∷ rows) (part-rows today r s q (suffix +ℤ pos 1) rest)

-- All rows of a separation: the inverse, then those of the parts.
pub separation-rows : (today : ℤ) (r : Record) (next : ℤ) (parts : List ℤ) (inverse first : Record) → inverse ≡ separation_inverse today r next → first ≡ first_part today r (next +ℤ pos 1) r.quantity
    → new_rows inverse first parts ≡ separation_inverse today r next ∷ part_records today r (next +ℤ pos 1) parts
unfolding adjustable_record
separation-rows today r next parts inverse first e f =
    (λ i. new_rows (e i) (f i) parts) ∙ ap (λ (rows : List Record). separation_inverse today r next ∷ rows) (part-rows today r (next +ℤ pos 1) r.quantity (next +ℤ pos 1) parts)
