-- Document 01, "Separation": names id, suffix, account, series and the part quantities.
use Rattle.std.specs.Prelude.{Bool, not, ◌&&◌, List, [], ◌∷◌, map, ℤ, pos, ◌+ℤ◌, length}
use Rattle.std.proofs.Math.Option.{Option, none}
use Rattle.integers.specs.Order.{eq_z}
use Rattle.rules.specs.Figures.{valid_id, valid_suffix, valid_account, valid_series, valid_quantity, valid_count, separation_kind}
use Rattle.rules.specs.Keyed.{is_some}
use Rattle.rules.specs.NamedRecord.{the_record, next_suffix, is_elsewhere, status_test}
use Rattle.rules.specs.Rows.{adjusted_record, inverse_record, adjustable_record}
use Rattle.rules.specs.Refusal.{test, all_of}
use Rattle.rules.specs.Plan.{Plan, booking}
use Rattle.rules.specs.declared.Record.{Record}
use Rattle.rules.specs.declared.Reply.TheVariants.{Booked}

unfoldable pub sum_of : List ℤ → ℤ
sum_of [] = pos 0
sum_of (q ∷ rest) = q +ℤ sum_of rest

-- 3: every figure and every part in its range, and 2 to 1,000 parts
unfoldable pub separation_figures : (id suffix account series : ℤ) → List ℤ → Bool
separation_figures id suffix account series parts =
    valid_id id && valid_suffix suffix && valid_account account && valid_series series
    && valid_count (length parts) && all_of (map valid_quantity parts)

-- "then one adjustable row a part in the order given", with successive suffixes from this one on. "Booked cells are 0."
unfoldable pub part_records : (today : ℤ) → Record → ℤ → List ℤ → List Record
part_records today r suffix [] = []
part_records today r suffix (q ∷ rest) = adjustable_record today r suffix separation_kind r.account q (pos 0) (pos 0) ∷ part_records today r (suffix +ℤ pos 1) rest

-- `today` is the current day, `found` the named record, `greatest` the greatest suffix of its id. "the position does not move"
unfoldable pub separation_plan : (today id suffix account series : ℤ) → List ℤ → Option Record → Option ℤ → Plan
separation_plan today id suffix account series parts found greatest =
    let r : Record = the_record found in
    let next : ℤ = next_suffix greatest in
    booking
    (test 3 (not (separation_figures id suffix account series parts))
    ∷ test 5 (not (is_some found))
    ∷ test 6 (is_elsewhere account series r)
    ∷ status_test r
    ∷ test 11 (not (eq_z (sum_of parts) r.quantity))
    ∷ [])
    (record {
      changed = adjusted_record r ∷ [];
      added = inverse_record today r next separation_kind (pos 0) (pos 0) (pos 0) ∷ part_records today r (next +ℤ pos 1) parts;
      positions = [];
      process = none;
      reply = Booked (pos (length parts) +ℤ pos 1) (pos 0);
    })
