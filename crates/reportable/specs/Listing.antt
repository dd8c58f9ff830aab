-- What one row gives to the reporting list, and what all rows do, as the code counts it.
use Rattle.std.specs.Prelude.{ℕ, cond, List, map, ℤ, length, Result, Ok, Err}
use Rattle.rules.specs.Refusal.{any_of}
use Rattle.rules.specs.Reportable.{is_reportable, lacks_parent, reportable_among}
use Rattle.rules.specs.declared.Record.{Record}
use Rattle.rules.specs.declared.refusals.Reason.{Reason}
use Rattle.rules.specs.declared.refusals.Reason.TheVariants.{NoRecord}

-- A pair or none; refusal 5 for an inverse of the current day without its parent row.
unfoldable pub pairs_of_row : (today : ℤ) → List Record → Record → Result ℕ Reason
pairs_of_row today records r = cond (lacks_parent today records r) (Err NoRecord) (Ok (cond (is_reportable today records r) 1 0))

-- Of these rows, with their parents among `records`: refusal 5, or the number of pairs.
unfoldable pub counted_of : (today : ℤ) → (records rows : List Record) → Result ℕ Reason
counted_of today records rows = cond (any_of (map (lacks_parent today records) rows)) (Err NoRecord) (Ok (length (reportable_among today records rows)))
