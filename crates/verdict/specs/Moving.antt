-- What an account transfer and the step that completes a give-up have in common: the named record leaves its account for another. They differ in the types of the two
-- rows that come out of it.
use Rattle.std.specs.Prelude.{List, ◌∷◌, ◌++◌, ℤ}
use Rattle.rules.specs.Figures.{transfer_kind}
use Rattle.rules.specs.Keyed.{find, greatest, upsert_all}
use Rattle.rules.specs.Rows.{key_of, record_key, position_key, or_zeros}
use Rattle.rules.specs.NamedRecord.{next_suffix}
use Rattle.rules.specs.Refusal.{test, first_refusal}
use Rattle.rules.specs.Plan.{Effects, booking_tests}
use Rattle.rules.specs.Transfer.{holds_too_little, transfer_effects}
use Rattle.rules.specs.Layout.{rows_of, write}
use Rattle.rules.specs.Tables.{current_day, tables_of, books_of, records_layout, positions_layout}
use Rattle.rules.specs.declared.Record.{Record}
use Rattle.verdict.specs.Verdict.{verdict_of}
use Rattle.verdict.specs.Verdict.{Verdict}

-- The record r of an id moved between two accounts of a series, with rows of these types.
abbrev pub moving_effects : (inverse_kind new_kind : ℤ) → (rs ps : List ℤ) → Record → (id from to series : ℤ) → Effects
moving_effects inverse_kind new_kind rs ps r id from to series =
    transfer_effects inverse_kind new_kind (current_day rs) r (next_suffix (greatest record_key id (rows_of records_layout rs))) to
    (or_zeros from series (find position_key (key_of from series) (rows_of positions_layout ps)))
    (or_zeros to series (find position_key (key_of to series) (rows_of positions_layout ps)))

-- Refusals 12 to 16 of it, which are the same for all types.
unfoldable pub moving_verdict : (rs ps : List ℤ) → Record → (id from to series : ℤ) → Verdict
moving_verdict rs ps r id from to series =
    verdict_of
    (first_refusal
    (test 12 (holds_too_little r (or_zeros from series (find position_key (key_of from series) (rows_of positions_layout ps))))
    ∷ booking_tests (books_of (tables_of rs ps)) (moving_effects transfer_kind transfer_kind rs ps r id from to series)))

-- The cells of both tables after effects.
abbrev pub records_after : Effects → List ℤ → List ℤ
records_after e rs = write records_layout rs (upsert_all record_key (e.changed ++ e.added) (rows_of records_layout rs))

abbrev pub positions_after : Effects → List ℤ → List ℤ
positions_after e ps = write positions_layout ps (upsert_all position_key e.positions (rows_of positions_layout ps))
