-- What a search for the parent of a record answers (document 02, K8): the row of its id with its parent suffix, or that there is none.
use Rattle.std.specs.Prelude.{ℕ, Result, Ok, Err, ◌<◌, ◌≡◌, List, ℤ, length}
use Rattle.std.proofs.Math.Option.{none, some}
use Rattle.rules.specs.Layout.{row_at, rows_of}
use Rattle.rules.specs.Tables.{records_layout}
use Rattle.rules.specs.Reportable.{parent_of}
use Rattle.rules.specs.declared.Record.{Record}

abbrev pub ParentAt : List ℤ → Record → Result ℕ ℕ → Type 0
ParentAt cells r (Ok row) = (row < length (rows_of records_layout cells)) × (parent_of (rows_of records_layout cells) r ≡ some (row_at records_layout cells row))
ParentAt cells r (Err place) = parent_of (rows_of records_layout cells) r ≡ none
