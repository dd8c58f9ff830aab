-- What was found and read of a record that a request names, and of its id's next suffix.
use Rattle.std.specs.Prelude.{◌<◌, ◌≡◌, List, ℤ, length}
use Rattle.std.proofs.Math.Option.{some}
use Rattle.rules.specs.Keyed.{find, greatest}
use Rattle.rules.specs.Rows.{key_of, record_key}
use Rattle.rules.specs.NamedRecord.{next_suffix}
use Rattle.rules.specs.Layout.{row_at, rows_of}
use Rattle.rules.specs.Tables.{records_layout}
use Rattle.lookup.specs.Lookup.{place_in}
use Rattle.requests.specs.declared.Named.{Named}

pub record KnownRecord (cells : List ℤ) (id suffix : ℤ) (named : Named) : Type 0 where
  pub row_within : named.row < length (rows_of records_layout cells)
  pub row_is : named.record ≡ row_at records_layout cells named.row
  pub found : find record_key (key_of id suffix) (rows_of records_layout cells) ≡ some named.record
  pub next-is : named.next ≡ next_suffix (greatest record_key id (rows_of records_layout cells))
  pub place_is : named.place ≡ place_in records_layout (key_of id named.next) cells
