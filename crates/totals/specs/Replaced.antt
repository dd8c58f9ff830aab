-- The records that a request's changed records take the place of.
use Rattle.std.specs.Prelude.{List, map}
use Rattle.rules.specs.Keyed.{find}
use Rattle.rules.specs.Rows.{record_key}
use Rattle.rules.specs.NamedRecord.{the_record}
use Rattle.rules.specs.declared.Record.{Record}

-- For each of these records the one that stands at its key.
unfoldable pub replaced : (standing changed : List Record) → List Record
replaced standing changed = map (λ (r : Record). the_record (find record_key (record_key r) standing)) changed
