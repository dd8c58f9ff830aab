-- What is asked before a named record is adjusted and the rows that come out of it are inserted.
use Rattle.std.specs.Prelude.{suc, ◌+◌, ◌≤◌, ◌≡◌, true, List, ℤ, pos, ◌+ℤ◌, length, ◌≤ℤ◌}
use Rattle.rules.specs.Figures.{greatest_of_suffixes}
use Rattle.rules.specs.Rows.{key_of, record_key, adjusted_record, sound_record}
use Rattle.rules.specs.Layout.{room_of, rows_of}
use Rattle.rules.specs.Tables.{records_layout, sound_record_rows}
use Rattle.rules.specs.declared.Record.{Record}
use Rattle.requests.specs.declared.Named.{Named}
use Rattle.requests.specs.KnownRecord.{KnownRecord}

pub record AdjustReady (cells : List ℤ) (id suffix : ℤ) (named : Named) (inverse first : Record) (quantities : List ℤ) : Type 0 where
  pub sound : sound_record_rows cells ≡ true
  pub known : KnownRecord cells id suffix named
  pub adjusted-sound : sound_record (adjusted_record named.record) ≡ true
  pub inverse-key : record_key inverse ≡ key_of id named.next
  pub first_key : record_key first ≡ key_of id (named.next +ℤ pos 1)
  pub room : length (rows_of records_layout cells) + suc (length quantities) ≤ room_of records_layout cells
  pub last-suffix : (named.next +ℤ pos (length quantities)) ≤ℤ greatest_of_suffixes
