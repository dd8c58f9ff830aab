-- What a call on sound tables promises: the answer is the rules', and the tables are sound again.
use Rattle.std.specs.Prelude.{◌≡◌, true, List, ℤ}
use Rattle.rules.specs.Request.{Request}
use Rattle.rules.specs.Tables.{sound_records, sound_positions, tables_of}
use Rattle.rules.specs.Handle.{Answer, handle}

-- Of the answer `a` to a request on the cells `records` and `positions`.
pub record HandledSoundly (records positions : List ℤ) (r : Request) (a : Answer) : Type 0 where
  pub handled : a ≡ handle (tables_of records positions) r
  pub records-sound : sound_records a.tables.records ≡ true
  pub positions-sound : sound_positions a.tables.positions ≡ true
