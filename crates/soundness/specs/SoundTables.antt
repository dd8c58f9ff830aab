-- Tests 1, 2 and 19 as a statement about the cells of the lent tables.
use Rattle.std.specs.Prelude.{◌≡◌, true}
use Rattle.rules.specs.Tables.{Tables, sound_records, sound_positions, sound_processes}

-- All three tables are sound.
pub record SoundTables (t : Tables) : Type 0 where
  pub records : sound_records t.records ≡ true
  pub positions : sound_positions t.positions ≡ true
  pub processes : sound_processes t.processes ≡ true
