-- What every call keeps of each table, whatever the other tables hold: its length, and that it is sound where it was.
use Rattle.std.specs.Prelude.{◌≡◌, Bool, true, List, ℤ, length}
use Rattle.rules.specs.Tables.{Tables, sound_records, sound_positions, sound_processes}

pub record TableKept (is_sound : List ℤ → Bool) (before after : List ℤ) : Type 0 where
  pub same_length : length after ≡ length before
  pub stays-sound : is_sound before ≡ true → is_sound after ≡ true

pub record TablesKept (before after : Tables) : Type 0 where
  pub records : TableKept sound_records before.records after.records
  pub positions : TableKept sound_positions before.positions after.positions
  pub processes : TableKept sound_processes before.processes after.processes
