-- What a sound table is known to be: its header, its rows within its room and cells, rising, and each sound.
use Rattle.std.specs.Prelude.{◌≤◌, ◌≡◌, Bool, true, List, map, ℤ, pos, length}
use Rattle.rules.specs.Keyed.{Key, rising}
use Rattle.rules.specs.Refusal.{all_of}
use Rattle.rules.specs.Rows.{record_key, position_key, sound_record, sound_position}
use Rattle.rules.specs.ProcessRows.{process_number, sound_process}
use Rattle.rules.specs.Layout.{Layout, count_of, start_of, room_of, rows_of, count_is_sound}
use Rattle.rules.specs.Tables.{records_layout, positions_layout, processes_layout}

pub record SoundTable {Row : Type 0} (l : Layout Row) (key : Row → Key) (sound_row : Row → Bool) (cells : List ℤ) : Type 0 where
  pub count-sound : count_is_sound l cells ≡ true
  pub header-within : l.header ≤ length cells
  pub count : count_of cells ≡ pos (length (rows_of l cells))
  pub rows_fit : length (rows_of l cells) ≤ room_of l cells
  pub rows-within : start_of l (length (rows_of l cells)) ≤ length cells
  pub rows-rise : rising key (rows_of l cells) ≡ true
  pub rows-sound : all_of (map sound_row (rows_of l cells)) ≡ true

abbrev pub SoundRecords : List ℤ → Type 0
SoundRecords cells = SoundTable records_layout record_key sound_record cells

abbrev pub SoundPositions : List ℤ → Type 0
SoundPositions cells = SoundTable positions_layout position_key sound_position cells

abbrev pub SoundProcesses : List ℤ → Type 0
SoundProcesses cells = SoundTable processes_layout process_number sound_process cells
