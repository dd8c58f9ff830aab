-- What the soundness tests say of the cells of a table, of the records, of the positions and of the processes; each way. Assumes nothing.
use Prim.Native.Nat.{◌≤◌}
use mathlib.Core.Path.{◌≡◌, ◌∙◌}
use mathlib.Core.Bool.{Bool, true}
use mathlib.Core.List.{List, map}
use lib.IntN.{ℤ}
use lib.ListN.{length}
use Rattle.rules.specs.Keyed.{Key, rising}
use Rattle.rules.specs.Refusal.{all_of}
use Rattle.rules.specs.Rows.{record_key, position_key, sound_record, sound_position}
use Rattle.rules.specs.ProcessRows.{process_number, sound_process}
use Rattle.rules.specs.Layout.{Layout, rows_of, room_of, count_is_sound, write}
use Rattle.rules.specs.Tables.{records_layout, positions_layout, processes_layout, sound_table, sound_record_rows, current_day, day_written, sound_days, sound_records, sound_positions, sound_processes}
use Rattle.rules.specs.declared.Record.{Record}
use Rattle.rules.specs.declared.Position.{Position}
use Rattle.rules.specs.declared.ProcessRow.{ProcessRow}
use Rattle.keys.proofs.Split.{and_intro, and_left, and_right}
use Rattle.cells.specs.Lawful.{Lawful}
use Rattle.cells.specs.SoundTable.{SoundTable, SoundRecords, SoundPositions, SoundProcesses}
use Rattle.cells.proofs.Count.{count-sound, sound-header, sound-count, sound-rows-fit, sound-rows-cells}
use Rattle.cells.proofs.Sound.{sound-table, table-count, table-rises, table-rows, sound-write}
use Rattle.cells.proofs.Write.{rows_write}
use Rattle.cells.proofs.DayCells.{day-kept, day-written-length, day-written-count, day-written-rows, day-written-room}
use Rattle.cells.proofs.RowCells.{records-lawful, positions-lawful, processes-lawful}

module _ {Row : Type 0} (l : Layout Row) (lawful : Lawful l) (key : Row → Key) (sound_row : Row → Bool) (cells : List ℤ) where
  pub table-known : sound_table l key sound_row cells ≡ true → SoundTable l key sound_row cells
  table-known sound =
      let c : count_is_sound l cells ≡ true = table-count l key sound_row cells sound in
      record {
        count-sound = c;
        header-within = sound-header l lawful cells c;
        count = sound-count l lawful cells c;
        rows_fit = sound-rows-fit l lawful cells c;
        rows-within = sound-rows-cells l lawful cells c;
        rows-rise = table-rises l key sound_row cells sound;
        rows-sound = table-rows l key sound_row cells sound;
      }

-- Test 1 of the records is of their rows, and of the days.
pub record-rows-sound : (cells : List ℤ) → sound_records cells ≡ true → sound_record_rows cells ≡ true
unfolding sound_records
record-rows-sound cells sound = and_left (sound_record_rows cells) (sound_days (current_day cells) (rows_of records_layout cells)) sound

pub days-sound : (cells : List ℤ) → sound_records cells ≡ true → sound_days (current_day cells) (rows_of records_layout cells) ≡ true
unfolding sound_records
days-sound cells sound = and_right (sound_record_rows cells) (sound_days (current_day cells) (rows_of records_layout cells)) sound

pub records-sound : (cells : List ℤ) → sound_record_rows cells ≡ true → sound_days (current_day cells) (rows_of records_layout cells) ≡ true → sound_records cells ≡ true
unfolding sound_records
records-sound cells rows days = and_intro rows days

pub records-known : (cells : List ℤ) → sound_record_rows cells ≡ true → SoundRecords cells
unfolding sound_record_rows
records-known cells sound = table-known records_layout records-lawful record_key sound_record cells sound

pub positions-known : (cells : List ℤ) → sound_positions cells ≡ true → SoundPositions cells
unfolding sound_positions
positions-known cells sound = table-known positions_layout positions-lawful position_key sound_position cells sound

pub processes-known : (cells : List ℤ) → sound_processes cells ≡ true → SoundProcesses cells
unfolding sound_processes
processes-known cells sound = table-known processes_layout processes-lawful process_number sound_process cells sound

pub sound-record-rows : (cells : List ℤ) → count_is_sound records_layout cells ≡ true → rising record_key (rows_of records_layout cells) ≡ true
    → all_of (map sound_record (rows_of records_layout cells)) ≡ true → sound_record_rows cells ≡ true
unfolding sound_record_rows
sound-record-rows cells c r a = sound-table records_layout record_key sound_record cells c r a

-- Another day leaves the rows sound.
pub day-written-sound : (day : ℤ) (cells : List ℤ) → sound_record_rows cells ≡ true → sound_record_rows (day_written day cells) ≡ true
day-written-sound day cells sound =
    let k : SoundRecords cells = records-known cells sound in
    let h : records_layout.header ≤ length cells = k.header-within in
    sound-record-rows (day_written day cells)
    (count-sound records_layout records-lawful (day_written day cells) (length (rows_of records_layout cells)) (rw (day-written-length day cells h) h) (day-written-count day cells h ∙ k.count)
    (rw (day-written-room day cells h) k.rows_fit))
    (rw (day-written-rows day cells h) k.rows-rise)
    (rw (day-written-rows day cells h) k.rows-sound)

pub sound-positions : (cells : List ℤ) → count_is_sound positions_layout cells ≡ true → rising position_key (rows_of positions_layout cells) ≡ true
    → all_of (map sound_position (rows_of positions_layout cells)) ≡ true → sound_positions cells ≡ true
unfolding sound_positions
sound-positions cells c r a = sound-table positions_layout position_key sound_position cells c r a

pub sound-processes : (cells : List ℤ) → count_is_sound processes_layout cells ≡ true → rising process_number (rows_of processes_layout cells) ≡ true
    → all_of (map sound_process (rows_of processes_layout cells)) ≡ true → sound_processes cells ≡ true
unfolding sound_processes
sound-processes cells c r a = sound-table processes_layout process_number sound_process cells c r a

-- Sound rows written where they fit.
pub write-sound-record-rows : (cells : List ℤ) (rows : List Record) → records_layout.header ≤ length cells → length rows ≤ room_of records_layout cells
    → rising record_key rows ≡ true → all_of (map sound_record rows) ≡ true → sound_record_rows (write records_layout cells rows) ≡ true
unfolding sound_record_rows
write-sound-record-rows cells rows h fit r a = sound-write records_layout records-lawful record_key sound_record cells rows h fit r a

pub write-sound-records : (cells : List ℤ) (rows : List Record) → records_layout.header ≤ length cells → length rows ≤ room_of records_layout cells
    → rising record_key rows ≡ true → all_of (map sound_record rows) ≡ true → sound_days (current_day cells) rows ≡ true → sound_records (write records_layout cells rows) ≡ true
write-sound-records cells rows h fit r a d =
    records-sound (write records_layout cells rows) (write-sound-record-rows cells rows h fit r a)
    (rw (day-kept cells rows h) (rw (rows_write records_layout records-lawful cells rows h) d))

pub write-sound-positions : (cells : List ℤ) (rows : List Position) → positions_layout.header ≤ length cells → length rows ≤ room_of positions_layout cells
    → rising position_key rows ≡ true → all_of (map sound_position rows) ≡ true → sound_positions (write positions_layout cells rows) ≡ true
unfolding sound_positions
write-sound-positions cells rows h fit r a = sound-write positions_layout positions-lawful position_key sound_position cells rows h fit r a

pub write-sound-processes : (cells : List ℤ) (rows : List ProcessRow) → processes_layout.header ≤ length cells → length rows ≤ room_of processes_layout cells
    → rising process_number rows ≡ true → all_of (map sound_process rows) ≡ true → sound_processes (write processes_layout cells rows) ≡ true
unfolding sound_processes
write-sound-processes cells rows h fit r a = sound-write processes_layout processes-lawful process_number sound_process cells rows h fit r a
