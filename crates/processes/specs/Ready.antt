-- What is asked before a process is put into the table.
use Rattle.std.specs.Prelude.{ℕ, ◌<◌, ◌≡◌, true, List, ℤ, length}
use Rattle.std.proofs.Math.Option.{none}
use Rattle.rules.specs.Keyed.{greatest}
use Rattle.rules.specs.ProcessRows.{process_key, sound_process, row_of_process}
use Rattle.rules.specs.Layout.{row_at, room_of, rows_of}
use Rattle.rules.specs.Tables.{processes_layout, sound_processes}
use Rattle.rules.specs.declared.Process.{Process}
use Rattle.lookup.specs.Lookup.{place_in}

-- A new row: no process has the id, there is room, and the place is that of its key.
pub record InsertReady (cells : List ℤ) (place : ℕ) (p : Process) : Type 0 where
  pub sound : sound_processes cells ≡ true
  pub row-sound : sound_process (row_of_process p) ≡ true
  pub unused : greatest process_key p.process (rows_of processes_layout cells) ≡ none
  pub room : length (rows_of processes_layout cells) < room_of processes_layout cells
  pub place_is : place ≡ place_in processes_layout (process_key (row_of_process p)) cells

-- A row in place of one with its key.
pub record ReplaceReady (cells : List ℤ) (row : ℕ) (p : Process) : Type 0 where
  pub sound : sound_processes cells ≡ true
  pub row-sound : sound_process (row_of_process p) ≡ true
  pub row_within : row < length (rows_of processes_layout cells)
  pub key-is : process_key (row_of_process p) ≡ process_key (row_at processes_layout cells row)
