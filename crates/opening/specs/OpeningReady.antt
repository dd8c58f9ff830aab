-- What is asked before an opening is booked: its record in row `row`, and the place of its process row.
use Rattle.std.specs.Prelude.{ℕ, ◌<◌, ◌≡◌, true, List, ℤ, length}
use Rattle.std.proofs.Math.Option.{none}
use Rattle.rules.specs.Figures.{under_give_up}
use Rattle.rules.specs.Keyed.{greatest}
use Rattle.rules.specs.Rows.{key_of, with_status, sound_record}
use Rattle.rules.specs.ProcessRows.{process_key, sound_process}
use Rattle.rules.specs.Layout.{row_at, room_of, rows_of}
use Rattle.rules.specs.Tables.{records_layout, processes_layout, sound_record_rows, sound_processes}
use Rattle.lookup.specs.Lookup.{place_in}
use Rattle.give_up_steps.specs.Terms.{opened_row}
use Rattle.give_up_steps.specs.declared.Terms.{Terms}

pub record OpeningReady (records processes : List ℤ) (row place : ℕ) (g : Terms) : Type 0 where
  pub records-sound : sound_record_rows records ≡ true
  pub row_within : row < length (rows_of records_layout records)
  pub restated-sound : sound_record (with_status under_give_up (row_at records_layout records row)) ≡ true
  pub processes-sound : sound_processes processes ≡ true
  pub opened-sound : sound_process (opened_row g) ≡ true
  pub unused : greatest process_key g.process (rows_of processes_layout processes) ≡ none
  pub room : length (rows_of processes_layout processes) < room_of processes_layout processes
  pub place_is : place ≡ place_in processes_layout (key_of g.process g.id) processes
