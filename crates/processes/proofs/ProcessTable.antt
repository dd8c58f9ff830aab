-- The process table, once it is sound: searched by process id and transaction id, its rows rising by the process id alone. Assumes nothing.
use Prim.Native.Nat.{ℕ, suc, ◌≤◌, ◌<◌}
use native.Mathlib.Omega.{arith}
use mathlib.Core.Path.{◌≡◌, refl, sym, ap, ◌∙◌}
use mathlib.Core.Bool.{true, ◌&&◌}
use mathlib.Core.List.{List}
use lib.IntN.{ℤ}
use lib.ListN.{length}
use Rattle.rules.specs.Keyed.{Key}
use Rattle.rules.specs.Figures.{valid_id, valid_suffix, valid_account, valid_series}
use Rattle.rules.specs.ProcessRows.{process_key, valid_approval, valid_stage, sound_process, row_of_process}
use Rattle.rules.specs.Layout.{start_of, row_at, rows_of}
use Rattle.rules.specs.Tables.{processes_layout, sound_processes}
use Rattle.rules.specs.declared.Process.{Process}
use Rattle.rules.specs.declared.ProcessRow.{ProcessRow}
use Rattle.cells.specs.SoundTable.{SoundTable}
use Rattle.cells.proofs.SoundCells.{processes-known}
use Rattle.keys.proofs.Split.{and_right}
use Rattle.lookup.specs.Lookup.{found_in}
use Rattle.lookup.specs.Found.{Row}
use Rattle.lookup.proofs.TableLookup.{KeyFirst}
use Rattle.tables.proofs.RowFits.{row-cells-within}
use Rattle.tables.proofs.RowThere.{row-there, row-is-sound}
use Rattle.processes.specs.Ready.{ReplaceReady}
use Rattle.processes.proofs.NumberedRows.{by_key}

pub processes-first : KeyFirst processes_layout process_key
processes-first = record { key-within = omega arith; few-rows = omega arith; key-first = λ cells at. refl }

module _ (cells : List ℤ) (sound : sound_processes cells ≡ true) where
  pub processes-by-key : SoundTable processes_layout process_key sound_process cells
  processes-by-key = by_key processes_layout process_key sound_process cells (processes-known cells sound)

  module _ (row : ℕ) (within : row < length (rows_of processes_layout cells)) where
    pub process-cells-within : start_of processes_layout (suc row) ≤ length cells
    process-cells-within = row-cells-within processes_layout process_key sound_process cells processes-by-key row within

    pub process-row-sound : sound_process (row_at processes_layout cells row) ≡ true
    process-row-sound = row-is-sound processes_layout process_key processes-first cells sound_process processes-by-key row within

    pub process-row-there : found_in processes_layout (process_key (row_at processes_layout cells row)) cells ≡ Row row
    process-row-there = row-there processes_layout process_key processes-first cells row processes-by-key.rows-rise within

-- A sound row has a stage that is one.
pub sound-stage : (p : ProcessRow) → sound_process p ≡ true → valid_stage p.stage ≡ true
unfolding sound_process
sound-stage p h = and_right (valid_id p.process && valid_id p.id && valid_suffix p.suffix && valid_account p.giving && valid_account p.taking && valid_series p.series && valid_approval p.giver && valid_approval p.taker) (valid_stage p.stage) h

-- The row that is replaced is found by the key of the one that takes its place.
pub replaced-there : (cells : List ℤ) (row : ℕ) (p : Process) → ReplaceReady cells row p → Row row ≡ found_in processes_layout (process_key (row_of_process p)) cells
replaced-there cells row p ready =
    sym (process-row-there cells ready.sound row ready.row_within)
    ∙ ap (λ (k : Key). found_in processes_layout k cells) (sym ready.key-is)
