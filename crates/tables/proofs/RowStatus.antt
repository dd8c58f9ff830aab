-- A row of a sound records table with another status set in its cell: the table with the record in that status put among its rows, and sound where that record is.
-- An adjustable record is sound when adjusted. Assumes nothing.
use Prim.Native.Nat.{ℕ, suc, ◌+◌, ◌≤◌, ◌<◌}
use mathlib.Core.Path.{◌≡◌, refl, sym, ap, ◌∙◌}
use mathlib.Core.Bool.{true}
use mathlib.Core.List.{List}
use lib.IntN.{ℤ, nat_abs}
use lib.ListN.{length, set}
use Rattle.integers.specs.Order.{eq_z, in_range}
use Rattle.rules.specs.Keyed.{upsert}
use Rattle.rules.specs.Figures.{adjustable, adjusted}
use Rattle.rules.specs.Rows.{record_key, valid_status, valid_signed_quantity, sound_record, with_status, adjusted_record}
use Rattle.rules.specs.Layout.{count_of, start_of, row_at, rows_of, write}
use Rattle.rules.specs.Tables.{record_cells, status_cell, records_layout, sound_record_rows}
use Rattle.rules.specs.declared.Record.{Record}
use Rattle.cells.specs.SoundTable.{SoundRecords}
use Rattle.cells.proofs.Count.{length-rows_of}
use Rattle.cells.proofs.RowCells.{records-lawful}
use Rattle.lookup.specs.Lookup.{found_in}
use Rattle.lookup.specs.Found.{Row}
use Rattle.lookup.proofs.TableLookup.{records-first}
use Rattle.tables.proofs.RowFits.{row-cells-within}
use Rattle.tables.proofs.RowPut.{put-replaced}
use Rattle.tables.proofs.RowThere.{row-there, row-is-sound}
use Rattle.tables.proofs.StatusSet.{status-set}

-- The tests of a row don't tell adjustable from adjusted.
adjusted-like : (r : Record) → sound_record (with_status adjusted r) ≡ sound_record (with_status adjustable r)
unfolding sound_record valid_status valid_signed_quantity in_range eq_z
adjusted-like r = refl

module _ (cells : List ℤ) (table : SoundRecords cells) (row : ℕ) (within : row < length (rows_of records_layout cells)) where
  there : found_in records_layout (record_key (row_at records_layout cells row)) cells ≡ Row row
  there = row-there records_layout record_key records-first cells row table.rows-rise within

  pub row-sound : sound_record (row_at records_layout cells row) ≡ true
  row-sound = row-is-sound records_layout record_key records-first cells sound_record table row within

  pub row-cells : start_of records_layout (suc row) ≤ length cells
  row-cells = row-cells-within records_layout record_key sound_record cells table row within

  -- In any status in which it is sound.
  pub row-in-status : (s : ℤ) → sound_record (with_status s (row_at records_layout cells row)) ≡ true
      → (set cells (start_of records_layout row + status_cell) s ≡ write records_layout cells (upsert record_key (with_status s (row_at records_layout cells row)) (rows_of records_layout cells)))
      × (sound_record_rows (set cells (start_of records_layout row + status_cell) s) ≡ true)
  unfolding sound_record_rows
  row-in-status s sound =
      let r : Record = with_status s (row_at records_layout cells row) in
      put-replaced records_layout records-lawful record_key records-first sound_record cells table
      r sound
      (nat_abs (count_of cells)) (sym (length-rows_of records_layout cells))
      (record_cells r) refl
      (set cells (start_of records_layout row + status_cell) s) row
      (sym there)
      (status-set s cells row row-cells)

  pub adjusted-row-sound : (row_at records_layout cells row).status ≡ adjustable → sound_record (adjusted_record (row_at records_layout cells row)) ≡ true
  unfolding adjusted_record
  adjusted-row-sound open-status =
      let r : Record = row_at records_layout cells row in
      adjusted-like r ∙ ap (λ (s : ℤ). sound_record (with_status s r)) (sym open-status) ∙ row-sound
