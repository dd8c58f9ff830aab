-- The sources of a merge adjusted one after the other in the lent cells: what the cells hold after the first so many, what the next one asks, and the end.
-- By the laws of rows put in turn, and of a row written over the one with its key. Assumes nothing.
use Prim.Native.Nat.{ℕ, ◌+◌, ◌/◌, ◌≤◌, ◌<◌}
use native.Mathlib.Omega.{arith}
use mathlib.Core.Path.{◌≡◌, refl, sym, ◌∙◌, ap}
use mathlib.Core.Bool.{true, false}
use mathlib.Core.List.{List, [], map}
use mathlib.Core.Option.{some}
use lib.IntN.{ℤ}
use lib.ListN.{length}
use Rattle.rules.specs.Keyed.{Key, find, upsert, upsert_all}
use Rattle.rules.specs.Rows.{record_key, sound_record, adjusted_record}
use Rattle.rules.specs.NamedRecord.{no_record, is_not_adjustable}
use Rattle.rules.specs.Refusal.{any_of}
use Rattle.rules.specs.Layout.{row_at, rows_of, write}
use Rattle.rules.specs.Tables.{records_layout, sound_record_rows}
use Rattle.rules.specs.Merge.{pairs_of}
use Rattle.rules.specs.declared.Record.{Record}
use Rattle.cells.proofs.RowCells.{records-lawful}
use Rattle.cells.proofs.SoundCells.{records-known}
use Rattle.cells.proofs.Write.{rows_write}
use Rattle.keys.proofs.Split.{some_inj}
use Rattle.keys.proofs.Lookup.{find-all}
use Rattle.lookup.specs.Lookup.{found_in}
use Rattle.lookup.proofs.KeysKept.{found-kept}
use Rattle.lookup.proofs.TableLookup.{records-first}
use Rattle.soundness.proofs.NamedRecord.{record_of}
use Rattle.soundness.proofs.SoundRecord.{record-sound}
use Rattle.soundness.proofs.SoundRows.{adjustable-open, adjusted-sound}
use Rattle.merge_sources.specs.Sources.{all_found, source_records}
use Rattle.merge_sources.specs.Pairs.{pair_at, repeats_from}
use Rattle.merge_sources.proofs.SourceRows.{RowOfPair, row_within, row-record}
use Rattle.merge_sources.proofs.InTurn.{cells-at-first, cells-next, cells-at-last}
use Rattle.merge_sources.proofs.Adjusting.{adjusted-key, adjusted_sources, rows_adjusted, adjusted-count, adjusted-at, source-adjustable, source-key, still-found}

-- The cells with the first so many sources adjusted: every row still stands where it stood.
pub record AdjustedSoFar (cells pairs now : List ℤ) (i : ℕ) : Type 0 where
  pub within : i ≤ length pairs / 2
  pub same_size : length now ≡ length cells
  pub put : now ≡ write records_layout cells (rows_adjusted cells pairs i)
  pub rows-stand : (k : Key) → found_in records_layout k now ≡ found_in records_layout k cells
  pub sound : sound_record_rows now ≡ true

module _ (cells pairs : List ℤ) where
  pub adjusted-start : sound_record_rows cells ≡ true → AdjustedSoFar cells pairs cells 0
  adjusted-start sound = record {
    within = omega arith;
    same_size = refl;
    put = cells-at-first record_key records_layout records-lawful cells (adjusted_sources cells pairs) (records-known cells sound).count-sound;
    rows-stand = λ k. refl;
    sound = sound;
  }

  pub adjusted-end : (now : List ℤ) (i : ℕ) → length pairs / 2 ≤ i → AdjustedSoFar cells pairs now i →
      (now ≡ write records_layout cells (upsert_all record_key (map adjusted_record (source_records cells pairs)) (rows_of records_layout cells))) × (sound_record_rows now ≡ true)
  adjusted-end now i h a =
      (cells-at-last record_key records_layout records-lawful cells (adjusted_sources cells pairs) i now (omega (arith, adjusted-count cells pairs)) a.put, a.sound)

  -- ---- the next source, in the row that was kept

  module _ (all : all_found cells pairs ≡ true) (free : any_of (map is_not_adjustable (source_records cells pairs)) ≡ false) (differ : any_of (repeats_from [] (pairs_of pairs)) ≡ false)
      (now : List ℤ) (i : ℕ) (a : AdjustedSoFar cells pairs now i) (h : i < length pairs / 2) (row : ℕ) (kept : RowOfPair cells pairs i row) where
    abbrev source : Record
    source = record_of (rows_of records_layout cells) (pair_at pairs i)

    headed : records_layout.header ≤ length cells
    headed = omega (arith, (records-known now a.sound).header-within, a.same_size)

    found-now : find record_key (pair_at pairs i) (rows_of records_layout now) ≡ some source
    found-now =
        ap (λ (xs : List ℤ). find record_key (pair_at pairs i) (rows_of records_layout xs)) a.put
        ∙ ap (λ (t : List Record). find record_key (pair_at pairs i) t) (rows_write records_layout records-lawful cells (rows_adjusted cells pairs i) headed)
        ∙ still-found cells pairs all i h differ

    row_now : RowOfPair now pairs i row
    row_now = a.rows-stand (pair_at pairs i) ∙ kept

    same-record : row_at records_layout now row ≡ source
    same-record = some_inj (row-record now pairs i row row_now) found-now

    -- It stays sound in its new status, since it is no inverse.
    adjusted-stays : sound_record (adjusted_record source) ≡ true
    adjusted-stays =
        adjusted-sound source (record-sound source (find-all record_key sound_record (pair_at pairs i) (rows_of records_layout now) source (records-known now a.sound).rows-sound found-now))
        (adjustable-open source.status (source-adjustable cells pairs i h free))

    pub adjust-ready : (sound_record_rows now ≡ true) × (row < length (rows_of records_layout now)) × (sound_record (adjusted_record (row_at records_layout now row)) ≡ true)
    adjust-ready = (a.sound, row_within now pairs i row row_now, ap (λ (r : Record). sound_record (adjusted_record r)) same-record ∙ adjusted-stays)

    -- The record stands under its own key.
    own_key : find record_key (record_key (adjusted_record (row_at records_layout now row))) (rows_of records_layout now) ≡ some source
    own_key =
        ap (λ (k : Key). find record_key k (rows_of records_layout now))
        (adjusted-key (row_at records_layout now row) ∙ ap (λ (r : Record). record_key r) same-record ∙ source-key cells pairs all i h)
        ∙ found-now

    pub adjust-next : (next : List ℤ) → next ≡ write records_layout now (upsert record_key (adjusted_record (row_at records_layout now row)) (rows_of records_layout now)) →
        sound_record_rows next ≡ true → length next ≡ length now → AdjustedSoFar cells pairs next (i + 1)
    adjust-next next e sound size = record {
      within = omega arith;
      same_size = size ∙ a.same_size;
      put =
          e ∙ ap (λ (r : Record). write records_layout now (upsert record_key r (rows_of records_layout now)))
          (ap adjusted_record same-record ∙ sym (adjusted-at cells pairs i no_record h))
          ∙ cells-next record_key records_layout records-lawful cells headed (adjusted_sources cells pairs) i no_record now (omega (arith, adjusted-count cells pairs)) a.put;
      rows-stand = λ k.
          found-kept records_layout records-lawful record_key records-first sound_record now (records-known now a.sound) (adjusted_record (row_at records_layout now row)) source own_key next e k
          ∙ a.rows-stand k;
      sound = sound;
    }
