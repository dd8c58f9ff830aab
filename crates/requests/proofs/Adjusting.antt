-- A named record adjusted, and the rows that come out of it inserted at the place that the lookup said: its status leaves every key where it stood, so the place is still
-- the next suffix's. Assumes nothing.
use native.Mathlib.Omega.{arith}
use mathlib.Core.Path.{◌≡◌, sym, ap, subst, ◌∙◌}
use mathlib.Core.Bool.{true}
use mathlib.Core.List.{List, [], ◌∷◌}
use mathlib.Core.Option.{some}
use lib.IntN.{ℤ, pos, ◌+ℤ◌}
use lib.ListN.{length}
use lib.Signed.{◌≤ℤ◌}
use Rattle.rules.specs.Keyed.{Key, find, greatest}
use Rattle.rules.specs.NamedRecord.{next_suffix}
use Rattle.rules.specs.Rows.{key_of, record_key, sound_record, adjusted_record}
use Rattle.rules.specs.Layout.{row_at, room_of, rows_of}
use Rattle.rules.specs.Tables.{records_layout, sound_record_rows}
use Rattle.rules.specs.declared.Record.{Record}
use Rattle.keys.proofs.Lookup.{find-key}
use Rattle.cells.specs.SoundTable.{SoundRecords}
use Rattle.cells.proofs.RowCells.{records-lawful}
use Rattle.cells.proofs.SoundCells.{records-known}
use Rattle.lookup.specs.Lookup.{place_in}
use Rattle.lookup.proofs.KeysKept.{place_kept, greatest-kept, length-kept, room-kept}
use Rattle.lookup.proofs.TableLookup.{records-first}
use Rattle.tables.specs.NewRows.{new_rows, NewRowsReady}
use Rattle.verdict.proofs.Puts.{put_one, put_all, put-one, put-more}
use Rattle.verdict.proofs.SoundReads.{next-range}
use Rattle.requests.specs.AdjustReady.{AdjustReady}
use Rattle.requests.specs.declared.Named.{Named}

module _ (cells : List ℤ) (id suffix : ℤ) (named : Named) (inverse first : Record) (quantities : List ℤ) (ready : AdjustReady cells id suffix named inverse first quantities)
    (out : List ℤ) (put : out ≡ put_one records_layout record_key cells (adjusted_record (row_at records_layout cells named.row))) where
  abbrev adjusted : Record
  adjusted = adjusted_record (row_at records_layout cells named.row)

  abbrev rows : List Record
  rows = rows_of records_layout cells

  table : SoundRecords cells
  table = records-known cells ready.sound

  adjusted-is : adjusted ≡ adjusted_record named.record
  adjusted-is = ap adjusted_record (sym ready.known.row_is)

  -- The record that is adjusted is the one with its key.
  there : find record_key (record_key adjusted) rows ≡ some named.record
  unfolding adjusted_record
  there =
      let own : record_key named.record ≡ key_of id suffix = find-key record_key (key_of id suffix) rows named.record ready.known.found in
      let k : record_key adjusted ≡ key_of id suffix = ap (λ (r : Record). record_key r) (sym ready.known.row_is) ∙ own in
      ap (λ (x : Key). find record_key x rows) k ∙ ready.known.found

  place_is : named.place ≡ place_in records_layout (record_key inverse) out
  place_is =
      ready.known.place_is
      ∙ ap (λ (k : Key). place_in records_layout k cells) (sym ready.inverse-key)
      ∙ sym (place_kept records_layout records-lawful record_key records-first sound_record cells table adjusted named.record there out put (record_key inverse))

  inverse-id : inverse.id ≡ id
  inverse-id = ap (λ (k : Key). k.major) ready.inverse-key

  inverse-suffix : inverse.suffix ≡ named.next
  inverse-suffix = ap (λ (k : Key). k.minor) ready.inverse-key

  next-is : inverse.suffix ≡ next_suffix (greatest record_key inverse.id (rows_of records_layout out))
  next-is =
      inverse-suffix
      ∙ ready.known.next-is
      ∙ ap (λ (z : ℤ). next_suffix (greatest record_key z rows)) (sym inverse-id)
      ∙ ap next_suffix (sym (greatest-kept records_layout records-lawful record_key records-first sound_record cells table adjusted named.record there out put inverse.id))

  pub rows-ready : sound_record_rows out ≡ true → NewRowsReady out named.place inverse first quantities
  rows-ready sound =
      let same_length : length (rows_of records_layout out) ≡ length rows = length-kept records_layout records-lawful record_key records-first sound_record cells table adjusted named.record there out put in
      let same-room : room_of records_layout out ≡ room_of records_layout cells = room-kept records_layout records-lawful record_key records-first sound_record cells table adjusted named.record there out put in
      record {
        sound = sound;
        next-suffix = next-is;
        place_is = place_is;
        follows = ready.first_key ∙ (λ i. key_of (sym inverse-id i) (sym inverse-suffix i +ℤ pos 1));
        room = omega (arith, ready.room);
        low = subst (λ (z : ℤ). pos 0 ≤ℤ z) (sym (inverse-suffix ∙ ready.known.next-is)) (next-range cells ready.sound id).0;
        high = subst (λ (z : ℤ). (z +ℤ pos (length quantities)) ≤ℤ pos 65535) (sym inverse-suffix) ready.last-suffix;
      }

  pub adjusted-with-rows : (after : List ℤ) → after ≡ put_all records_layout record_key out (new_rows inverse first quantities)
      → after ≡ put_all records_layout record_key cells (adjusted_record named.record ∷ new_rows inverse first quantities)
  adjusted-with-rows after e =
      put-more records_layout record_key records-lawful cells out table.header-within (adjusted ∷ []) (put ∙ put-one records_layout record_key cells adjusted) after (new_rows inverse first quantities) e
      ∙ ap (λ (r : Record). put_all records_layout record_key cells (r ∷ new_rows inverse first quantities)) adjusted-is
