-- The inverses of a merge's sources inserted one after the other in the lent cells: what the cells hold after the first so many, what the next one asks, and the
-- end. By the laws of rows put in turn. Assumes nothing.
use Prim.Native.Nat.{ℕ, ◌+◌, ◌/◌, ◌≤◌, ◌<◌}
use native.Mathlib.Omega.{arith}
use mathlib.Core.Path.{◌≡◌, refl, sym, ◌∙◌, ap}
use mathlib.Core.Bool.{true}
use mathlib.Core.List.{List, [], map}
use mathlib.Core.Option.{Option, some}
use lib.IntN.{ℤ, pos, ◌+ℤ◌}
use lib.ListN.{length, get_or, length-map}
use Rattle.rules.specs.Figures.{merge_kind}
use Rattle.rules.specs.Keyed.{is_some, find, upsert, upsert_all}
use Rattle.rules.specs.Rows.{record_key, inverse_record, sound_record}
use Rattle.rules.specs.NamedRecord.{no_record}
use Rattle.rules.specs.Refusal.{all_of}
use Rattle.rules.specs.Layout.{room_of, rows_of, write}
use Rattle.rules.specs.Tables.{records_layout, sound_record_rows}
use Rattle.rules.specs.Merge.{pairs_of, merge_inverses}
use Rattle.rules.specs.declared.Record.{Record}
use Rattle.cells.proofs.Count.{room-by-length}
use Rattle.cells.proofs.RowCells.{records-lawful}
use Rattle.cells.proofs.SoundCells.{records-known}
use Rattle.cells.proofs.Write.{rows_write}
use Rattle.keys.proofs.Clauses.{is_some-some}
use Rattle.soundness.proofs.NamedRecord.{record_of, next_of}
use Rattle.merge_sources.specs.Sources.{sources_in, all_found, record_named, inverse_named}
use Rattle.merge_sources.specs.Pairs.{pair_at, times_earlier}
use Rattle.merge_sources.proofs.PairList.{pair-count}
use Rattle.merge_sources.proofs.Places.{all_hold}
use Rattle.merge_sources.proofs.SourceList.{map_at, found-record}
use Rattle.merge_sources.proofs.Inverses.{inverse-at}
use Rattle.merge_sources.proofs.InTurn.{cells-at-first, cells-next, cells-at-last}
use Rattle.merge_sources.proofs.Inserting.{rows_inverted, inverses-count, next-by-now, found-by-now, inverted-length}

-- The cells with the inverses of the first so many sources.
pub record InvertedSoFar (today into : ℤ) (cells pairs now : List ℤ) (i : ℕ) : Type 0 where
  pub within : i ≤ length pairs / 2
  pub same_size : length now ≡ length cells
  pub put : now ≡ write records_layout cells (rows_inverted today into cells pairs i)
  pub sound : sound_record_rows now ≡ true

module _ (today into : ℤ) (cells pairs : List ℤ) (all : all_found cells pairs ≡ true) where
  abbrev inverses : List Record
  inverses = merge_inverses today into [] (sources_in cells pairs)

  pub inverted-start : sound_record_rows cells ≡ true → InvertedSoFar today into cells pairs cells 0
  inverted-start sound = record {
    within = omega arith;
    same_size = refl;
    put = cells-at-first record_key records_layout records-lawful cells inverses (records-known cells sound).count-sound;
    sound = sound;
  }

  pub inverted-end : (now : List ℤ) (i : ℕ) → length pairs / 2 ≤ i → InvertedSoFar today into cells pairs now i →
      (now ≡ write records_layout cells (upsert_all record_key (merge_inverses today into [] (sources_in cells pairs)) (rows_of records_layout cells))) × (sound_record_rows now ≡ true)
  inverted-end now i h a =
      (cells-at-last record_key records_layout records-lawful cells inverses i now (omega (arith, inverses-count today into cells pairs all)) a.put, a.sound)

  -- ---- the next source

  module _ (right : all_of (map sound_record (merge_inverses today into [] (sources_in cells pairs))) ≡ true)
      (room : length (rows_of records_layout cells) + length (pairs_of pairs) ≤ room_of records_layout cells)
      (now : List ℤ) (i : ℕ) (a : InvertedSoFar today into cells pairs now i) (h : i < length pairs / 2) where
    headed : records_layout.header ≤ length cells
    headed = omega (arith, (records-known now a.sound).header-within, a.same_size)

    rows-now : rows_of records_layout now ≡ rows_inverted today into cells pairs i
    rows-now = ap (λ (xs : List ℤ). rows_of records_layout xs) a.put ∙ rows_write records_layout records-lawful cells (rows_inverted today into cells pairs i) headed

    found-now : find record_key (pair_at pairs i) (rows_of records_layout now) ≡ some (record_of (rows_of records_layout cells) (pair_at pairs i))
    found-now = ap (λ (t : List Record). find record_key (pair_at pairs i) t) rows-now ∙ found-by-now today into cells pairs all i h

    same-inverse : inverse_named today now (pair_at pairs i) into ≡ get_or inverses i no_record
    same-inverse =
        let id : ℤ = (pair_at pairs i).major in
        ap (λ (z : ℤ). inverse_record today (record_named now (pair_at pairs i)) z merge_kind (pos 0) (pos 0) into)
        (ap (λ (t : List Record). next_of t id) rows-now ∙ next-by-now today into cells pairs all i h)
        ∙ ap (λ (r : Record). inverse_record today r (next_of (rows_of records_layout cells) id +ℤ times_earlier pairs i) merge_kind (pos 0) (pos 0) into)
        (found-record (find record_key (pair_at pairs i) (rows_of records_layout now)) (record_of (rows_of records_layout cells) (pair_at pairs i)) found-now)
        ∙ sym (inverse-at today into cells pairs i no_record h)

    pub insert-found : is_some (find record_key (pair_at pairs i) (rows_of records_layout now)) ≡ true
    insert-found = ap (λ (o : Option Record). is_some o) found-now ∙ is_some-some (record_of (rows_of records_layout cells) (pair_at pairs i))

    pub insert-sound : sound_record (inverse_named today now (pair_at pairs i) into) ≡ true
    insert-sound =
        ap sound_record same-inverse
        ∙ sym (map_at sound_record inverses i no_record true (omega (arith, inverses-count today into cells pairs all)))
        ∙ all_hold (map sound_record inverses) i (omega (arith, inverses-count today into cells pairs all, length-map inverses sound_record)) right

    pub insert-room : length (rows_of records_layout now) < room_of records_layout now
    insert-room =
        let e : room_of records_layout now ≡ room_of records_layout cells = room-by-length records_layout now cells a.same_size in
        omega (arith, ap (λ (t : List Record). length t) rows-now, inverted-length today into cells pairs all i a.within, pair-count pairs)

    pub insert-next : (next : List ℤ) → next ≡ write records_layout now (upsert record_key (inverse_named today now (pair_at pairs i) into) (rows_of records_layout now)) →
        sound_record_rows next ≡ true → length next ≡ length now → InvertedSoFar today into cells pairs next (i + 1)
    insert-next next e sound size = record {
      within = omega arith;
      same_size = size ∙ a.same_size;
      put =
          e ∙ ap (λ (r : Record). write records_layout now (upsert record_key r (rows_of records_layout now))) same-inverse
          ∙ cells-next record_key records_layout records-lawful cells headed inverses i no_record now (omega (arith, inverses-count today into cells pairs all)) a.put;
      sound = sound;
    }
