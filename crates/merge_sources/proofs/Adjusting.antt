-- The sources of a merge adjusted in turn: each is still found as it was when its turn comes, since its pair did not stand earlier; afterwards every key has
-- what it had but for the status. By the laws of lookups beside puts. Assumes nothing.
use Prim.Native.Nat.{ℕ, ◌/◌, ◌<◌}
use native.Mathlib.Omega.{arith}
use mathlib.Core.Path.{◌≡◌, refl, sym, ◌∙◌, ap}
use mathlib.Core.Bool.{true, false, not}
use mathlib.Core.List.{List, [], map}
use mathlib.Core.Option.{some}
use borrow.Author.Tests.{not-false}
use lib.IntN.{ℤ}
use lib.ListN.{length, get_or, take, length-map}
use Rattle.integers.specs.Order.{eq_z}
use Rattle.integers.proofs.Parts.{eq_z-true}
use Rattle.rules.specs.Figures.{adjustable}
use Rattle.rules.specs.Keyed.{Key, find, upsert_all}
use Rattle.rules.specs.Rows.{record_key, adjusted_record}
use Rattle.rules.specs.NamedRecord.{no_record, is_not_adjustable}
use Rattle.rules.specs.Refusal.{any_of}
use Rattle.rules.specs.Layout.{rows_of}
use Rattle.rules.specs.Tables.{records_layout}
use Rattle.rules.specs.Merge.{pairs_of, is_among}
use Rattle.rules.specs.declared.Record.{Record}
use Rattle.keys.proofs.KeyOrder.{eq-same}
use Rattle.keys.proofs.Lookup.{find-key}
use Rattle.keys.proofs.Folds.{find-upsert_all-other}
use Rattle.soundness.proofs.NamedRecord.{record_of}
use Rattle.merge_sources.specs.Sources.{all_found, source_records}
use Rattle.merge_sources.specs.Pairs.{pair_at, earlier_pairs, repeats_from}
use Rattle.merge_sources.proofs.Each.{each_at}
use Rattle.merge_sources.proofs.Places.{none-holds}
use Rattle.merge_sources.proofs.SourceList.{map_at, record-count, record-at, record-test, source-found}
use Rattle.merge_sources.proofs.Earlier.{repeat-count, repeat-at, stands-earlier, earlier-among}
use Rattle.merge_sources.proofs.InTurn.{only-first}
use Rattle.merge_sources.proofs.Settled.{settled, Settles, settles-all}

-- A change of status keeps the key.
pub adjusted-key : (r : Record) → record_key (adjusted_record r) ≡ record_key r
unfolding adjusted_record
adjusted-key r = refl

adjusted-twice : (r : Record) → adjusted_record (adjusted_record r) ≡ adjusted_record r
unfolding adjusted_record
adjusted-twice r = refl

module _ (cells pairs : List ℤ) where
  abbrev rows : List Record
  rows = rows_of records_layout cells

  -- The sources in their new status, and the rows with the first so many of them.
  abbrev pub adjusted_sources : List Record
  adjusted_sources = map adjusted_record (source_records cells pairs)

  abbrev pub rows_adjusted : ℕ → List Record
  rows_adjusted i = upsert_all record_key (take i adjusted_sources) rows

  pub adjusted-count : length adjusted_sources ≡ length pairs / 2
  adjusted-count = length-map (source_records cells pairs) adjusted_record ∙ record-count cells pairs

  pub adjusted-at : (i : ℕ) (other : Record) → i < length pairs / 2 → get_or adjusted_sources i other ≡ adjusted_record (record_of rows (pair_at pairs i))
  adjusted-at i other h =
      map_at adjusted_record (source_records cells pairs) i no_record other (omega (arith, record-count cells pairs)) ∙ ap adjusted_record (record-at cells pairs i h no_record)

  -- The source at a place is adjustable.
  pub source-adjustable : (i : ℕ) → i < length pairs / 2 → any_of (map is_not_adjustable (source_records cells pairs)) ≡ false → (record_of rows (pair_at pairs i)).status ≡ adjustable
  unfolding is_not_adjustable
  source-adjustable i h a =
      let r : Record = record_of rows (pair_at pairs i) in
      let e : not (eq_z r.status adjustable) ≡ false =
      sym (record-test cells pairs i h is_not_adjustable)
      ∙ none-holds (map is_not_adjustable (source_records cells pairs)) i (omega (arith, record-count cells pairs, length-map (source_records cells pairs) is_not_adjustable)) a in
      eq_z-true r.status adjustable (not-false (eq_z r.status adjustable) e)

  module _ (all : all_found cells pairs ≡ true) where
    pub source-key : (i : ℕ) → i < length pairs / 2 → record_key (record_of rows (pair_at pairs i)) ≡ pair_at pairs i
    source-key i h = find-key record_key (pair_at pairs i) rows (record_of rows (pair_at pairs i)) (source-found cells pairs i h all)

    key-at : (i : ℕ) → i < length pairs / 2 → record_key (get_or adjusted_sources i no_record) ≡ pair_at pairs i
    key-at i h = ap (λ (r : Record). record_key r) (adjusted-at i no_record h) ∙ adjusted-key (record_of rows (pair_at pairs i)) ∙ source-key i h

    -- ---- while they are adjusted

    pub still-found : (i : ℕ) → i < length pairs / 2 → any_of (repeats_from [] (pairs_of pairs)) ≡ false →
        find record_key (pair_at pairs i) (rows_adjusted i) ≡ some (record_of rows (pair_at pairs i))
    still-found i h differ =
        find-upsert_all-other record_key (λ (k : Key). is_among k (earlier_pairs pairs i)) (pair_at pairs i) (take i adjusted_sources) rows
        (only-first record_key (λ (k : Key). is_among k (earlier_pairs pairs i)) adjusted_sources i no_record (omega (arith, adjusted-count))
        (λ j k. earlier-among pairs i j (record_key (get_or adjusted_sources j no_record)) k (eq-same (record_key (get_or adjusted_sources j no_record)) (pair_at pairs j) (key-at j (omega arith)))))
        (sym (stands-earlier pairs i) ∙ sym (repeat-at pairs i h) ∙ none-holds (repeats_from [] (pairs_of pairs)) i (omega (arith, repeat-count pairs)) differ)
        ∙ source-found cells pairs i h all

    -- ---- afterwards

    settle-at : (i : ℕ) → i < length adjusted_sources → Settles rows (get_or adjusted_sources i no_record)
    settle-at i h =
        let k : i < length pairs / 2 = omega (arith, adjusted-count) in
        let r : Record = record_of rows (pair_at pairs i) in
        ap (λ (x : Key). settled (find record_key x rows)) (key-at i k) ∙ ap settled (source-found cells pairs i k all)
        ∙ ap some (sym (adjusted-twice r)) ∙ ap (λ (a : Record). some (adjusted_record a)) (sym (adjusted-at i no_record k))

    pub alike-adjusted : (k : Key) → settled (find record_key k (upsert_all record_key adjusted_sources rows)) ≡ settled (find record_key k rows)
    alike-adjusted = settles-all adjusted_sources rows (each_at (Settles rows) adjusted_sources no_record settle-at)
