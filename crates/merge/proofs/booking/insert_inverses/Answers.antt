use Rattle.std.proofs.Common.{rules, arith, ◌≡◌, true, sym, subst, ◌<◌, ◌/◌, length, List, ℕ, ℤ}
use mir.Facts.{to_z-of_z}
use Rattle.rules.specs.Keyed.{Key, is_some, find, upsert}
use Rattle.rules.specs.Rows.{record_key, sound_record}
use Rattle.rules.specs.Layout.{room_of, rows_of, write}
use Rattle.rules.specs.Tables.{records_layout, sound_record_rows}
use Rattle.merge_sources.specs.Sources.{inverse_named}
use Rattle.merge_sources.proofs.PairList.{pair-count}
use Rattle.merge_sources.proofs.InsertingCells.{InvertedSoFar, inverted-start, inverted-end, insert-found, insert-sound, insert-room, insert-next}
use Rattle.merge.proofs.Asked.{pair-read}
use Rattle.merge.proofs.booking.insert_inverses.Goals as goal

-- What `insert_inverse` asks of a key.
abbrev Ready : (today into : ℤ) → List ℤ → Key → Type 0
Ready today into cells k =
    (sound_record_rows cells ≡ true) × (is_some (find record_key k (rows_of records_layout cells)) ≡ true) × (sound_record (inverse_named today cells k into) ≡ true)
    × (length (rows_of records_layout cells) < room_of records_layout cells)

abbrev Put : (today into : ℤ) → (cells new : List ℤ) → Key → Type 0
Put today into cells new k = new ≡ write records_layout cells (upsert record_key (inverse_named today cells k into) (rows_of records_layout cells))

pub loop-id-init : goal.loop-id-init
loop-id-init c = simp (to_z-of_z c.ranges.today, to_z-of_z c.ranges.into) (inverted-start c.args.today c.args.into c.args.records.now c.args.pairs.now c.requires.1 c.requires.0)

pub insert_inverse-requires : goal.insert_inverse-requires
insert_inverse-requires c =
    let cells : List ℤ = c.args.records.now in
    let pairs : List ℤ = c.args.pairs.now in
    let today : ℤ = c.args.today in
    let into : ℤ = c.args.into in
    let i : ℕ = c.loop-id.id-index in
    let now : List ℤ = c.loop-id.records in
    let h : i < length pairs / 2 = omega (arith, c.loop-id-test.true, c.in_pairs-id-items.ensures.as_many, pair-count pairs) in
    let far : InvertedSoFar today into cells pairs now i = simp (to_z-of_z c.ranges.today, to_z-of_z c.ranges.into) at c.loop-id.invariant in
    let key = pair-read pairs c.in_pairs-id-items.result.now i c.in_pairs-id-items.ensures.are_pairs c.loop-id-test.true (search rules) (search rules) in
    simp (to_z-of_z c.ranges.today, to_z-of_z c.ranges.into)
    (subst (λ (k : Key). Ready today into now k) (sym key) (
      far.sound,
      insert-found today into cells pairs c.requires.1 c.requires.2 c.requires.3 now i far h,
      insert-sound today into cells pairs c.requires.1 c.requires.2 c.requires.3 now i far h,
      insert-room today into cells pairs c.requires.1 c.requires.2 c.requires.3 now i far h,
    ))

pub loop-id-preserved : goal.loop-id-preserved
loop-id-preserved c =
    let cells : List ℤ = c.args.records.now in
    let pairs : List ℤ = c.args.pairs.now in
    let today : ℤ = c.args.today in
    let into : ℤ = c.args.into in
    let i : ℕ = c.loop-id.id-index in
    let now : List ℤ = c.loop-id.records in
    let h : i < length pairs / 2 = omega (arith, c.loop-id-test.true, c.in_pairs-id-items.ensures.as_many, pair-count pairs) in
    let far : InvertedSoFar today into cells pairs now i = simp (to_z-of_z c.ranges.today, to_z-of_z c.ranges.into) at c.loop-id.invariant in
    let key = pair-read pairs c.in_pairs-id-items.result.now i c.in_pairs-id-items.ensures.are_pairs c.loop-id-test.true (search rules) (search rules) in
    let put = subst (λ (k : Key). Put today into now c.insert_inverse.new.records k) key (simp (to_z-of_z c.ranges.today, to_z-of_z c.ranges.into) at c.insert_inverse.ensures.0) in
    simp (to_z-of_z c.ranges.today, to_z-of_z c.ranges.into)
    (insert-next today into cells pairs c.requires.1 c.requires.2 c.requires.3 now i far h c.insert_inverse.new.records put c.insert_inverse.ensures.1 c.insert_inverse.auto.records)

pub returns : goal.returns
returns c =
    let pairs : List ℤ = c.args.pairs.now in
    let far : InvertedSoFar c.args.today c.args.into c.args.records.now pairs c.loop-id.records c.loop-id.id-index = simp (to_z-of_z c.ranges.today, to_z-of_z c.ranges.into) at c.loop-id.invariant in
    inverted-end c.args.today c.args.into c.args.records.now pairs c.requires.1 c.loop-id.records c.loop-id.id-index
    (omega (arith, c.loop-id-test.false, c.in_pairs-id-items.ensures.as_many, pair-count pairs)) far
