use Rattle.std.proofs.Common.{rules, arith, ◌≡◌, true, sym, ◌∙◌, ap, ap₂, [], List, ℕ, ℤ, pos, map, length, get_or, ◌<◌, ◌≤◌, ◌/◌, ◌≤ℤ◌, Fits, FitsSigned, w16, w64, to_z, of_z}
use Rattle.std.proofs.Math.Option.{some}
use Rattle.std.proofs.lemmas.List.{length-map}
use lib.Dec.{T}
use lib.IntN.{nat_abs}
use lib.Signed.{non_neg, pos-nat_abs}
use mir.Facts.{to_z-of_z}
use Rattle.integers.proofs.Linear.{zarith, abs-lin}
use Rattle.rules.specs.Keyed.{Key}
use Rattle.rules.specs.Rows.{record_key}
use Rattle.rules.specs.Tables.{records_layout, sound_record_rows}
use Rattle.rules.specs.Merge.{pairs_of, is_missing}
use Rattle.lookup.specs.Lookup.{record_sought, sought_in}
use Rattle.lookup.specs.Sought.{Sought, Present}
use Rattle.lookup.specs.SoughtRows.{PresentAt}
use Rattle.lookup.proofs.TableLookup.{records-first}
use Rattle.lookup.proofs.TableSought.{table-present, table-lacks}
use Rattle.verdict.proofs.SoundReads.{greatest-range}
use Rattle.merge_sources.specs.Sources.{sources_in}
use Rattle.merge_sources.specs.Pairs.{pair_of, pair_at}
use Rattle.merge_sources.proofs.Places.{none-at-first, none-next, place_here, place-at-last}
use Rattle.merge_sources.proofs.PairList.{pair-count}
use Rattle.merge_sources.proofs.Earlier.{listed-at}
use Rattle.merge_sources.proofs.SourceList.{source-count, is-missing, isn't-missing}
use Rattle.merge_sources.proofs.SourceRows.{OfPair, SuffixOfPair, known-none, known_next, sources-known, row_small}
use Rattle.merge.proofs.sources.locate.Goals as goal

-- The pair as the code reads it is the one at the place.
sought_at : (cells pairs : List ℤ) (list : List (List ℤ)) (i : ℕ) (s : Sought) → map pair_of list ≡ pairs_of pairs → i < length list →
    FitsSigned w64 (get_or (get_or list i []) 0 (pos 0)) → FitsSigned w64 (get_or (get_or list i []) 1 (pos 0)) →
    s ≡ record_sought cells (to_z w64 (of_z w64 (get_or (get_or list i []) 0 (pos 0)))) (to_z w64 (of_z w64 (get_or (get_or list i []) 1 (pos 0)))) →
    s ≡ sought_in records_layout (pair_at pairs i) cells
sought_at cells pairs list i s are h f g e =
    e ∙ ap₂ (λ (x y : ℤ). record_sought cells x y) (to_z-of_z f) (to_z-of_z g) ∙ ap (λ (k : Key). sought_in records_layout k cells) (listed-at pairs list are i h)

-- What the lookup of a source that is there tells.
module _ (cells pairs : List ℤ) (sound : sound_record_rows cells ≡ true) (i row next : ℕ) (suffix : ℤ) (e : Present row suffix next ≡ sought_in records_layout (pair_at pairs i) cells) where
  there : PresentAt records_layout record_key cells (pair_at pairs i) row suffix next
  there = table-present records_layout record_key records-first cells (pair_at pairs i) row suffix next (sym e)

  range : (pos 0 ≤ℤ suffix) × (suffix ≤ℤ pos 65535)
  range = greatest-range cells sound (pair_at pairs i).major suffix there.greatest-is

  small : row < 65536
  small = row_small cells pairs i row there.found-is sound

  kept-is : to_z w64 (of_z w64 suffix) ≡ suffix
  kept-is = let f : FitsSigned w64 suffix = omega (zarith, range.0, range.1) in to_z-of_z f

  suffix-casts : T (non_neg (to_z w64 (of_z w64 suffix))) × Fits w16 (nat_abs (to_z w64 (of_z w64 suffix)))
  suffix-casts = rw kept-is (omega (zarith, range.0), record { fits = omega (zarith, range.0, range.1, abs-lin suffix) })

  suffix-is : SuffixOfPair cells pairs i (nat_abs (to_z w64 (of_z w64 suffix)))
  suffix-is = there.greatest-is ∙ ap some (sym (pos-nat_abs (to_z w64 (of_z w64 suffix)) suffix-casts.0 ∙ kept-is))

pub loop-i-init : goal.loop-i-init
loop-i-init c = record { none = none-at-first (map is_missing (sources_in c.args.records.now c.args.pairs.now)); known = known-none (OfPair c.args.records.now c.args.pairs.now) c.args.sources.now }

pub returns-in_default : goal.returns-in_default
returns-in_default c =
    let cells : List ℤ = c.args.records.now in
    let pairs : List ℤ = c.args.pairs.now in
    let i : ℕ = c.loop-i.i in
    let list : List (List ℤ) = c.in_pairs-id-items.result.now in
    let e = sought_at cells pairs list i _ c.in_pairs-id-items.ensures.are_pairs c.loop-i-test.true (search rules) (search rules) c.in_default.ensures in
    let h : i < length pairs / 2 = omega (arith, c.loop-i-test.true, c.in_pairs-id-items.ensures.as_many, pair-count pairs) in
    let missing = map is_missing (sources_in cells pairs) in (
      sym (place_here missing i (omega (arith, length-map (sources_in cells pairs) is_missing, source-count cells pairs, h)) c.loop-i.invariant.none
          (is-missing cells pairs i h (table-lacks records_layout record_key records-first cells (pair_at pairs i) _ _ (sym e)).absent)),
      λ z. let n : ◌≡◌ {A = ℕ} 0 1 = cc in absurd (omega arith),
    )

pub bounds-sources-i : goal.bounds-sources-i
bounds-sources-i c = omega (arith, c.loop-i-test.true, c.loop-i.auto.sources, c.in_pairs-id-items.ensures.as_many, pair-count c.args.pairs.now, c.requires.1)

pub overflow_cast-sources : goal.overflow_cast-sources
overflow_cast-sources c =
    let e = sought_at c.args.records.now c.args.pairs.now c.in_pairs-id-items.result.now c.loop-i.i _ c.in_pairs-id-items.ensures.are_pairs c.loop-i-test.true (search rules) (search rules) c.in-Ok.ensures in
    record { fits = small c.args.records.now c.args.pairs.now c.requires.0 c.loop-i.i c.in-Ok.there.row c.in-Ok.there.next c.in-Ok.there.greatest e }

pub overflow_cast-sources-in-loop-i : goal.overflow_cast-sources-in-loop-i
overflow_cast-sources-in-loop-i c =
    let e = sought_at c.args.records.now c.args.pairs.now c.in_pairs-id-items.result.now c.loop-i.i _ c.in_pairs-id-items.ensures.are_pairs c.loop-i-test.true (search rules) (search rules) c.in-Ok.ensures in
    suffix-casts c.args.records.now c.args.pairs.now c.requires.0 c.loop-i.i c.in-Ok.there.row c.in-Ok.there.next c.in-Ok.there.greatest e

pub loop-i-preserved : goal.loop-i-preserved
loop-i-preserved c =
    let cells : List ℤ = c.args.records.now in
    let pairs : List ℤ = c.args.pairs.now in
    let i : ℕ = c.loop-i.i in
    let h : i < length pairs / 2 = omega (arith, c.loop-i-test.true, c.in_pairs-id-items.ensures.as_many, pair-count pairs) in
    let room : i < length c.loop-i.sources = omega (arith, c.loop-i-test.true, c.loop-i.auto.sources, c.in_pairs-id-items.ensures.as_many, pair-count pairs, c.requires.1) in
    let e = sought_at c.args.records.now c.args.pairs.now c.in_pairs-id-items.result.now c.loop-i.i _ c.in_pairs-id-items.ensures.are_pairs c.loop-i-test.true (search rules) (search rules) c.in-Ok.ensures in
    let is = there cells pairs c.requires.0 i c.in-Ok.there.row c.in-Ok.there.next c.in-Ok.there.greatest e in
    record {
      none = none-next (map is_missing (sources_in cells pairs)) i (omega (arith, length-map (sources_in cells pairs) is_missing, source-count cells pairs, h)) c.loop-i.invariant.none
          (isn't-missing cells pairs i h _ is.found);
      known = known_next (OfPair cells pairs) c.loop-i.sources i _ room c.loop-i.invariant.known
          (is.found-is, suffix-is cells pairs c.requires.0 i c.in-Ok.there.row c.in-Ok.there.next c.in-Ok.there.greatest e);
    }

pub returns : goal.returns
returns c =
    let cells : List ℤ = c.args.records.now in
    let pairs : List ℤ = c.args.pairs.now in
    let i : ℕ = c.loop-i.i in
    let all : length pairs / 2 ≤ i = omega (arith, c.loop-i-test.false, c.in_pairs-id-items.ensures.as_many, pair-count pairs) in (
      sym (place-at-last (map is_missing (sources_in cells pairs)) i (omega (arith, length-map (sources_in cells pairs) is_missing, source-count cells pairs, all)) c.loop-i.invariant.none),
      λ e. sources-known cells pairs c.loop-i.sources i (omega (arith, c.requires.1, c.loop-i.auto.sources)) all c.loop-i.invariant.known,
    )
