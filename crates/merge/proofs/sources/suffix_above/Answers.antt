use Rattle.std.proofs.Common.{arith, ◌≡◌, true, false, sym, ◌∙◌, ap, [], List, ℕ, ℤ, pos, length, get_or, ◌<◌, ◌≤◌, ◌/◌, ◌+ℤ◌, ◌≤ℤ◌, FitsSigned, w64, to_z, of_z}
use mir.Facts.{to_z-of_z, to_z_pos}
use Rattle.std.specs.Int.Signed.{lt_z}
use Rattle.integers.proofs.Linear.{zarith, +-lin}
use Rattle.rules.specs.NamedRecord.{next_suffix}
use Rattle.rules.specs.Layout.{rows_of}
use Rattle.rules.specs.Tables.{records_layout, sound_record_rows}
use Rattle.soundness.proofs.NamedRecord.{next_of}
use Rattle.verdict.proofs.SoundReads.{greatest-range}
use Rattle.merge_sources.specs.Pairs.{pair_at, times_earlier}
use Rattle.merge_sources.proofs.Places.{none-at-first, none-next, none-at-last, one_holds}
use Rattle.merge_sources.proofs.Earlier.{times-earlier, times-range}
use Rattle.merge_sources.proofs.Inverses.{above, suffix-count, suffix-at}
use Rattle.merge_sources.proofs.SourceRows.{SuffixOfPair, suffix-kept}
use Rattle.merge.proofs.sources.suffix_above.Goals as goal

-- The suffix that the inverse of the source at a place needs, as the code takes it.
module _ (cells pairs : List ℤ) (sound : sound_record_rows cells ≡ true) (few : length pairs ≤ 2000) (i suffix : ℕ) (h : i < length pairs / 2) (is : SuffixOfPair cells pairs i suffix)
    (result : ℤ) (e : result ≡ times_earlier pairs i) where
  range : (pos 0 ≤ℤ pos suffix) × (pos suffix ≤ℤ pos 65535)
  range = greatest-range cells sound (pair_at pairs i).major (pos suffix) is

  times-small : (pos 0 ≤ℤ result) × (result ≤ℤ pos i)
  times-small = rw (e ∙ times-earlier pairs i) (times-range pairs i (pair_at pairs i).major)

  bits : to_z w64 suffix ≡ pos suffix
  bits = to_z_pos w64 (omega (zarith, range.1))

  next_fits : FitsSigned w64 (pos suffix +ℤ pos 1)
  next_fits = omega (zarith, range.1, +-lin (pos suffix) (pos 1))

  times-fits : FitsSigned w64 result
  times-fits = omega (zarith, times-small.0, times-small.1, h, few)

  sum_fits : FitsSigned w64 ((pos suffix +ℤ pos 1) +ℤ result)
  sum_fits = omega (zarith, range.1, times-small.0, times-small.1, h, few, +-lin (pos suffix) (pos 1), +-lin (pos suffix +ℤ pos 1) result)

  pub sum-fits : FitsSigned w64 (to_z w64 (of_z w64 (to_z w64 suffix +ℤ pos 1)) +ℤ to_z w64 (of_z w64 result))
  sum-fits = simp (bits, to_z-of_z next_fits, to_z-of_z times-fits) sum_fits

  -- The comparison is test 13 of this source.
  pub compared : lt_z (pos 65535) (to_z w64 (of_z w64 (to_z w64 (of_z w64 (to_z w64 suffix +ℤ pos 1)) +ℤ to_z w64 (of_z w64 result)))) ≡ get_or (above cells pairs) i false
  unfolding next_suffix
  compared =
      let next-is : next_of (rows_of records_layout cells) (pair_at pairs i).major ≡ pos suffix +ℤ pos 1 = ap next_suffix is in
      simp (bits, to_z-of_z next_fits, to_z-of_z times-fits, to_z-of_z sum_fits)
      (ap (λ (z : ℤ). lt_z (pos 65535) ((pos suffix +ℤ pos 1) +ℤ z)) e ∙ ap (λ (z : ℤ). lt_z (pos 65535) (z +ℤ times_earlier pairs i)) (sym next-is) ∙ sym (suffix-at cells pairs i h))

pub bounds-sources-i : goal.bounds-sources-i
bounds-sources-i c = (suffix-kept c.args.records.now c.args.pairs.now c.args.sources.now c.loop-i.i (omega (arith, c.loop-i-test.true)) c.requires.2).0

pub loop-i-init : goal.loop-i-init
loop-i-init c = none-at-first []

pub overflow_add-next-in-loop-i : goal.overflow_add-next-in-loop-i
overflow_add-next-in-loop-i c =
    let kept = suffix-kept c.args.records.now c.args.pairs.now c.args.sources.now c.loop-i.i (omega (arith, c.loop-i-test.true)) c.requires.2 in
    sum-fits c.args.records.now c.args.pairs.now c.requires.0 c.requires.1 c.loop-i.i _ c.loop-i-test.true kept.1 c.times_earlier.result c.times_earlier.ensures

pub returns-then-next-times_earlier-gt-GREATEST_SUFFIX : goal.returns-then-next-times_earlier-gt-GREATEST_SUFFIX
returns-then-next-times_earlier-gt-GREATEST_SUFFIX c =
    let cells : List ℤ = c.args.records.now in
    let pairs : List ℤ = c.args.pairs.now in
    let i : ℕ = c.loop-i.i in
    let kept = suffix-kept cells pairs c.args.sources.now i (omega (arith, c.loop-i-test.true)) c.requires.2 in
    let tested = compared cells pairs c.requires.0 c.requires.1 i _ c.loop-i-test.true kept.1 c.times_earlier.result c.times_earlier.ensures in
    sym (one_holds (above cells pairs) i (omega (arith, suffix-count cells pairs, c.loop-i-test.true)) (sym tested ∙ c.if-next-times_earlier-gt-GREATEST_SUFFIX.true))

pub loop-i-preserved : goal.loop-i-preserved
loop-i-preserved c =
    let cells : List ℤ = c.args.records.now in
    let pairs : List ℤ = c.args.pairs.now in
    let i : ℕ = c.loop-i.i in
    let kept = suffix-kept cells pairs c.args.sources.now i (omega (arith, c.loop-i-test.true)) c.requires.2 in
    let tested = compared cells pairs c.requires.0 c.requires.1 i _ c.loop-i-test.true kept.1 c.times_earlier.result c.times_earlier.ensures in
    none-next (above cells pairs) i (omega (arith, suffix-count cells pairs, c.loop-i-test.true)) c.loop-i.invariant (sym tested ∙ c.if-next-times_earlier-gt-GREATEST_SUFFIX.false)

pub returns : goal.returns
returns c =
    let cells : List ℤ = c.args.records.now in
    let pairs : List ℤ = c.args.pairs.now in
    sym (none-at-last (above cells pairs) c.loop-i.i (omega (arith, suffix-count cells pairs, c.loop-i-test.false)) c.loop-i.invariant)
