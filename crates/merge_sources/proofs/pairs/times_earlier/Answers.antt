use Rattle.std.proofs.Common.{rules, ◌≡◌, ◌<◌, ◌≤◌, ◌∙◌, ◌+ℤ◌, of_z, length, get_or, take, [], pos, arith, sym, ap, length-take, FitsSigned, w64, to_z}
use mir.Facts.{to_z-of_z}
use Rattle.integers.proofs.Bits.{of_z-inj}
use Rattle.integers.proofs.Linear.{zarith, +-lin}
use Rattle.rules.specs.Merge.{times_in}
use Rattle.merge_sources.specs.Pairs.{pair_at, earlier_ids}
use Rattle.merge_sources.proofs.PairList.{pair-count}
use Rattle.merge_sources.proofs.Earlier.{listed-at, times_none, times-one-more, times-no-more, times-range, times-earlier}
use Rattle.merge_sources.proofs.pairs.times_earlier.Goals.{then-other-id, else-other-id}
use Rattle.merge_sources.proofs.pairs.times_earlier.Goals as goal

pub bounds-list-place : goal.bounds-list-place
bounds-list-place c = omega (arith, c.in_pairs-list.ensures.as_many, pair-count c.args.pairs.now, c.requires.0)

pub slice_bounds-other-items-end : goal.slice_bounds-other-items-end
slice_bounds-other-items-end c = omega (arith, length-take c.args.place c.in_pairs-list.result.now, c.in_pairs-list.ensures.as_many, pair-count c.args.pairs.now, c.requires.0)

pub loop-other-init : goal.loop-other-init
loop-other-init c = sym (times_none c.args.pairs.now (pair_at c.args.pairs.now c.args.place).major)

pub overflow_add-times : goal.overflow_add-times
overflow_add-times c =
    let range = times-range c.args.pairs.now c.loop-other.other-index (pair_at c.args.pairs.now c.args.place).major in
    let within : c.loop-other.other-index < c.args.place = omega (arith, c.loop-other-test.true, length-take c.args.place c.in_pairs-list.result.now) in
    omega (zarith, range.0, range.1, c.loop-other.invariant, within, c.requires.1, +-lin (to_z w64 c.loop-other.times-bits) (pos 1))

-- The pair at the place that is looked at has the id, or it has not.
pub loop-other-preserved : goal.loop-other-preserved
loop-other-preserved c =
    let pairs = c.args.pairs.now in
    let place = c.args.place in
    let list = c.in_pairs-list.result.now in
    let j = c.loop-other.other-index in
    let id = (pair_at pairs place).major in
    let t = to_z w64 c.loop-other.times-bits in
    let all : place < length list = omega (arith, c.in_pairs-list.ensures.as_many, pair-count pairs, c.requires.0) in
    let within : j < place = omega (arith, c.loop-other-test.true, length-take place list) in
    let most : place ≤ length list = omega arith in
    let is = ap (λ k. k.major) (listed-at pairs list c.in_pairs-list.ensures.are_pairs place all) in
    let theirs-fits : FitsSigned w64 (get_or (get_or (take place list) j []) 0 (pos 0)) = search rules in
    let ours-fits : FitsSigned w64 (get_or (get_or list place []) 0 (pos 0)) = search rules in
    let range = times-range pairs j id in
    let next-fits : FitsSigned w64 (t +ℤ pos 1) = omega (zarith, range.0, range.1, c.loop-other.invariant, within, c.requires.1, +-lin t (pos 1)) in
    elim c.if-other-id.branch [
      | then-other-id w ↦
          w.times-is ∙ to_z-of_z next-fits
          ∙ times-one-more pairs list c.in_pairs-list.ensures.are_pairs id place j within most t c.loop-other.invariant (of_z-inj theirs-fits ours-fits w.if-other-id.true ∙ is)
      | else-other-id w ↦
          w.times-is
          ∙ times-no-more pairs list c.in_pairs-list.ensures.are_pairs id place j within most t c.loop-other.invariant
          (λ e. w.if-other-id.false (ap (of_z w64) (e ∙ sym is)))
    ]

pub returns : goal.returns
returns c =
    let end : c.loop-other.other-index ≡ c.args.place = omega (arith, c.loop-other-test.false, c.loop-other.auto.other-index-end, length-take c.args.place c.in_pairs-list.result.now, c.in_pairs-list.ensures.as_many, pair-count c.args.pairs.now, c.requires.0) in
    c.loop-other.invariant ∙ ap (λ n. times_in (earlier_ids c.args.pairs.now n) (pair_at c.args.pairs.now c.args.place).major) end ∙ sym (times-earlier c.args.pairs.now c.args.place)
