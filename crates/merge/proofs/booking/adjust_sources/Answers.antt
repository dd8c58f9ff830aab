use Rattle.std.proofs.Common.{arith, ◌≡◌, sym, subst, length-take, ◌<◌, ◌/◌, length, take, List, ℕ, ℤ}
use Rattle.std.proofs.lemmas.List.{get_or-take}
use Rattle.rules.specs.Rows.{adjusted_record}
use Rattle.merge_sources.specs.Located.{kept_at, RowsKnown}
use Rattle.merge_sources.specs.declared.Source.{Source}
use Rattle.merge_sources.proofs.AdjustingCells.{adjusted-start, adjusted-end, adjust-ready, adjust-next}
use Rattle.merge_sources.proofs.SourceRows.{RowOfPair, row_kept}
use Rattle.merge.proofs.booking.adjust_sources.Goals as goal

-- As many as the pairs are gone through, each with the row of its pair.
module _ (cells pairs : List ℤ) (sources : List Source) (known : RowsKnown cells pairs sources) where
  kept-count : length (take (length pairs / 2) sources) ≡ length pairs / 2
  unfolding RowsKnown
  kept-count = omega (arith, length-take (length pairs / 2) sources, known.0)

  kept-row : (i : ℕ) → i < length pairs / 2 → RowOfPair cells pairs i (kept_at (take (length pairs / 2) sources) i).row
  kept-row i h =
      subst (λ (s : Source). RowOfPair cells pairs i s.row) (sym (get_or-take (length pairs / 2) sources i (record { row = 0; suffix = 0 }) h))
      (row_kept cells pairs sources i (omega (arith, h)) known).1

pub slice_bounds-source-items-end : goal.slice_bounds-source-items-end
slice_bounds-source-items-end c = sym (kept-count c.args.records.now c.args.pairs.now c.args.sources.now c.requires.4)

pub loop-source-init : goal.loop-source-init
loop-source-init c = adjusted-start c.args.records.now c.args.pairs.now c.requires.0

pub set_status-requires : goal.set_status-requires
unfolding adjusted_record
set_status-requires c =
    let cells : List ℤ = c.args.records.now in
    let pairs : List ℤ = c.args.pairs.now in
    let i : ℕ = c.loop-source.source-index in
    let h : i < length pairs / 2 = omega (arith, c.loop-source-test.true, kept-count cells pairs c.args.sources.now c.requires.4) in
    adjust-ready cells pairs c.requires.1 c.requires.2 c.requires.3 c.loop-source.records i c.loop-source.invariant h _ (kept-row cells pairs c.args.sources.now c.requires.4 i h)

pub loop-source-preserved : goal.loop-source-preserved
unfolding adjusted_record
loop-source-preserved c =
    let cells : List ℤ = c.args.records.now in
    let pairs : List ℤ = c.args.pairs.now in
    let i : ℕ = c.loop-source.source-index in
    let h : i < length pairs / 2 = omega (arith, c.loop-source-test.true, kept-count cells pairs c.args.sources.now c.requires.4) in
    adjust-next cells pairs c.requires.1 c.requires.2 c.requires.3 c.loop-source.records i c.loop-source.invariant h _ (kept-row cells pairs c.args.sources.now c.requires.4 i h)
    c.set_status.new.cells c.set_status.ensures.0 c.set_status.ensures.1 c.set_status.auto.cells

pub returns : goal.returns
returns c =
    adjusted-end c.args.records.now c.args.pairs.now c.loop-source.records c.loop-source.source-index
    (omega (arith, c.loop-source-test.false, kept-count c.args.records.now c.args.pairs.now c.args.sources.now c.requires.4)) c.loop-source.invariant
