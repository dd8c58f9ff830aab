use Rattle.std.proofs.Common.{rules, arith, sym, subst, ◌∙◌, ◌+◌, [], List, ℤ, w64, FitsSigned}
use mir.Facts.{to_z-of_z}
use Rattle.rules.specs.declared.Record.{Record}
use Rattle.merge_sources.specs.Sources.{source_records}
use Rattle.merge_sources.proofs.SourceList.{record-count}
use Rattle.merge_sources.proofs.Sums.{quantity_of, quantities-sum, sum-at-first, sum-at-last}
use Rattle.merge_sources.proofs.SourceSums.{quantity-sum-fits, sum-one-more}
use Rattle.merge.proofs.sources.sum_of_quantities.Goals as goal

pub loop-i-init : goal.loop-i-init
loop-i-init c = sym (sum-at-first quantity_of [])

pub overflow_add-sum : goal.overflow_add-sum
overflow_add-sum c =
    let r : Record = c.source_record-sum.result in
    let f : FitsSigned w64 r.quantity = search rules in
    let more = sum-one-more quantity_of c.args.records.now c.args.pairs.now c.loop-i.i r _ c.loop-i-test.true c.source_record-sum.ensures c.loop-i.invariant in
    simp (to_z-of_z f) (subst (λ (z : ℤ). FitsSigned w64 z) (sym more)
    (quantity-sum-fits c.args.records.now c.args.pairs.now c.requires.0 c.requires.2 (c.loop-i.i + 1) (omega (arith, c.loop-i-test.true)) c.requires.3))

pub loop-i-preserved : goal.loop-i-preserved
loop-i-preserved c =
    let r : Record = c.source_record-sum.result in
    let f : FitsSigned w64 r.quantity = search rules in
    let more = sum-one-more quantity_of c.args.records.now c.args.pairs.now c.loop-i.i r _ c.loop-i-test.true c.source_record-sum.ensures c.loop-i.invariant in
    let g = subst (λ (z : ℤ). FitsSigned w64 z) (sym more)
    (quantity-sum-fits c.args.records.now c.args.pairs.now c.requires.0 c.requires.2 (c.loop-i.i + 1) (omega (arith, c.loop-i-test.true)) c.requires.3) in
    simp (to_z-of_z f, to_z-of_z g) more

pub returns : goal.returns
returns c =
    let rs : List Record = source_records c.args.records.now c.args.pairs.now in
    c.loop-i.invariant ∙ sum-at-last quantity_of rs c.loop-i.i (omega (arith, record-count c.args.records.now c.args.pairs.now, c.loop-i-test.false)) ∙ sym (quantities-sum rs)
