use Rattle.std.proofs.Common.{rules, arith, sym, subst, ◌∙◌, ◌+◌, [], List, ℤ, w64, FitsSigned, ◌*ℤ◌}
use mir.Facts.{to_z-of_z}
use Rattle.rules.specs.declared.Record.{Record}
use Rattle.merge_sources.specs.Sources.{source_records}
use Rattle.merge_sources.proofs.SourceList.{record-count}
use Rattle.merge_sources.proofs.Sums.{value_of, values-sum, sum-at-first, sum-at-last}
use Rattle.merge_sources.proofs.SourceSums.{source-value-fits, value-sum-fits, sum-one-more}
use Rattle.merge.proofs.sources.sum_of_values.Goals as goal

pub loop-i-init : goal.loop-i-init
loop-i-init c = sym (sum-at-first value_of [])

pub overflow_mul-sum : goal.overflow_mul-sum
overflow_mul-sum c =
    let r : Record = c.source_record-r.result in
    let f : FitsSigned w64 r.quantity = search rules in
    let g : FitsSigned w64 r.price = search rules in
    simp (to_z-of_z f, to_z-of_z g)
    (source-value-fits c.args.records.now c.args.pairs.now c.requires.0 c.requires.2 c.requires.4 c.loop-i.i r c.loop-i-test.true c.source_record-r.ensures)

pub overflow_add-sum : goal.overflow_add-sum
overflow_add-sum c =
    let r : Record = c.source_record-r.result in
    let f : FitsSigned w64 r.quantity = search rules in
    let g : FitsSigned w64 r.price = search rules in
    let cells : List ℤ = c.args.records.now in
    let pairs : List ℤ = c.args.pairs.now in
    let product : FitsSigned w64 (r.quantity *ℤ r.price)
    = source-value-fits cells pairs c.requires.0 c.requires.2 c.requires.4 c.loop-i.i r c.loop-i-test.true c.source_record-r.ensures in
    let more = sum-one-more value_of cells pairs c.loop-i.i r _ c.loop-i-test.true c.source_record-r.ensures c.loop-i.invariant in
    simp (to_z-of_z f, to_z-of_z g, to_z-of_z product)
    (subst (λ (z : ℤ). FitsSigned w64 z) (sym more) (value-sum-fits cells pairs c.requires.0 c.requires.2 c.requires.4 c.requires.5 (c.loop-i.i + 1)))

pub loop-i-preserved : goal.loop-i-preserved
loop-i-preserved c =
    let r : Record = c.source_record-r.result in
    let f : FitsSigned w64 r.quantity = search rules in
    let g : FitsSigned w64 r.price = search rules in
    let cells : List ℤ = c.args.records.now in
    let pairs : List ℤ = c.args.pairs.now in
    let product : FitsSigned w64 (r.quantity *ℤ r.price)
    = source-value-fits cells pairs c.requires.0 c.requires.2 c.requires.4 c.loop-i.i r c.loop-i-test.true c.source_record-r.ensures in
    let more = sum-one-more value_of cells pairs c.loop-i.i r _ c.loop-i-test.true c.source_record-r.ensures c.loop-i.invariant in
    let sum = subst (λ (z : ℤ). FitsSigned w64 z) (sym more) (value-sum-fits cells pairs c.requires.0 c.requires.2 c.requires.4 c.requires.5 (c.loop-i.i + 1)) in
    simp (to_z-of_z f, to_z-of_z g, to_z-of_z product, to_z-of_z sum) more

pub returns : goal.returns
returns c =
    let rs : List Record = source_records c.args.records.now c.args.pairs.now in
    c.loop-i.invariant ∙ sum-at-last value_of rs c.loop-i.i (omega (arith, record-count c.args.records.now c.args.pairs.now, c.loop-i-test.false)) ∙ sym (values-sum rs)
