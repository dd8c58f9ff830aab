-- `lineage::origin` meets its contract: each return is one step of the way. The measure is the suffix, since in a sound table a parent is below it; and the links are no more than the suffix, so that one more fits. Assumes nothing.
use Rattle.std.proofs.Common.{arith, rules, ap, pos, ◌+ℤ◌, FitsSigned, w64}
use Rattle.std.proofs.lemmas.Int.{to_z-of_z}
use Rattle.std.specs.Result.{result_ok}
use Rattle.integers.proofs.Linear.{zarith, +-lin}
use Rattle.figures.proofs.Tests.{is-literal, not-literal}
use Rattle.verdict.proofs.LineageAnswer.{parent-valid}
use Rattle.lineage.proofs.Steps.{price-read, links-read, suffix-read, row-within, row-read, no-row, step-missing, step-first, step-onward, step-onward-missing, parent-nearer, links-few}
use Rattle.lineage.proofs.+origin.Goals as goal

pub returns-in_default : goal.returns-in_default
returns-in_default t c =
    let a = c.args in
    let id-fits : FitsSigned w64 a.id = c.ranges.id in
    let suffix-fits : FitsSigned w64 a.suffix = c.ranges.suffix in
    let lacking = no-row a.records.now a.id a.suffix c.look_up.result (simp to_z-of_z at c.look_up.ensures) (ap result_ok c.in_default.is) in
    step-missing a.records.now a.id a.suffix lacking

pub read_record-r-requires : goal.read_record-r-requires
read_record-r-requires t c =
    let a = c.args in
    let id-fits : FitsSigned w64 a.id = c.ranges.id in
    let suffix-fits : FitsSigned w64 a.suffix = c.ranges.suffix in
    (c.requires.0, row-within a.records.now a.id a.suffix c.look_up.result (simp to_z-of_z at c.look_up.ensures) c.in-Ok.there (ap result_ok c.in-Ok.is))

pub returns-then-suffix-eq0 : goal.returns-then-suffix-eq0
returns-then-suffix-eq0 t c =
    let a = c.args in
    let id-fits : FitsSigned w64 a.id = c.ranges.id in
    let suffix-fits : FitsSigned w64 a.suffix = c.ranges.suffix in
    let r = c.read_record-r.result in
    let named = row-read a.records.now a.id a.suffix c.look_up.result (simp to_z-of_z at c.look_up.ensures) c.in-Ok.there (ap result_ok c.in-Ok.is) r c.read_record-r.ensures in
    price-read (search rules) (step-first a.records.now a.id a.suffix r named (is-literal 0 tt suffix-fits c.if-suffix-eq0.true))

pub origin-requires : goal.origin-requires
origin-requires t c =
    let a = c.args in
    let id-fits : FitsSigned w64 a.id = c.ranges.id in
    let suffix-fits : FitsSigned w64 a.suffix = c.ranges.suffix in
    let r = c.read_record-r.result in
    let named = row-read a.records.now a.id a.suffix c.look_up.result (simp to_z-of_z at c.look_up.ensures) c.in-Ok.there (ap result_ok c.in-Ok.is) r c.read_record-r.ensures in
    let nearer = parent-nearer a.records.now a.id a.suffix r named c.requires.0 (not-literal 0 suffix-fits c.if-suffix-eq0.false) in
    suffix-read (search rules) (omega (arith, nearer, c.decreases), (c.requires.0, parent-valid a.records.now c.requires.0 a.id a.suffix r named))

pub returns-in_err-original : goal.returns-in_err-original
returns-in_err-original t c =
    let a = c.args in
    let id-fits : FitsSigned w64 a.id = c.ranges.id in
    let suffix-fits : FitsSigned w64 a.suffix = c.ranges.suffix in
    let r = c.read_record-r.result in
    let parent-fits : FitsSigned w64 r.parent = search rules in
    let named = row-read a.records.now a.id a.suffix c.look_up.result (simp to_z-of_z at c.look_up.ensures) c.in-Ok.there (ap result_ok c.in-Ok.is) r c.read_record-r.ensures in
    let not-zero = not-literal 0 suffix-fits c.if-suffix-eq0.false in
    rw c.from_residual.ensures
    (step-onward-missing a.records.now a.id a.suffix r named c.requires.0 not-zero c.origin.result (simp to_z-of_z at c.origin.ensures) c.in_err-original.was)

pub overflow_add-result : goal.overflow_add-result
overflow_add-result t c =
    let a = c.args in
    let id-fits : FitsSigned w64 a.id = c.ranges.id in
    let suffix-fits : FitsSigned w64 a.suffix = c.ranges.suffix in
    let r = c.read_record-r.result in
    let parent-fits : FitsSigned w64 r.parent = search rules in
    let original = c.in_ok-original.original in
    let links-fit : FitsSigned w64 original.links = search rules in
    let named = row-read a.records.now a.id a.suffix c.look_up.result (simp to_z-of_z at c.look_up.ensures) c.in-Ok.there (ap result_ok c.in-Ok.is) r c.read_record-r.ensures in
    let parent-is-valid = parent-valid a.records.now c.requires.0 a.id a.suffix r named in
    let few = links-few a.records.now c.requires.0 a.id r.parent parent-is-valid c.origin.result (simp to_z-of_z at c.origin.ensures) original c.in_ok-original.was in
    simp to_z-of_z (omega (zarith, few, +-lin))

pub returns : goal.returns
returns t c =
    let a = c.args in
    let id-fits : FitsSigned w64 a.id = c.ranges.id in
    let suffix-fits : FitsSigned w64 a.suffix = c.ranges.suffix in
    let r = c.read_record-r.result in
    let parent-fits : FitsSigned w64 r.parent = search rules in
    let original = c.in_ok-original.original in
    let links-fit : FitsSigned w64 original.links = search rules in
    let named = row-read a.records.now a.id a.suffix c.look_up.result (simp to_z-of_z at c.look_up.ensures) c.in-Ok.there (ap result_ok c.in-Ok.is) r c.read_record-r.ensures in
    let not-zero = not-literal 0 suffix-fits c.if-suffix-eq0.false in
    let told = simp to_z-of_z at c.origin.ensures in
    let parent-is-valid = parent-valid a.records.now c.requires.0 a.id a.suffix r named in
    let few = links-few a.records.now c.requires.0 a.id r.parent parent-is-valid c.origin.result told original c.in_ok-original.was in
    let next = original.links +ℤ pos 1 in
    let next-fits : FitsSigned w64 next = omega (zarith, few, +-lin) in
    rw (to_z-of_z w64 original.links)
    (price-read {price = original.price} (search rules) (links-read next-fits (step-onward a.records.now a.id a.suffix r named c.requires.0 not-zero c.origin.result told original c.in_ok-original.was)))
