-- `reportable::count_pairs` meets its contract. The loop's invariant: the count of all rows is the pairs so far and the count of the rows that are left. Assumes nothing.
use Rattle.std.proofs.Common.{arith, sym, ◌∙◌, FitsSigned, w64}
use Rattle.std.proofs.lemmas.Int.{to_z-of_z}
use Rattle.std.proofs.lemmas.Result.{err_from_is_err_and}
use Rattle.reportable.proofs.Listing.{none-counted, row-refused, row-counted, all-counted, few-rows}
use Rattle.reportable.proofs.count_pairs.Goals as goal

pub loop-row-init : goal.loop-row-init
loop-row-init c =
    let today-fits : FitsSigned w64 c.args.today = c.ranges.today in
    simp to_z-of_z (none-counted c.args.today c.args.records.now)

pub returns-in_err-pairs : goal.returns-in_err-pairs
returns-in_err-pairs c =
    let today-fits : FitsSigned w64 c.args.today = c.ranges.today in
    let so_far = simp to_z-of_z at c.loop-row.invariant in
    let p = err_from_is_err_and c.from_residual.result c.from_residual.ensures.1 in
    let e = sym (simp to_z-of_z at c.pairs_of.ensures) ∙ c.in_err-pairs.was in
    rw (p.1, p.2) (row-refused c.args.today c.args.records.now _ _ so_far (omega (arith, c.loop-row-test.true, c.count-row-end.ensures)) _ e)

pub overflow_add-pairs : goal.overflow_add-pairs
overflow_add-pairs c =
    let today-fits : FitsSigned w64 c.args.today = c.ranges.today in
    let so_far = simp to_z-of_z at c.loop-row.invariant in
    let e = sym (simp to_z-of_z at c.pairs_of.ensures) ∙ c.in_ok-pairs.was in
    let next = row-counted c.args.today c.args.records.now _ _ so_far (omega (arith, c.loop-row-test.true, c.count-row-end.ensures)) _ e in
    record { fits = omega (arith, next.few, next.within, few-rows c.args.records.now c.requires) }

pub loop-row-preserved : goal.loop-row-preserved
loop-row-preserved c =
    let today-fits : FitsSigned w64 c.args.today = c.ranges.today in
    let so_far = simp to_z-of_z at c.loop-row.invariant in
    let e = sym (simp to_z-of_z at c.pairs_of.ensures) ∙ c.in_ok-pairs.was in
    simp to_z-of_z (row-counted c.args.today c.args.records.now _ _ so_far (omega (arith, c.loop-row-test.true, c.count-row-end.ensures)) _ e)

pub returns : goal.returns
returns c =
    let today-fits : FitsSigned w64 c.args.today = c.ranges.today in
    let so_far = simp to_z-of_z at c.loop-row.invariant in
    all-counted c.args.today c.args.records.now _ _ so_far (omega (arith, c.loop-row-test.false, c.count-row-end.ensures))
