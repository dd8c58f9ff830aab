-- `reportable::pairs_of` meets its contract: the day, the status, then the parent's day. Assumes nothing.
use Rattle.std.proofs.Common.{rules, ◌≡◌, sym, ◌∙◌, ap, true, false, FitsSigned, w64, of_z}
use mathlib.Core.Logic.{◌⊎◌, inl, inr}
use Rattle.std.proofs.Math.Option.{some}
use Rattle.std.proofs.lemmas.Int.{to_z-of_z}
use Rattle.integers.specs.Order.{eq_z}
use Rattle.integers.proofs.Parts.{eq_z-true, true-eq_z, false-eq_z}
use Rattle.integers.proofs.Bits.{of_z-inj}
use Rattle.rules.specs.Figures.{adjustable, inverse, under_give_up}
use Rattle.rules.specs.Layout.{rows_of}
use Rattle.rules.specs.Tables.{records_layout}
use Rattle.rules.specs.Reportable.{parent_of}
use Rattle.figures.proofs.Tests.{is-literal, not-literal}
use Rattle.reportable.specs.Listing.{pairs_of_row}
use Rattle.reportable.proofs.RowPairs.{other-day, adjustable-row, under-row, adjusted-row, missing-parent, earlier-parent, same-day-parent}
use Rattle.reportable.proofs.pairs_of.Goals as goal

pub returns-then-r-today : goal.returns-then-r-today
returns-then-r-today c =
    let rows = rows_of records_layout c.args.records.now in
    let r = c.read_record-r.result in
    let other : eq_z r.day c.args.today ≡ false = false-eq_z r.day c.args.today (λ e. c.if-r-today.true (ap (of_z w64) e)) in
    other-day c.args.today rows r other ∙ ap (pairs_of_row c.args.today rows) c.read_record-r.ensures

pub returns-in-0 : goal.returns-in-0
returns-in-0 c =
    let rows = rows_of records_layout c.args.records.now in
    let r = c.read_record-r.result in
    let day-fits : FitsSigned w64 r.day = search rules in
    let status-fits : FitsSigned w64 r.status = search rules in
    let own : eq_z r.day c.args.today ≡ true = true-eq_z r.day c.args.today (of_z-inj day-fits c.ranges.today c.if-r-today.false) in
    let either : (of_z w64 r.status ≡ 0) ⊎ (of_z w64 r.status ≡ 3) = search rules in
    elim either [
      | inl e ↦ adjustable-row c.args.today rows r own (eq_z-true r.status adjustable (is-literal 0 tt status-fits e)) ∙ ap (pairs_of_row c.args.today rows) c.read_record-r.ensures
      | inr e ↦ under-row c.args.today rows r own (eq_z-true r.status under_give_up (is-literal 3 tt status-fits e)) ∙ ap (pairs_of_row c.args.today rows) c.read_record-r.ensures
    ]

pub returns-in_default-find_parent : goal.returns-in_default-find_parent
returns-in_default-find_parent c =
    let rows = rows_of records_layout c.args.records.now in
    let r = c.read_record-r.result in
    let day-fits : FitsSigned w64 r.day = search rules in
    let status-fits : FitsSigned w64 r.status = search rules in
    let own : eq_z r.day c.args.today ≡ true = true-eq_z r.day c.args.today (of_z-inj day-fits c.ranges.today c.if-r-today.false) in
    let bits : of_z w64 r.status ≡ 2 = search rules in
    missing-parent c.args.today rows r own (eq_z-true r.status inverse (is-literal 2 tt status-fits bits)) c.in_default-find_parent.ensures
    ∙ ap (pairs_of_row c.args.today rows) c.read_record-r.ensures

pub returns-then-p-today : goal.returns-then-p-today
returns-then-p-today c =
    let rows = rows_of records_layout c.args.records.now in
    let r = c.read_record-r.result in
    let p = c.read_record-p.result in
    let today-fits : FitsSigned w64 c.args.today = c.ranges.today in
    let day-fits : FitsSigned w64 r.day = search rules in
    let status-fits : FitsSigned w64 r.status = search rules in
    let parent-fits : FitsSigned w64 p.day = search rules in
    let own : eq_z r.day c.args.today ≡ true = true-eq_z r.day c.args.today (of_z-inj day-fits today-fits c.if-r-today.false) in
    let bits : of_z w64 r.status ≡ 2 = search rules in
    let there : parent_of rows r ≡ some p = c.in-Ok.ensures.1 ∙ ap some (sym c.read_record-p.ensures) in
    earlier-parent c.args.today rows r own (eq_z-true r.status inverse (is-literal 2 tt status-fits bits)) p there (simp to_z-of_z at c.if-p-today.true)
    ∙ ap (pairs_of_row c.args.today rows) c.read_record-r.ensures

pub returns-else-p-today : goal.returns-else-p-today
returns-else-p-today c =
    let rows = rows_of records_layout c.args.records.now in
    let r = c.read_record-r.result in
    let p = c.read_record-p.result in
    let today-fits : FitsSigned w64 c.args.today = c.ranges.today in
    let day-fits : FitsSigned w64 r.day = search rules in
    let status-fits : FitsSigned w64 r.status = search rules in
    let parent-fits : FitsSigned w64 p.day = search rules in
    let own : eq_z r.day c.args.today ≡ true = true-eq_z r.day c.args.today (of_z-inj day-fits today-fits c.if-r-today.false) in
    let bits : of_z w64 r.status ≡ 2 = search rules in
    let there : parent_of rows r ≡ some p = c.in-Ok.ensures.1 ∙ ap some (sym c.read_record-p.ensures) in
    same-day-parent c.args.today rows r own (eq_z-true r.status inverse (is-literal 2 tt status-fits bits)) p there (simp to_z-of_z at c.if-p-today.false)
    ∙ ap (pairs_of_row c.args.today rows) c.read_record-r.ensures

pub returns-in_default : goal.returns-in_default
returns-in_default c =
    let rows = rows_of records_layout c.args.records.now in
    let r = c.read_record-r.result in
    let day-fits : FitsSigned w64 r.day = search rules in
    let status-fits : FitsSigned w64 r.status = search rules in
    let own : eq_z r.day c.args.today ≡ true = true-eq_z r.day c.args.today (of_z-inj day-fits c.ranges.today c.if-r-today.false) in
    let adjusted : eq_z r.status adjustable ≡ false = not-literal 0 status-fits (search rules) in
    let not-under : eq_z r.status under_give_up ≡ false = not-literal 3 status-fits (search rules) in
    let not-inverse : eq_z r.status inverse ≡ false = not-literal 2 status-fits (search rules) in
    adjusted-row c.args.today rows r own adjusted not-under not-inverse ∙ ap (pairs_of_row c.args.today rows) c.read_record-r.ensures
