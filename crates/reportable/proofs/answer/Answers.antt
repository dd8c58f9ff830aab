-- `reportable::answer` meets its contract: tests 1, 5 and 14 in their order, then the pairs. Assumes nothing.
use Rattle.std.proofs.Common.{arith, rules, sym, ◌∙◌, ap, [], ◌^◌, ◌<◌, ℤ, FitsSigned, w64}
use Rattle.std.proofs.lemmas.Int.{to_z-of_z, to_z_pos}
use Rattle.std.proofs.lemmas.Result.{err_from_is_err_and}
use borrow.Author.Tests.{lt-ltb, le-ltb}
use Rattle.rules.specs.Layout.{rows_of}
use Rattle.rules.specs.Left.{left, written_to}
use Rattle.rules.specs.Reportable.{reportable_records, ids_and_suffixes}
use Rattle.rules.specs.Tables.{records_layout, current_day}
use Rattle.rules.specs.declared.Reply.TheVariants.{Listed}
use Rattle.cells.proofs.SoundCells.{record-rows-sound}
use Rattle.reportable.specs.Listing.{counted_of}
use Rattle.reportable.proofs.Listing.{two-cells-each, fewer-reported, few-rows}
use Rattle.reportable.proofs.Answers.{refused-unsound, refused-missing, refused-short, listed-all, counted-none, counted-all}
use Rattle.reportable.proofs.answer.Goals as goal

pub returns-then-not-records_sound : goal.returns-then-not-records_sound
returns-then-not-records_sound c = rw c.into.ensures (refused-unsound c.args.records.now c.args.pairs.now (sym c.records_sound.ensures ∙ c.if-not-records_sound.true))

pub today-today-requires : goal.today-today-requires
today-today-requires c = record-rows-sound c.args.records.now (sym c.records_sound.ensures ∙ c.if-not-records_sound.false)

pub count_pairs-requires : goal.count_pairs-requires
count_pairs-requires c = record-rows-sound c.args.records.now (sym c.records_sound.ensures ∙ c.if-not-records_sound.false)

pub returns-in_err-count : goal.returns-in_err-count
returns-in_err-count c =
    let rs = c.args.records.now in
    let rows = rows_of records_layout rs in
    let today-fits : FitsSigned w64 c.today-today.result = search rules in
    let sound = sym c.records_sound.ensures ∙ c.if-not-records_sound.false in
    let counted = (simp to_z-of_z at c.count_pairs.ensures) ∙ ap (λ z. counted_of z rows rows) c.today-today.ensures in
    let missing = counted-none rs c.args.pairs.now sound _ (sym counted ∙ c.in_err-count.was) in
    let p = err_from_is_err_and c.from_residual.result c.from_residual.ensures.1 in
    rw (p.1, p.2, missing.1) (refused-missing rs c.args.pairs.now sound missing.0)

pub overflow_mul-count : goal.overflow_mul-count
overflow_mul-count c =
    let rs = c.args.records.now in
    let rows = rows_of records_layout rs in
    let today-fits : FitsSigned w64 c.today-today.result = search rules in
    let sound = sym c.records_sound.ensures ∙ c.if-not-records_sound.false in
    let counted = (simp to_z-of_z at c.count_pairs.ensures) ∙ ap (λ z. counted_of z rows rows) c.today-today.ensures in
    let all = counted-all rs c.args.pairs.now sound _ (sym counted ∙ c.in_ok-count.was) in
    record { fits = omega (arith, all.1, fewer-reported (current_day rs) rows rows, few-rows rs (record-rows-sound rs sound)) }

pub returns-then-pairs-count : goal.returns-then-pairs-count
returns-then-pairs-count c =
    let rs = c.args.records.now in
    let rows = rows_of records_layout rs in
    let today-fits : FitsSigned w64 c.today-today.result = search rules in
    let sound = sym c.records_sound.ensures ∙ c.if-not-records_sound.false in
    let counted = (simp to_z-of_z at c.count_pairs.ensures) ∙ ap (λ z. counted_of z rows rows) c.today-today.ensures in
    rw c.into-then-pairs-count.ensures (refused-short rs c.args.pairs.now sound _ (sym counted ∙ c.in_ok-count.was) (lt-ltb _ _ c.if-pairs-count.true))

pub write_pairs-requires : goal.write_pairs-requires
write_pairs-requires c =
    let rs = c.args.records.now in
    let rows = rows_of records_layout rs in
    let today-fits : FitsSigned w64 c.today-today.result = search rules in
    let sound = sym c.records_sound.ensures ∙ c.if-not-records_sound.false in
    let counted = (simp to_z-of_z at c.count_pairs.ensures) ∙ ap (λ z. counted_of z rows rows) c.today-today.ensures in
    let all = counted-all rs c.args.pairs.now sound _ (sym counted ∙ c.in_ok-count.was) in
    simp to_z-of_z (simp c.today-today.ensures (record-rows-sound rs sound, all.0, omega (arith, two-cells-each (reportable_records (current_day rs) rows), all.1, c.if-pairs-count.false)))

pub returns : goal.returns
returns c =
    let rs = c.args.records.now in
    let rows = rows_of records_layout rs in
    let today-fits : FitsSigned w64 c.today-today.result = search rules in
    let sound = sym c.records_sound.ensures ∙ c.if-not-records_sound.false in
    let counted = (simp to_z-of_z at c.count_pairs.ensures) ∙ ap (λ z. counted_of z rows rows) c.today-today.ensures in
    let is-count = sym counted ∙ c.in_ok-count.was in
    let all = counted-all rs c.args.pairs.now sound _ is-count in
    let small : c.in_ok-count.count < 2 ^ 63 = omega (arith, all.1, fewer-reported (current_day rs) rows rows, few-rows rs (record-rows-sound rs sound)) in
    ap (λ (n : ℤ). left (Listed n) c.write_pairs.new.pairs rs []) (to_z_pos w64 _ small)
    ∙ listed-all rs c.args.pairs.now sound _ is-count (le-ltb _ _ c.if-pairs-count.false) _
    ((simp to_z-of_z at c.write_pairs.ensures) ∙ ap (λ z. written_to c.args.pairs.now (ids_and_suffixes (reportable_records z rows))) c.today-today.ensures)
