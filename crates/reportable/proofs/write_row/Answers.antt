-- `reportable::write_row` meets its contract: a row that gives no pair writes nothing; the two cells of a pair are two stores. Assumes nothing.
use Rattle.std.proofs.Common.{arith, rules, ◌≡◌, sym, ◌∙◌, ap, [], ◌∷◌, length, List, ℤ, FitsSigned, w64}
use Rattle.std.specs.Prelude.{Ok}
use Rattle.std.proofs.lemmas.Int.{to_z-of_z}
use Rattle.std.proofs.Math.ListN.{length-set}
use Rattle.text.specs.Written.{written}
use Rattle.text.proofs.WrittenLaws.{written-nothing}
use Rattle.rules.specs.Layout.{row_at, rows_of}
use Rattle.rules.specs.Reportable.{reportable_among, ids_and_suffixes}
use Rattle.rules.specs.Tables.{records_layout}
use Rattle.rules.specs.declared.Record.{Record}
use Rattle.reportable.specs.Listing.{pairs_of_row}
use Rattle.reportable.proofs.RowPairs.{one-reported, none-reported, one-pair-told, other-told}
use Rattle.reportable.proofs.Listing.{one-pair, no-pair, two-stores}
use Rattle.reportable.proofs.write_row.Goals as goal

pub returns-then-ne : goal.returns-then-ne
returns-then-ne c =
    let today-fits : FitsSigned w64 c.args.today = c.ranges.today in
    let rows = rows_of records_layout c.args.records.now in
    let r = row_at records_layout c.args.records.now c.args.row in
    let answer = simp to_z-of_z at c.pairs_of.ensures in
    let other : pairs_of_row c.args.today rows r ≡ Ok 1 → ⊥ = λ e. other-told _ c.pairs_of.result c.if-ne.ensures (answer ∙ e) in
    let nothing : ids_and_suffixes (reportable_among c.args.today rows (r ∷ [])) ≡ [] = ap ids_and_suffixes (none-reported c.args.today rows r c.requires.2 other) ∙ no-pair in
    rw nothing (omega arith, sym (written-nothing c.args.at c.args.pairs.now))

pub bounds-pairs-at : goal.bounds-pairs-at
bounds-pairs-at c =
    let today-fits : FitsSigned w64 c.args.today = c.ranges.today in
    let rows = rows_of records_layout c.args.records.now in
    let r = row_at records_layout c.args.records.now c.args.row in
    let one : pairs_of_row c.args.today rows r ≡ Ok 1 = sym (simp to_z-of_z at c.pairs_of.ensures) ∙ one-pair-told _ c.pairs_of.result c.if-ne.ensures in
    let pair : ids_and_suffixes (reportable_among c.args.today rows (r ∷ [])) ≡ r.id ∷ r.suffix ∷ [] = ap ids_and_suffixes (one-reported c.args.today rows r c.requires.2 one) ∙ one-pair r in
    omega (arith, c.requires.3, ap length pair)

pub bounds-pairs-at-2 : goal.bounds-pairs-at-2
bounds-pairs-at-2 c =
    let today-fits : FitsSigned w64 c.args.today = c.ranges.today in
    let rows = rows_of records_layout c.args.records.now in
    let r = row_at records_layout c.args.records.now c.args.row in
    let one : pairs_of_row c.args.today rows r ≡ Ok 1 = sym (simp to_z-of_z at c.pairs_of.ensures) ∙ one-pair-told _ c.pairs_of.result c.if-ne.ensures in
    let pair : ids_and_suffixes (reportable_among c.args.today rows (r ∷ [])) ≡ r.id ∷ r.suffix ∷ [] = ap ids_and_suffixes (one-reported c.args.today rows r c.requires.2 one) ∙ one-pair r in
    simp length-set (omega (arith, c.requires.3, ap length pair))

pub returns : goal.returns
returns c =
    let today-fits : FitsSigned w64 c.args.today = c.ranges.today in
    let rows = rows_of records_layout c.args.records.now in
    let r = row_at records_layout c.args.records.now c.args.row in
    let read = c.read_record-r.result in
    let id-fits : FitsSigned w64 read.id = search rules in
    let suffix-fits : FitsSigned w64 read.suffix = search rules in
    let one : pairs_of_row c.args.today rows r ≡ Ok 1 = sym (simp to_z-of_z at c.pairs_of.ensures) ∙ one-pair-told _ c.pairs_of.result c.if-ne.ensures in
    let pair : ids_and_suffixes (reportable_among c.args.today rows (r ∷ [])) ≡ r.id ∷ r.suffix ∷ [] = ap ids_and_suffixes (one-reported c.args.today rows r c.requires.2 one) ∙ one-pair r in
    simp to_z-of_z (
      omega (arith, ap length pair),
      two-stores read.id read.suffix c.args.at c.args.pairs.now (omega (arith, c.requires.3, ap length pair))
          ∙ ap (λ (y : Record). written (y.id ∷ y.suffix ∷ []) c.args.at c.args.pairs.now) c.read_record-r.ensures
          ∙ ap (λ (l : List ℤ). written l c.args.at c.args.pairs.now) (sym pair),
    )
