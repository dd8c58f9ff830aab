-- `tables::new_rows::write_record` meets its contract: the record's cells in place of the row's. Assumes nothing.
use mathlib.Core.Path.{◌≡◌, sym, ap, subst, ◌∙◌}
use Prim.Native.Nat.{ℕ, suc, ◌+◌, ◌*◌, ◌≤◌}
use native.Mathlib.Omega.{arith}
use mathlib.Core.List.{List}
use lib.IntN.{ℤ}
use lib.ListN.{length}
use borrow.Author.Rules.{rules}
use Rattle.rules.specs.Tables.{records_layout}
use Rattle.cells.proofs.RowCells.{records-lawful}
use Rattle.shifter.specs.Insertion.{replaced}
use Rattle.tables.proofs.new_rows.write_record.Statement.{statement}
use Rattle.tables.proofs.new_rows.write_record.Tie as tie

wide : (c : tie.After-record_cells-row_cells) → length c.record_cells-row_cells.result ≡ records_layout.width
wide c = ap length c.record_cells-row_cells.ensures ∙ records-lawful.put-length c.args.r

replace-row-requires : tie.Need-replace_row-requires
replace-row-requires c κs =
    let r : tie.After-record_cells-row_cells = c.before.before in
    let s : tie.Start = r.before in
    subst (λ (w : ℕ). 0 + suc s.args.row * w ≤ length s.args.part.now) (sym (wide r)) (omega (arith, s.requires))

returns : tie.Need-returns
returns c =
    let r : tie.After-record_cells-row_cells = c.before.before.before.before in
    let s : tie.Start = r.before in
    c.replace_row.ensures ∙ ap (λ (cells : List ℤ). replaced 0 cells s.args.row s.args.part.now) r.record_cells-row_cells.ensures

pub write_record_spec : {M : Type 1} → statement M
write_record_spec = tie.close (tie.spec (λ c κs. search rules) (λ c. search rules) replace-row-requires (λ c. search rules) returns)
