-- `tables::new_rows::shift_in_rows` meets its contract, by the laws that it calls: moved up by the new rows' cells, then these written over. Assumes nothing.
use Prim.Native.Nat.{ℕ, suc, ◌+◌, ◌*◌}
use native.Mathlib.Omega.{arith}
use mathlib.Core.Path.{◌≡◌, ap, ◌∙◌}
use mathlib.Core.List.{List, ◌++◌}
use borrow.Author.Rules.{rules}
use lib.IntN.{ℤ}
use lib.ListN.{length, take, drop}
use Rattle.rules.specs.Layout.{encode}
use Rattle.rules.specs.Tables.{record_cells, records_layout}
use Rattle.cells.proofs.RowCells.{records-lawful}
use Rattle.shifter.specs.Insertion.{raised}
use Rattle.shifter.proofs.RowsFilled.{rows-shifted}
use Rattle.tables.specs.NewRows.{rows_like, new_rows}
use Rattle.tables.proofs.NewRows.{news-cells}
use Rattle.tables.proofs.new_rows.shift_in_rows.Statement.{statement}
use Rattle.tables.proofs.new_rows.shift_in_rows.Tie as tie

returns : tie.Need-returns
returns c =
    let o : tie.After-write_record = c.before.before.before.before in
    let u : tie.After-move_up = o.before.before.before in
    let s : tie.Start = u.before.before in
    let part : List ℤ = s.args.part.now in
    let new : List ℤ = encode record_cells (new_rows s.args.inverse s.args.first s.args.quantities.now) in
    let size : length new ≡ suc (length s.args.quantities.now) * records_layout.width = news-cells s.args.inverse s.args.first s.args.quantities.now in
    let by : (length s.args.quantities.now + 1) * records_layout.width ≡ length new = omega (arith, size) in
    rows-shifted records_layout records-lawful s.args.inverse (rows_like s.args.first s.args.first.suffix s.args.quantities.now) s.args.used part
    u.move_up.new.tail o.write_record.new.part c.write_rows.new.part (omega (arith, size, s.requires.0))
    (u.move_up.ensures ∙ ap (λ (n : ℕ). raised n s.args.used part) by) o.write_record.ensures c.write_rows.ensures
    ∙ ap (λ (n : ℕ). new ++ (take s.args.used part ++ drop (s.args.used + n) part)) size

pub shift_in_rows_spec : {M : Type 1} → statement M
shift_in_rows_spec =
    tie.close
    (tie.spec
    (λ c. search rules)
    (λ c. search rules)
    (λ c κs. search rules)
    (λ c κs. search rules)
    (λ c κs. search rules)
    (λ c. search rules)
    returns)
