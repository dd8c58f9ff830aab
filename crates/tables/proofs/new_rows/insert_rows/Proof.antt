-- `tables::new_rows::insert_rows` meets its contract: the part from the rows' place on is lent to the shifter and handed back, and the count is set. Assumes nothing.
use Prim.Native.Nat.{ℕ, suc, ◌+◌, ◌-◌, ◌*◌, ◌≤◌}
use native.Mathlib.Omega.{arith}
use mathlib.Core.Path.{◌≡◌, sym, ap, subst, ◌∙◌}
use mathlib.Core.List.{List}
use borrow.Author.Rules.{rules}
use lib.IntN.{ℤ}
use lib.ListN.{length, length-take, length-drop}
use mir.Syntax.{w64}
use mir.Val.{to_z}
use Rattle.rules.specs.Layout.{encode, start_of}
use Rattle.rules.specs.Tables.{record_cells, records_layout}
use Rattle.shifter.specs.Insertion.{inserted}
use Rattle.shifter.proofs.Placed.{rows_split, raised-cell, insertion}
use Rattle.tables.specs.NewRows.{new_rows}
use Rattle.tables.proofs.NewRows.{suffix-range, news-cells, news-fit, news-inserted}
use Rattle.tables.proofs.new_rows.insert_rows.Statement.{statement}
use Rattle.tables.proofs.new_rows.insert_rows.Tie as tie

module _ (s : tie.Start) where
  abbrev added : ℕ
  added = suc (length s.args.quantities.now)

  abbrev new : List ℤ
  new = encode record_cells (new_rows s.args.inverse s.args.first s.args.quantities.now)

-- The place and the cells of all rows, by the count.
module _ (c : tie.After-count-n) where
  abbrev s : tie.Start
  s = c.before

  abbrev n : ℕ
  n = c.count-n.result

  fit : (s.args.place ≤ n) × (start_of records_layout (n + added s) ≤ length s.args.cells.now) × (n + added s ≤ 4096)
  fit =
      subst (λ (m : ℕ). (s.args.place ≤ m) × (start_of records_layout (m + added s) ≤ length s.args.cells.now) × (m + added s ≤ 4096)) (sym c.count-n.ensures)
      (news-fit s.args.cells.now s.args.place s.args.inverse s.args.first s.args.quantities.now s.requires)

  split : n * records_layout.width ≡ s.args.place * records_layout.width + (n - s.args.place) * records_layout.width
  split = rows_split records_layout.width n s.args.place fit.0

shift-in-rows-requires : tie.Need-shift_in_rows-requires
shift-in-rows-requires c κs =
    let a : tie.After-count-n = c.before in
    let range = suffix-range (s a).args.cells.now (s a).args.place (s a).args.inverse (s a).args.first (s a).args.quantities.now (s a).requires in
    (simp (length-take, length-drop) (omega (arith, fit a, split a)), range.0, range.1, range.2)

returns : tie.Need-returns
returns c =
    let a : tie.After-count-n = c.before.before.before in
    let s : tie.Start = s a in
    let size : length (new s) ≡ added s * records_layout.width = news-cells s.args.inverse s.args.first s.args.quantities.now in
    let e : n a + length s.args.quantities.now + 1 ≡ n a + added s = omega arith in
    insertion records_layout.header records_layout.width s.args.cells.now (new s) c.shift_in_rows.new.part (added s) (n a) s.args.place _
    (ap (to_z w64) e ∙ raised-cell (n a) (added s) (fit a).2) (omega arith) (fit a).0 size (fit a).1
    (rw size c.shift_in_rows.ensures)
    ∙ ap (λ (m : ℕ). inserted records_layout.header records_layout.width (new s) (added s) m s.args.place s.args.cells.now) a.count-n.ensures
    ∙ news-inserted s.args.cells.now s.args.place s.args.inverse s.args.first s.args.quantities.now s.requires

pub insert_rows_spec : {M : Type 1} → statement M
insert_rows_spec =
    tie.close
    (tie.spec
    (λ c κs. c.requires.sound)
    (λ c. omega (arith, fit c))
    (λ c. omega (arith, fit c))
    (λ c. omega (arith, fit c))
    (λ c. omega (arith, fit c))
    (λ c. omega (arith, fit c))
    (λ c. omega (arith, fit c))
    (λ c. omega (arith, fit c))
    (λ c. search rules)
    shift-in-rows-requires
    (λ c. omega (arith, fit c.before.before.before))
    (λ c. omega (arith, fit c.before.before.before))
    (λ c. omega (arith, fit c.before.before.before))
    (λ c. omega (arith, fit c.before.before.before))
    (λ c. search rules)
    returns)
