-- `shifter::insert_row` meets its contract: the part from the row's place on is lent, shifted and handed back, and the count is set.
-- The bound on the length of the slice bounds every product. Assumes nothing.
use mathlib.Core.Path.{◌≡◌}
use Prim.Native.Nat.{ℕ, ◌+◌, ◌-◌, ◌*◌}
use native.Mathlib.Omega.{arith}
use lib.ListN.{length, length-take, length-drop}
use borrow.Author.Rules.{rules}
use Rattle.shifter.proofs.Placed.{rows_split, raised-cell, insertion}
use Rattle.shifter.proofs.insert_row.Statement.{statement}
use Rattle.shifter.proofs.insert_row.Tie as tie

-- The cells up to the row's place, and of the rows that move up.
cells-before : (s : tie.Start) → s.args.count * length s.args.row.now ≡ s.args.place * length s.args.row.now + (s.args.count - s.args.place) * length s.args.row.now
cells-before s = rows_split (length s.args.row.now) s.args.count s.args.place s.requires.1

shift-in-requires : tie.Need-shift_in-requires
shift-in-requires c κs = simp (length-take, length-drop) (omega (arith, cells-before c.before))

returns : tie.Need-returns
returns c =
    let s : tie.Start = c.before.before.before in
    let width : ℕ = length s.args.row.now in
    insertion s.args.header width s.args.cells.now s.args.row.now c.shift_in.new.tail 1 s.args.count s.args.place _
    (raised-cell s.args.count 1 (omega (arith, s.requires.3))) s.requires.0 s.requires.1 (omega arith) (omega (arith, s.requires.2)) c.shift_in.ensures

pub insert_row_spec : {M : Type 1} → statement M
insert_row_spec =
    tie.close
    (tie.spec
    (λ c. omega (arith, cells-before c))
    (λ c. omega (arith, cells-before c))
    (λ c. search rules)
    (λ c. omega (arith, cells-before c))
    (λ c. omega (arith, cells-before c))
    (λ c. omega (arith, cells-before c))
    (λ c. omega (arith, cells-before c))
    (λ c. search rules)
    shift-in-requires
    (λ c. search rules)
    (λ c. search rules)
    (λ c. search rules)
    (λ c. search rules)
    returns)
