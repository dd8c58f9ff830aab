-- `lookup::before_row` meets its contract: each way through it is one of the laws of `below` by figures, or `comes_before`. Assumes nothing.
use Prim.Native.Nat.{◌+◌}
use mathlib.Core.Path.{sym, ap}
use borrow.Author.Rules.{rules, sfits_of}
use lib.IntN.{ℤ, pos}
use lib.ListN.{get_or}
use mir.Facts.{to_z-of_z}
use mir.Syntax.{w64}
use mir.Val.{SFits, of_z}
use Rattle.integers.proofs.Bits.{of_z-inj}
use Rattle.lookup.proofs.KeyTests.{below-by-major, not-below-by-major, below-by-minor}
use Rattle.lookup.proofs.before_row.Statement.{statement}
use Rattle.lookup.proofs.before_row.Tie as tie

-- The row's key.
module _ (s : tie.Start) where
  abbrev first : ℤ
  first = get_or s.args.cells.now s.args.at (pos 0)

  abbrev second : ℤ
  second = get_or s.args.cells.now (s.args.at + 1) (pos 0)

first_fits : (c : tie.After-first-1) → SFits w64 (first c.before)
first_fits c = sfits_of c.first-1.given

returns : tie.Need-returns-then-major-first
returns c =
    let f : tie.After-first-1 = c.before.before in
    let s : tie.Start = f.before in
    sym (below-by-major s.args.major s.args.minor (first s) (second s) (simp (to_z-of_z s.ranges.major, to_z-of_z (first_fits f)) at c.if-major-first.true))

returns-2 : tie.Need-returns-then-major-first-2
returns-2 c =
    let f : tie.After-first-1 = c.before.before.before in
    let s : tie.Start = f.before in
    sym
    (not-below-by-major s.args.major s.args.minor (first s) (second s)
    (simp (to_z-of_z s.ranges.major, to_z-of_z (first_fits f)) at c.if-major-first.false)
    (λ e. c.if-major-first-2.true (ap (of_z w64) e)))

returns-3 : tie.Need-returns-then-few
returns-3 c =
    let f : tie.After-first-1 = c.before.before.before.before in
    let s : tie.Start = f.before in
    let g : SFits w64 (second s) = sfits_of c.result-1.given in
    simp (to_z-of_z s.ranges.minor, to_z-of_z g)
    (sym (below-by-minor s.args.major s.args.minor (first s) (second s) (of_z-inj s.ranges.major (first_fits f) c.if-major-first-2.false)))

returns-4 : tie.Need-returns
returns-4 c =
    let f : tie.After-first-1 = c.before.before.before in
    let s : tie.Start = f.before in
    let g : SFits w64 (second s) = sfits_of c.comes_before-arg-1.given in
    simp (to_z-of_z s.ranges.major, to_z-of_z s.ranges.minor, to_z-of_z (first_fits f), to_z-of_z g) at c.comes_before.ensures

pub before_row_spec : {M : Type 1} → statement M
before_row_spec =
    tie.close
    (tie.spec
    (λ c. search rules)
    (λ c. search rules)
    returns
    returns-2
    (λ c. search rules)
    (λ c. search rules)
    (λ c. search rules)
    returns-3
    (λ c. search rules)
    (λ c. search rules)
    (λ c. search rules)
    (λ c κs. search rules)
    returns-4)
