-- `lookup::find_by_distance` meets its contract: a row that has the key is the row with the key; otherwise it is searched. Assumes nothing.
use Prim.Native.Nat.{◌+◌, ◌*◌, ◌<◌}
use mathlib.Core.Path.{◌≡◌, sym, ◌∙◌}
use native.Mathlib.Omega.{arith}
use borrow.Author.Rules.{rules, sfits_of}
use lib.IntN.{pos}
use lib.ListN.{length, get_or}
use mir.Facts.{to_z-of_z}
use mir.Syntax.{w64}
use mir.Val.{SFits}
use Rattle.rules.specs.Keyed.{Key, same}
use Rattle.rules.specs.Rows.{key_of}
use Rattle.lookup.specs.Lookup.{key_at}
use Rattle.lookup.proofs.Halving.{row_within}
use Rattle.lookup.proofs.RowBefore.{found_at}
use Rattle.lookup.proofs.find_by_distance.Statement.{statement}
use Rattle.lookup.proofs.find_by_distance.Tie as tie

abbrev sought : tie.Start → Key
sought s = key_of s.args.major s.args.minor

-- The key of the row looked at lies within the table.
within : (c : tie.After-row_by_distance-row) → let a = c.args in a.header + c.row_by_distance-row.result * a.width + 1 < length a.cells.now
within c = row_within c.args.header c.args.width c.args.end c.args.cells.now c.requires.0 c.row_by_distance-row.result c.row_by_distance-row.ensures

-- The test of its key, over its cells.
module _ (c : tie.After-key_same) where
  abbrev r : tie.After-row_by_distance-row
  r = c.before.before.before

  abbrev s : tie.Start
  s = r.before

  tested : c.key_same.result ≡ same (key_at s.args.cells.now (s.args.header + r.row_by_distance-row.result * s.args.width)) (sought s)
  tested =
      let f : SFits w64 (get_or s.args.cells.now (s.args.header + r.row_by_distance-row.result * s.args.width) (pos 0)) = sfits_of c.key_same-arg-1.given in
      let g : SFits w64 (get_or s.args.cells.now (s.args.header + r.row_by_distance-row.result * s.args.width + 1) (pos 0)) = sfits_of c.key_same-arg-2-1.given in
      simp (to_z-of_z f, to_z-of_z g, to_z-of_z s.ranges.major, to_z-of_z s.ranges.minor) at c.key_same.ensures

returns : tie.Need-returns-then-key_same
returns c =
    let k : tie.After-key_same = c.before in
    let a = (s k).args in
    sym (found_at a.cells.now a.header a.width a.end (s k).requires.0.keys-rise (sought (s k)) (r k).row_by_distance-row.result (r k).row_by_distance-row.ensures (sym (tested k) ∙ c.if-key_same.true))

returns-2 : tie.Need-returns
returns-2 c =
    let s : tie.Start = s c.before.before in
    simp (to_z-of_z s.ranges.major, to_z-of_z s.ranges.minor) at c.find_row.ensures

pub find_by_distance_spec : {M : Type 1} → statement M
find_by_distance_spec =
    tie.close
    (tie.spec
    (λ c κs. search rules)
    (λ c. omega (arith, within c))
    (λ c. omega (arith, within c))
    (λ c. omega (arith, within c))
    (λ c. omega (arith, within c))
    (λ c. omega (arith, within c.before))
    (λ c. omega (arith, within c.before))
    (λ c. omega (arith, within c.before))
    (λ c κs. search rules)
    returns
    (λ c κs. search rules)
    returns-2)
