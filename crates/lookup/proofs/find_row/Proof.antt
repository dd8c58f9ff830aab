-- `lookup::find_row` meets its contract: the row before the place is the row with the key, or there is none. Assumes nothing.
use Prim.Native.Nat.{ℕ, suc, ◌+◌, ◌-◌, ◌*◌, ◌<◌}
use mathlib.Core.Path.{◌≡◌, sym, ap, ◌∙◌}
use native.Mathlib.Omega.{arith}
use borrow.Author.Rules.{rules, sfits_of}
use lib.IntN.{pos}
use lib.ListN.{length, get_or}
use mir.Facts.{to_z-of_z}
use mir.Syntax.{w64}
use mir.Val.{SFits}
use Rattle.rules.specs.Keyed.{Key, same}
use Rattle.rules.specs.Rows.{key_of}
use Rattle.lookup.specs.Lookup.{key_at, row_place}
use Rattle.lookup.specs.Found as Found
use Rattle.lookup.proofs.Halving.{row_within, place-at-most}
use Rattle.lookup.proofs.RowBefore.{found_at, absent-before, absent-first}
use Rattle.lookup.proofs.find_row.Statement.{statement}
use Rattle.lookup.proofs.find_row.Tie as tie

abbrev sought : tie.Start → Key
sought s = key_of s.args.major s.args.minor

placed : (c : tie.After-place_of-place) → c.place_of-place.result ≡ row_place c.args.header c.args.width (sought c.before) c.args.count c.args.cells.now
placed c = simp (to_z-of_z c.ranges.major, to_z-of_z c.ranges.minor) at c.place_of-place.ensures

-- The row before the place.
module _ (c : tie.Else-place-eq0) where
  abbrev start : tie.Start
  start = c.before.before

  abbrev row : ℕ
  row = c.place_of-place.result - 1

  row_before : row_place start.args.header start.args.width (sought start) start.args.count start.args.cells.now ≡ suc row
  row_before = omega (arith, placed c.before)

  one_of : row < start.args.count
  one_of = omega (arith, row_before, place-at-most start.args.cells.now start.args.header start.args.width start.args.count (sought start))

  within : start.args.header + row * start.args.width + 1 < length start.args.cells.now
  within = row_within start.args.header start.args.width start.args.count start.args.cells.now start.requires row one_of

place-of-requires : tie.Need-place_of-place-requires
place-of-requires c κs = search rules

returns : tie.Need-returns-then-place-eq0
returns c =
    let s : tie.Start = c.before.before in
    ap Found.Absent (placed c.before)
    ∙ sym (absent-first s.args.cells.now s.args.header s.args.width s.args.count s.requires.keys-rise (sought s) (sym (placed c.before) ∙ c.if-place-eq0.true))

sub_row : tie.Need-overflow_sub-row
sub_row c = search rules

mul_at : tie.Need-overflow_mul-at
mul_at c = omega (arith, within c)

add_at : tie.Need-overflow_add-at
add_at c = omega (arith, within c)

mul-key-same : tie.Need-offset_bounds-cells-at
mul-key-same c = omega (arith, within c)

shared-slice-copy-out-key-same : tie.Need-bounds-cells-at
shared-slice-copy-out-key-same c = omega (arith, within c)

add-key-same : tie.Need-overflow_add-at-2
add-key-same c = omega (arith, within c.before)

mul-key-same-2 : tie.Need-offset_bounds-cells-at-2
mul-key-same-2 c = omega (arith, within c.before)

shared-slice-copy-out-key-same-2 : tie.Need-bounds-cells-at-2
shared-slice-copy-out-key-same-2 c = omega (arith, within c.before)

key-same-requires : tie.Need-key_same-requires
key-same-requires c κs = search rules

-- The test of its key, over its cells.
module _ (c : tie.After-key_same) where
  abbrev there : tie.Else-place-eq0
  there = c.before.before.before

  tested : c.key_same.result ≡ same (key_at (start there).args.cells.now ((start there).args.header + row there * (start there).args.width)) (sought (start there))
  tested =
      let f : SFits w64 (get_or (start there).args.cells.now ((start there).args.header + row there * (start there).args.width) (pos 0)) = sfits_of c.key_same-arg-1.given in
      let g : SFits w64 (get_or (start there).args.cells.now ((start there).args.header + row there * (start there).args.width + 1) (pos 0)) = sfits_of c.key_same-arg-2-1.given in
      simp (to_z-of_z f, to_z-of_z g, to_z-of_z (start there).ranges.major, to_z-of_z (start there).ranges.minor) at c.key_same.ensures

returns-2 : tie.Need-returns-then-key_same
returns-2 c =
    let e : tie.Else-place-eq0 = there c.before in
    let s : tie.Start = start e in
    sym (found_at s.args.cells.now s.args.header s.args.width s.args.count s.requires.keys-rise (sought s) (row e) (one_of e) (sym (tested c.before) ∙ c.if-key_same.true))

returns-3 : tie.Need-returns-else-key_same
returns-3 c =
    let e : tie.Else-place-eq0 = there c.before in
    let s : tie.Start = start e in
    ap Found.Absent (placed e.before)
    ∙ sym (absent-before s.args.cells.now s.args.header s.args.width s.args.count s.requires.keys-rise (sought s) (row e) (row_before e) (sym (tested c.before) ∙ c.if-key_same.false))

pub find_row_spec : {M : Type 1} → statement M
find_row_spec =
    tie.close
    (tie.spec
    place-of-requires
    returns
    sub_row
    mul_at
    add_at
    mul-key-same
    shared-slice-copy-out-key-same
    add-key-same
    mul-key-same-2
    shared-slice-copy-out-key-same-2
    key-same-requires
    returns-2
    returns-3)
