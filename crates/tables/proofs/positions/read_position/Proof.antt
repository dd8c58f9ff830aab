-- `tables::positions::read_position` meets its contract: the row that the lookup found is read, and an absent one reads as zeros. Assumes nothing.
use native.Mathlib.Omega.{arith}
use native.Mathlib.Nat.{mul-le-mul_right}
use Prim.Native.Nat.{suc, ◌≤◌, ◌<◌}
use mathlib.Core.Path.{ap, ◌≡◌, sym, ◌∙◌}
use lib.ListN.{length}
use mir.Facts.{to_z-of_z}
use borrow.Author.Rules.{rules}
use Rattle.rules.specs.Rows.{zero_position}
use Rattle.rules.specs.Layout.{start_of, rows_of}
use Rattle.rules.specs.Tables.{positions_layout}
use Rattle.cells.proofs.SoundCells.{positions-known}
use Rattle.lookup.specs.Lookup.{position_found}
use Rattle.lookup.specs.Found.{Row, found_told}
use Rattle.lookup.proofs.TableLookup.{position-found, position-read, position-zeros}
use Rattle.tables.proofs.positions.read_position.Statement.{statement}
use Rattle.tables.proofs.positions.read_position.Tie as tie

-- The row that the lookup found.
module _ (c : tie.In-Ok) where
  abbrev s : tie.Start
  s = c.before

  found : position_found s.args.cells.now s.args.account s.args.series ≡ Row c.in-Ok.row
  found = sym s.requires.1 ∙ ap found_told c.in-Ok.is

  within : start_of positions_layout (suc c.in-Ok.row) ≤ length s.args.cells.now
  within =
      let below : c.in-Ok.row < length (rows_of positions_layout s.args.cells.now)
      = (position-found s.args.cells.now s.args.account s.args.series c.in-Ok.row found).0 in
      omega (arith, (positions-known s.args.cells.now s.requires.0).rows-within, mul-le-mul_right positions_layout.width below)

enum-known-found : tie.Need-enum_known-found
enum-known-found c = search rules

mul-position-at : tie.Need-overflow_mul-row
mul-position-at c = omega (arith, within c)

add-position-at : tie.Need-overflow_add-row
add-position-at c = omega (arith, within c)

position-at-requires : tie.Need-position_at-requires
position-at-requires c κs = omega (arith, within c)

enum_told : tie.Need-enum_told-1
enum_told c = search rules

returns : tie.Need-returns-in-Ok
returns c =
    let s : tie.Start = c.before.before in
    c.position_at.ensures ∙ sym (position-read s.args.cells.now s.args.account s.args.series c.in-Ok.row (found c.before))

returns-2 : tie.Need-returns-in-Err
unfolding zero_position
returns-2 c =
    let s : tie.Start = c.before in
    simp (to_z-of_z s.ranges.account, to_z-of_z s.ranges.series)
    (sym (position-zeros s.args.cells.now s.args.account s.args.series _ (sym s.requires.1 ∙ ap found_told c.in-Err.is)))

pub read_position_spec : {M : Type 1} → statement M
read_position_spec =
    tie.close
    (tie.spec
    enum-known-found
    mul-position-at
    add-position-at
    position-at-requires
    enum_told
    returns
    returns-2)
