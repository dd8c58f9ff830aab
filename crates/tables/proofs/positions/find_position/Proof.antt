-- `tables::positions::find_position` meets its contract: the lookup over as many rows as the count says. Assumes nothing.
use mathlib.Core.Path.{◌≡◌, ap, ◌∙◌}
use Prim.Native.Nat.{ℕ}
use mir.Facts.{to_z-of_z}
use Rattle.rules.specs.Rows.{key_of, position_key, sound_position}
use Rattle.rules.specs.Tables.{positions_layout}
use Rattle.cells.proofs.Count.{length-rows_of}
use Rattle.cells.proofs.SoundCells.{positions-known}
use Rattle.lookup.specs.Found.{found_told}
use Rattle.lookup.specs.Lookup.{row_found}
use Rattle.lookup.proofs.TableLookup.{positions-first, table-searchable}
use borrow.Author.Rules.{rules}
use Rattle.tables.proofs.positions.find_position.Statement.{statement}
use Rattle.tables.proofs.positions.find_position.Tie as tie

count-requires : tie.Need-count-requires
count-requires c κs = search rules

find-row-requires : tie.Need-find_row-requires
find-row-requires c κs =
    table-searchable positions_layout position_key positions-first c.args.cells.now sound_position (positions-known c.args.cells.now c.requires) c.count.result c.count.ensures

returns : tie.Need-returns
returns c =
    let s : tie.Start = c.before.before in
    let answer : found_told c.find_row.result ≡ row_found positions_layout.header positions_layout.width (key_of s.args.account s.args.series) c.count.result s.args.cells.now = simp (to_z-of_z s.ranges.account, to_z-of_z s.ranges.series) at c.find_row.ensures in
    answer ∙ ap (λ (n : ℕ). row_found positions_layout.header positions_layout.width (key_of s.args.account s.args.series) n s.args.cells.now) (c.count.ensures ∙ length-rows_of positions_layout s.args.cells.now)

pub find_position_spec : {M : Type 1} → statement M
find_position_spec = tie.close (tie.spec count-requires find-row-requires returns)
