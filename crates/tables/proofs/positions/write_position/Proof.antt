-- `tables::positions::write_position` meets its contract: the row with the key is written over, or the row's cells go in at the place of its key. Assumes nothing.
use native.Mathlib.Omega.{arith}
use Prim.Native.Nat.{ℕ, ◌<◌}
use mathlib.Core.Path.{ap, ◌≡◌, sym, ◌∙◌}
use mathlib.Core.Option.{none}
use lib.ListN.{length}
use borrow.Author.Rules.{rules}
use Rattle.rules.specs.Keyed.{find}
use Rattle.rules.specs.Rows.{position_key, sound_position}
use Rattle.rules.specs.Layout.{room_of, rows_of}
use Rattle.rules.specs.Tables.{positions_layout, sound_positions}
use Rattle.cells.specs.SoundTable.{SoundPositions}
use Rattle.cells.proofs.RowCells.{positions-lawful}
use Rattle.cells.proofs.SoundCells.{positions-known}
use Rattle.lookup.specs.Lookup.{found_in, place_in}
use Rattle.lookup.specs.Found.{Row, found_told}
use Rattle.lookup.proofs.TableLookup.{positions-first, table-absent}
use Rattle.tables.proofs.RowFits.{room-for-one, insertion-fits, replacement-fits}
use Rattle.tables.proofs.RowPut.{put-inserted, put-replaced}
use Rattle.tables.proofs.positions.write_position.Statement.{statement}
use Rattle.tables.proofs.positions.write_position.Tie as tie

table : (s : tie.Start) → SoundPositions s.args.cells.now
table s = positions-known s.args.cells.now s.requires.0

abbrev start : tie.After-position_cells-row → tie.Start
start c = c.before.before

-- The row with the key.
module _ (c : tie.In-Ok) where
  abbrev f : tie.After-position_cells-row
  f = c.before

  abbrev row : ℕ
  row = c.in-Ok.at

  there : Row row ≡ found_in positions_layout (position_key (start f).args.p) (start f).args.cells.now
  there = ap found_told (sym c.in-Ok.is) ∙ (start f).requires.3

-- No row with the key, the place where it belongs, and room for it.
module _ (c : tie.In-Err) where
  abbrev g : tie.After-position_cells-row
  g = c.before

  abbrev place : ℕ
  place = c.in-Err.place

  lacking : (find position_key (position_key (start g).args.p) (rows_of positions_layout (start g).args.cells.now) ≡ none)
      × (place ≡ place_in positions_layout (position_key (start g).args.p) (start g).args.cells.now)
  lacking = table-absent positions_layout position_key positions-first (start g).args.cells.now (position_key (start g).args.p) place (sym (start g).requires.3 ∙ ap found_told c.in-Err.is)

  room : length (rows_of positions_layout (start g).args.cells.now) < room_of positions_layout (start g).args.cells.now
  room = room-for-one position_key (start g).args.p (rows_of positions_layout (start g).args.cells.now) lacking.0 (start g).requires.2

replace-row-requires : tie.Need-replace_row-requires
replace-row-requires c κs =
    let a : tie.In-Ok = c.before.before in
    let f : tie.After-position_cells-row = f a in
    omega (
      arith,
      replacement-fits positions_layout positions-lawful position_key positions-first sound_position (start f).args.cells.now (table (start f))
          f.count-n.result f.count-n.ensures (position_key (start f).args.p)
          f.position_cells-row.result (start f).args.p f.position_cells-row.ensures
          (row a) (there a),
    )

insert-row-requires : tie.Need-insert_row-requires
insert-row-requires c κs =
    let a : tie.In-Err = c.before.before in
    let f : tie.After-position_cells-row = g a in
    omega (
      arith,
      insertion-fits positions_layout positions-lawful position_key positions-first sound_position (start f).args.cells.now (table (start f))
          f.count-n.result f.count-n.ensures (position_key (start f).args.p)
          f.position_cells-row.result (start f).args.p f.position_cells-row.ensures
          (omega arith) (room a) (place a) (lacking a).1,
    )

returns : tie.Need-returns-in-Ok
unfolding sound_positions
returns c =
    let a : tie.In-Ok = c.before.before.before.before in
    let f : tie.After-position_cells-row = f a in
    put-replaced positions_layout positions-lawful position_key positions-first sound_position (start f).args.cells.now (table (start f))
    (start f).args.p (start f).requires.1 f.count-n.result f.count-n.ensures
    f.position_cells-row.result f.position_cells-row.ensures
    c.replace_row.new.cells (row a) (there a) c.replace_row.ensures

returns-2 : tie.Need-returns-in-Err
unfolding sound_positions
returns-2 c =
    let a : tie.In-Err = c.before.before.before.before in
    let f : tie.After-position_cells-row = g a in
    put-inserted positions_layout positions-lawful position_key positions-first sound_position (start f).args.cells.now (table (start f))
    (start f).args.p (start f).requires.1 f.count-n.result f.count-n.ensures
    f.position_cells-row.result f.position_cells-row.ensures
    c.insert_row.new.cells (lacking a).0 (room a) (place a) (lacking a).1 c.insert_row.ensures

pub write_position_spec : {M : Type 1} → statement M
write_position_spec =
    tie.close
    (tie.spec
    (λ c κs. search rules)
    (λ c κs. search rules)
    (λ c. search rules)
    (λ c. search rules)
    replace-row-requires
    (λ c. search rules)
    (λ c. search rules)
    insert-row-requires
    (λ c. search rules)
    returns
    (λ c. search rules)
    returns-2)
