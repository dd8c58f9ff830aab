-- `tables::records::look_up` meets its contract: the lookup over as many rows as the count says. Assumes nothing.
use mathlib.Core.Path.{◌≡◌, ap, ◌∙◌}
use Prim.Native.Nat.{ℕ}
use mir.Facts.{to_z-of_z}
use Rattle.rules.specs.Rows.{key_of, record_key, sound_record}
use Rattle.rules.specs.Tables.{records_layout}
use Rattle.cells.proofs.Count.{length-rows_of}
use Rattle.cells.proofs.SoundCells.{records-known}
use Rattle.lookup.specs.Sought.{sought_told}
use Rattle.lookup.specs.Lookup.{row_sought}
use Rattle.lookup.proofs.TableLookup.{records-first, table-searchable}
use borrow.Author.Rules.{rules}
use Rattle.tables.proofs.records.look_up.Statement.{statement}
use Rattle.tables.proofs.records.look_up.Tie as tie

count-requires : tie.Need-count-requires
count-requires c κs = search rules

look-up-requires : tie.Need-look_up-requires
look-up-requires c κs =
    table-searchable records_layout record_key records-first c.args.cells.now sound_record (records-known c.args.cells.now c.requires) c.count.result c.count.ensures

returns : tie.Need-returns
returns c =
    let s : tie.Start = c.before.before in
    let answer : sought_told c.look_up.result ≡ row_sought records_layout.header records_layout.width (key_of s.args.id s.args.suffix) c.count.result s.args.cells.now = simp (to_z-of_z s.ranges.id, to_z-of_z s.ranges.suffix) at c.look_up.ensures in
    answer ∙ ap (λ (n : ℕ). row_sought records_layout.header records_layout.width (key_of s.args.id s.args.suffix) n s.args.cells.now) (c.count.ensures ∙ length-rows_of records_layout s.args.cells.now)

pub look_up_spec : {M : Type 1} → statement M
look_up_spec = tie.close (tie.spec count-requires look-up-requires returns)
