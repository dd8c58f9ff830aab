use Rattle.std.proofs.Common.{rules, ◌≡◌, true, sym, ap, ◌∙◌, pos}
use Rattle.rules.specs.Rows.{adjusted_record}
use Rattle.rules.specs.Layout.{row_at}
use Rattle.rules.specs.Tables.{records_layout, sound_record_rows}
use Rattle.rules.specs.declared.Record.{Record}
use Rattle.cells.proofs.SoundCells.{record-rows-sound, records-known}
use Rattle.tables.proofs.RowStatus.{adjusted-row-sound}
use Rattle.tables_main.proofs.Looked.{row_there, no_status}
use Rattle.tables_main.proofs.add.adjust.Goals as goal

pub read_record-r-requires : goal.read_record-r-requires
read_record-r-requires c =
    let sound : sound_record_rows c.args.cells.now ≡ true = record-rows-sound c.args.cells.now (sym c.if-not-records_sound.ensures) in
    (sound, row_there c.args.cells.now sound _ _ _ _ _ c.in-Ok.ensures)

pub set_status-requires : goal.set_status-requires
unfolding adjusted_record
set_status-requires c =
    let cells = c.args.cells.now in
    let sound : sound_record_rows cells ≡ true = record-rows-sound cells (sym c.if-not-records_sound.ensures) in
    let there = row_there cells sound _ _ _ _ _ c.in-Ok.ensures in
    let none : c.read_record-r.result.status ≡ pos 0 = search (rules, no_status) in
    let zero : (row_at records_layout cells c.in-Ok.field-0.row).status ≡ pos 0 = sym (ap (λ (r : Record). r.status) c.read_record-r.ensures) ∙ none in
    (sound, there, adjusted-row-sound cells (records-known cells sound) c.in-Ok.field-0.row there zero)
