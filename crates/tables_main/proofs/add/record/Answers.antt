use Rattle.std.proofs.Common.{rules, ◌≡◌, ◌<◌, length, true, sym, arith}
use Rattle.rules.specs.Layout.{room_of, rows_of}
use Rattle.rules.specs.Tables.{records_layout, sound_record_rows}
use Rattle.cells.proofs.SoundCells.{record-rows-sound}
use Rattle.lookup.specs.Lookup.{record_sought}
use Rattle.lookup.specs.Sought as Sought
use Rattle.lookup.specs.Greatest.{greatest_told}
use Rattle.tables_main.proofs.Looked.{lacks, read_again}
use Rattle.tables_main.proofs.add.record.Goals as goal

pub insert_record-requires : goal.insert_record-requires
insert_record-requires c =
    let cells = c.args.cells.now in
    let new = c.original-r.result in
    let sound : sound_record_rows cells ≡ true = record-rows-sound cells (sym c.if-not-records_sound.ensures) in
    let found : Sought.Absent c.in-Err.field-0.place (greatest_told c.in-Err.field-0.greatest) ≡ record_sought cells new.id new.suffix = search (rules, read_again) in
    let room : length (rows_of records_layout cells) < room_of records_layout cells = omega (arith, c.if-room-count.false, c.count.ensures, c.room.ensures) in
    let absent = lacks cells sound new.id new.suffix _ _ found in
    (sound, sym c.if-not-sound_record.ensures, absent.absent, room, absent.place_is)
