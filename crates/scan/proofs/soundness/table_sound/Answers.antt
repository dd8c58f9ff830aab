-- With a sound count the rows decide, each read from its cells.
use Rattle.std.proofs.Common.{◌≡◌, true, w64, refl, sym, ◌∙◌}
use mir.Facts.{to_z-of_z}
use Rattle.rules.specs.Layout.{count_is_sound}
use Rattle.rules.specs.Tables.{sound_table}
use Rattle.cells.proofs.Count.{sound-rows-cells, rows_of-decode}
use Rattle.scan.proofs.soundness.table_sound.Goals as goal

pub rows_rise_sound-requires : goal.rows_rise_sound-requires
rows_rise_sound-requires g c = rw c.count.ensures (sound-rows-cells g.R.Row.layout g.met.R.Row.lawful c.args.cells.now (sym c.count_sound.ensures ∙ c.if-count_sound.true))

pub returns-then-count_sound : goal.returns-then-count_sound
unfolding sound_table
returns-then-count_sound g c =
    let l = g.R.Row.layout in
    let cells = c.args.cells.now in
    let sound : count_is_sound l cells ≡ true = sym c.count_sound.ensures ∙ c.if-count_sound.true in
    rw (sound, rows_of-decode l cells) (rw (to_z-of_z {w = w64} c.ranges.today, c.count.ensures) at c.rows_rise_sound.ensures)

pub returns-else-count_sound : goal.returns-else-count_sound
unfolding sound_table
returns-else-count_sound g c = rw (← c.count_sound.ensures, c.if-count_sound.false) refl
