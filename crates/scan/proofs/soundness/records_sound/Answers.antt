-- There is a cell with the current day, it is in range, and each row is asked with it.
use Rattle.std.proofs.Common.{◌≡◌, true, false, rules, arith, slice_index_or, pos, to_z, of_z, w64, sym, ◌∙◌, length}
use borrow.Author.Tests.{ltb-true}
use Rattle.integers.specs.Order.{in_range}
use Rattle.rules.specs.Figures.{last_day}
use Rattle.rules.specs.Tables.{current_day}
use Rattle.scan.proofs.DayScan.{as-one-table, no-day, day-out-of-range}
use Rattle.scan.proofs.soundness.records_sound.Goals as goal
use Rattle.scan.proofs.soundness.records_sound.Goals.{then-cells-gt-DAY_CELL, else-cells-gt-DAY_CELL}

pub returns-then-in_range : goal.returns-then-in_range
returns-then-in_range c =
    let cells = c.args.cells.now in
    let day : to_z w64 (of_z w64 (slice_index_or cells 1 (pos 0))) ≡ slice_index_or cells 1 (pos 0) = search rules in
    elim c.if-cells-gt-DAY_CELL.branch [
      | then-cells-gt-DAY_CELL w ↦
          let within : in_range (pos 0) (pos last_day) (current_day cells) ≡ true = sym (rw day at w.in_range.ensures) ∙ sym w.value-is ∙ c.if-in_range.true in
          rw day at c.table_sound.ensures ∙ as-one-table cells within
      | else-cells-gt-DAY_CELL w ↦ absurd (omega (arith, ltb-true 1 (length cells) (sym w.value-is ∙ c.if-in_range.true)))
    ]

pub returns-else-in_range : goal.returns-else-in_range
returns-else-in_range c =
    let cells = c.args.cells.now in
    elim c.if-cells-gt-DAY_CELL.branch [
      | then-cells-gt-DAY_CELL w ↦
          let day : to_z w64 (of_z w64 (slice_index_or cells 1 (pos 0))) ≡ slice_index_or cells 1 (pos 0) = search rules in
          let beyond : in_range (pos 0) (pos last_day) (current_day cells) ≡ false = sym (rw day at w.in_range.ensures) ∙ sym w.value-is ∙ c.if-in_range.false in
          c.if-in_range.false ∙ day-out-of-range cells beyond
      | else-cells-gt-DAY_CELL w ↦ c.if-in_range.false ∙ no-day cells (omega arith)
    ]
