-- Each way out of a turn by its law of `RowsPassed`; the day is read back from its bits at the returns.
use Rattle.std.proofs.Common.{arith, w64}
use mir.Facts.{to_z-of_z}
use Rattle.scan.proofs.RowsScan.{none_passed, all_passed, last_passes, row-fails, not-rising, row-passes}
use Rattle.scan.proofs.soundness.rows_rise_sound.Goals as goal

pub loop-row-init : goal.loop-row-init
loop-row-init g c = none_passed

pub returns-then-not-sound_on : goal.returns-then-not-sound_on
returns-then-not-sound_on g c = rw (to_z-of_z {w = w64} c.ranges.today) at (row-fails c.loop-row.invariant c.loop-row-test.true (cc))

pub returns-then-row-count : goal.returns-then-row-count
returns-then-row-count g c = rw (to_z-of_z {w = w64} c.ranges.today) at (last_passes c.loop-row.invariant (omega arith) (cc))

pub returns-then-not-comes_before : goal.returns-then-not-comes_before
returns-then-not-comes_before g c = rw (to_z-of_z {w = w64} c.ranges.today) at (not-rising c.loop-row.invariant (omega arith) (cc))

pub loop-row-preserved : goal.loop-row-preserved
loop-row-preserved g c = row-passes c.loop-row.invariant (omega arith) (cc) (cc)

pub returns : goal.returns
returns g c = rw (to_z-of_z {w = w64} c.ranges.today) at (all_passed c.loop-row.invariant c.loop-row-test.false)
