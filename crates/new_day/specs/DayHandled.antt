-- What the call of a new day on a sound records table promises: beside any other tables the answer is the rules', and the records are sound again.
use Rattle.std.specs.Prelude.{◌≡◌, true, List, ℤ}
use Rattle.rules.specs.Request.{new_day}
use Rattle.rules.specs.Tables.{all_tables, sound_records}
use Rattle.rules.specs.Handle.{handle, answered_by}
use Rattle.rules.specs.declared.Reply.{Reply}

-- Of the reply, and of the cells of the records before and after.
pub record DayHandled (before : List ℤ) (day : ℤ) (reply : Reply) (after : List ℤ) : Type 0 where
  pub handled : (positions processes : List ℤ) → answered_by reply (all_tables after positions processes) ≡ handle (all_tables before positions processes) (new_day day)
  pub records-sound : sound_records after ≡ true
