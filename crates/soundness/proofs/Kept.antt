-- Sound books stay sound under every accepted request: rows keep rising, every row that is put is sound, and the tables fit their rooms (tests 14, 15 and 23).
-- From the facts of the plan, its growth, and tests 13 to 16 and 23. A new day keeps every row. Assumes nothing.
use mathlib.Core.Path.{◌≡◌}
use mathlib.Core.Bool.{true}
use mathlib.Core.List.{◌++◌, map}
use mathlib.Core.Option.{Option, none, some}
use Prim.Native.Nat.{◌+◌, ◌≤◌}
use lib.IntN.{ℤ, pos}
use lib.ListN.{length}
use lib.Signed.{lt_z, ◌≤ℤ◌}
use native.Mathlib.Omega.{arith}
use Rattle.rules.specs.Rows.{record_key, position_key, sound_record, sound_position}
use Rattle.rules.specs.Figures.{valid_day, last_day}
use Rattle.rules.specs.Keyed.{rising, upsert_all}
use Rattle.rules.specs.ProcessRows.{process_key, process_number, sound_process}
use Rattle.rules.specs.Refusal.{all_of, first_refusal}
use Rattle.rules.specs.Request.{Request}
use Rattle.rules.specs.Books.{Books, with_day}
use Rattle.rules.specs.Tables.{day_within, sound_days}
use Rattle.rules.specs.Plan.{Effects, Plan, booking, question, day_move, put_process, booked, plan_tests, plan_books}
use Rattle.rules.specs.declared.ProcessRow.{ProcessRow}
use Rattle.keys.proofs.Folds.{upsert_all-rises, all-upsert_all}
use Rattle.keys.proofs.Lookup.{all-upsert}
use Rattle.soundness.specs.SoundBooks.{SoundBooks, plan_on, Accepts, after}
use Rattle.soundness.proofs.Accepted.{ProcessRoom, BookingPassed, booking-passed, all_of-append}
use Rattle.soundness.proofs.Days.{today-range, rows-within, in-days, days-later}
use Rattle.soundness.proofs.BookingFacts.{ProcessFacts, BookingFacts, PlanFacts}
use Rattle.soundness.proofs.Requests.{plan-facts}
use Rattle.soundness.proofs.Growth.{facts-records-grow, facts-positions-grow, absent_process, processes-grow}

-- The process table, with the row of a step or as it was.
module _ (b : Books) (sound : SoundBooks b) where
  process-rises : (o : Option ProcessRow) → ProcessFacts b.processes o → rising process_number (put_process o b.processes) ≡ true
  unfolding put_process
  process-rises none f = sound.processes-rise
  process-rises (some p) f = f.1

  process-sound : (o : Option ProcessRow) → ProcessFacts b.processes o → all_of (map sound_process (put_process o b.processes)) ≡ true
  unfolding put_process
  process-sound none f = sound.processes-sound
  process-sound (some p) f = all-upsert process_key sound_process p b.processes f.0 sound.processes-sound

  pub process-fits : (o : Option ProcessRow) → ProcessRoom b o → length b.processes + absent_process b.processes o ≤ b.processes_room
  process-fits none room = omega (arith, sound.processes-fit)
  process-fits (some p) room = room

-- The current day stays, and every row that is put is within it.
booked-days : (b : Books) → SoundBooks b → (e : Effects) → BookingFacts b e → sound_days b.day (upsert_all record_key (e.changed ++ e.added) b.records) ≡ true
booked-days b sound e f =
    let today : (pos 0 ≤ℤ b.day) × (b.day ≤ℤ pos last_day) = today-range b.day b.records sound.days-sound in
    in-days b.day (upsert_all record_key (e.changed ++ e.added) b.records) today.0 today.1
    (all-upsert_all record_key (day_within b.day) (e.changed ++ e.added) b.records
    (all_of-append (day_within b.day) e.changed e.added f.changed-days f.added-days) (rows-within b.day b.records sound.days-sound))

-- The books after effects with their facts, where tests 13 to 16 do not apply.
pub booked-sound : (b : Books) → SoundBooks b → (e : Effects) → BookingFacts b e → BookingPassed b e → SoundBooks (booked e b)
unfolding booked
booked-sound b sound e f p = record {
  records-rise = upsert_all-rises record_key (e.changed ++ e.added) b.records sound.records-rise;
  records-sound = all-upsert_all record_key sound_record (e.changed ++ e.added) b.records
      (all_of-append sound_record e.changed e.added f.changed-sound f.added-sound) sound.records-sound;
  records-fit = omega (arith, facts-records-grow b sound e f, p.records-room);
  days-sound = booked-days b sound e f;
  positions-rise = upsert_all-rises position_key e.positions b.positions sound.positions-rise;
  positions-sound = all-upsert_all position_key sound_position e.positions b.positions p.positions-sound sound.positions-sound;
  positions-fit = omega (arith, facts-positions-grow b sound e f, p.positions-room);
  processes-rise = process-rises b sound e.process f.process-kept;
  processes-sound = process-sound b sound e.process f.process-kept;
  processes-fit = omega (arith, processes-grow b sound e, process-fits b sound e.process p.process-room);
}

-- Books on a valid later day.
pub moved-sound : (b : Books) → SoundBooks b → (day : ℤ) → valid_day day ≡ true → lt_z b.day day ≡ true → SoundBooks (with_day day b)
moved-sound b sound day valid later = record {
  records-rise = sound.records-rise;
  records-sound = sound.records-sound;
  records-fit = sound.records-fit;
  days-sound = days-later b.day day b.records valid later sound.days-sound;
  positions-rise = sound.positions-rise;
  positions-sound = sound.positions-sound;
  positions-fit = sound.positions-fit;
  processes-rise = sound.processes-rise;
  processes-sound = sound.processes-sound;
  processes-fit = sound.processes-fit;
}

pub kept : (b : Books) → SoundBooks b → (r : Request) → Accepts b r → SoundBooks (after b r)
unfolding plan_books
kept b sound r a = go (plan_on b r) (plan-facts b sound r a) a
  where
    go : (plan : Plan) → PlanFacts b plan → first_refusal (plan_tests b plan) ≡ none → SoundBooks (plan_books plan b)
    go (booking tests e) f t = booked-sound b sound e f (booking-passed b tests e t)
    go (question tests reply) f t = sound
    go (day_move tests day) f t = moved-sound b sound day f.0 f.1
