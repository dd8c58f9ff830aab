-- Of all tests from 3 on only the room tests, 14, 15 and 23, look at the books beside the plan. So a plan that is accepted on some books is accepted on any others with
-- room for its rows. Assumes nothing.
use Prim.Native.Nat.{◌+◌, ◌≤◌}
use mathlib.Core.Path.{◌≡◌, ap}
use mathlib.Core.Bool.{not}
use mathlib.Core.List.{[], ◌∷◌, map}
use mathlib.Core.Option.{Option, none, some}
use lib.Dec.{ltb}
use lib.IntN.{pos}
use lib.ListN.{length}
use native.Mathlib.Omega.{arith}
use borrow.Author.Tests.{le-ltb}
use Rattle.rules.specs.Keyed.{absent_from}
use Rattle.rules.specs.Rows.{position_key, sound_position}
use Rattle.rules.specs.ProcessRows.{process_key}
use Rattle.rules.specs.Refusal.{any_of, all_of, first_refusal}
use Rattle.rules.specs.Books.{Books}
use Rattle.rules.specs.Plan.{Plan, booking, question, day_move, Effects, suffix_is_above, process_room_test, booking_tests, plan_tests}
use Rattle.rules.specs.declared.ProcessRow.{ProcessRow}
use Rattle.rules.specs.declared.Reply.{Reply}
use Rattle.rules.specs.declared.Reply.TheVariants.{Booked}
use Rattle.soundness.specs.SoundBooks.{SoundBooks}
use Rattle.keys.proofs.Clauses.{absent_from-nil}
use Rattle.soundness.proofs.Accepted.{BookingPassed, booking-passed}
use Rattle.soundness.proofs.Growth.{absent_process}
use Rattle.soundness.proofs.Kept.{process-fits}
use Rattle.history.proofs.Refusals.{no-refusal, passes-test, left-passes, both-pass}
use Rattle.history.proofs.Effects.{effects_of, own_tests}

-- The tables have room for the rows that these effects add.
pub record Room (b : Books) (e : Effects) : Type 0 where
  pub records : length b.records + length e.added ≤ b.records_room
  pub positions : length b.positions + absent_from position_key b.positions e.positions ≤ b.positions_room
  pub processes : length b.processes + absent_process b.processes e.process ≤ b.processes_room

-- A plan's own tests pass where it is accepted.
pub own-pass : (b : Books) (p : Plan) → first_refusal (plan_tests b p) ≡ none → first_refusal (own_tests p) ≡ none
unfolding plan_tests
own-pass b (booking tests e) h = left-passes tests (booking_tests b e) h
own-pass b (question tests reply) h = h
own-pass b (day_move tests day) h = h

-- A plan that adds no row has room.
none_needed : (b : Books) → SoundBooks b → (reply : Reply) → Room b (record { changed = []; added = []; positions = []; process = none; reply = reply })
none_needed b sound reply = record {
  records = omega (arith, sound.records-fit);
  positions = omega (arith, sound.positions-fit, absent_from-nil position_key b.positions);
  processes = omega (arith, sound.processes-fit);
}

pub has_room : (b : Books) → SoundBooks b → (p : Plan) → first_refusal (plan_tests b p) ≡ none → Room b (effects_of p)
has_room b sound (booking tests e) h =
    let w : BookingPassed b e = booking-passed b tests e h in
    record { records = w.records-room; positions = w.positions-room; processes = process-fits b sound e.process w.process-room }
has_room b sound (question tests reply) h = none_needed b sound reply
has_room b sound (day_move tests day) h = none_needed b sound (Booked (pos 0) (pos 0))

-- Test 23 passes where there is room.
process-passes : (c : Books) (o : Option ProcessRow) → length c.processes + absent_process c.processes o ≤ c.processes_room → first_refusal (process_room_test c o) ≡ none
unfolding process_room_test
process-passes c none room = no-refusal
process-passes c (some p) room = passes-test 23 (ltb c.processes_room (length c.processes + absent_from process_key c.processes (p ∷ []))) [] (le-ltb _ _ room) no-refusal

pub accepted-with-room : (b c : Books) (p : Plan) → first_refusal (plan_tests b p) ≡ none → Room c (effects_of p) → first_refusal (plan_tests c p) ≡ none
unfolding plan_tests booking_tests
accepted-with-room b c (booking tests e) h room =
    let w : BookingPassed b e = booking-passed b tests e h in
    both-pass tests (booking_tests c e) (left-passes tests (booking_tests b e) h)
    (passes-test 13 (any_of (map suffix_is_above e.added)) _ w.suffixes
    (passes-test 14 (ltb c.records_room (length c.records + length e.added)) _ (le-ltb _ _ room.records)
    (passes-test 15 (ltb c.positions_room (length c.positions + absent_from position_key c.positions e.positions)) _ (le-ltb _ _ room.positions)
    (passes-test 16 (not (all_of (map sound_position e.positions))) _ (ap not w.positions-sound) (process-passes c e.process room.processes)))))
accepted-with-room b c (question tests reply) h room = h
accepted-with-room b c (day_move tests day) h room = h
