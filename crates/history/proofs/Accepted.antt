-- A request on the tables, where it is accepted and where it is refused: a refused one changes no cell; an accepted one's answer and tables are those of its plan, and
-- its tests hold of the rows. Only a question and a new day are accepted where the positions are not sound; a question writes nothing, a new day the current day alone; a step of a give-up is accepted
-- only where the processes are sound too. Assumes nothing.
use mathlib.Core.Path.{◌≡◌, refl, sym, ◌∙◌, ap, subst}
use mathlib.Core.Bool.{Bool, true, false, cond, not}
use mathlib.Core.List.{List, [], ◌∷◌}
use mathlib.Core.Logic.{◌⊎◌, inl, inr}
use mathlib.Core.Option.{Option, none, some}
use borrow.Author.Tests.{not-true, not-false}
use lib.IntN.{ℤ}
use Rattle.rules.specs.Keyed.{is_some}
use Rattle.rules.specs.Refusal.{Test, test, first_refusal}
use Rattle.rules.specs.Request.{Request, is_step}
use Rattle.rules.specs.Reply.{refused_by}
use Rattle.rules.specs.Plan.{Effects, Plan, booking, question, day_move, plan_tests, plan_reply}
use Rattle.rules.specs.Tables.{Tables, sound_records, sound_positions, sound_processes, with_current_day, books_of}
use Rattle.rules.specs.Handle.{sound_processes_test, soundness_tests, refusals, plan_tables, answer, answered_by, refusal_of, handle}
use Rattle.soundness.specs.SoundBooks.{plan_on, Accepts}
use Rattle.soundness.specs.SoundTables.{SoundTables}
use Rattle.keys.proofs.Counts.{is_some-absent, is_some-present}
use Rattle.keys.proofs.Clauses.{is_some-none}
use Rattle.history.specs.History.{is_accepted}
use Rattle.history.proofs.Effects.{LeavesDay}
use Rattle.history.proofs.Refusals.{no-refusal, test-passes, rest-passes, passes-test, left-passes, right-passes, both-pass}

-- Test 19.
nineteen-passes : (t : Tables) (r : Request) → sound_processes t.processes ≡ true → first_refusal (sound_processes_test t r) ≡ none
unfolding sound_processes_test
nineteen-passes t r h = go (is_step r)
  where
    go : (b : Bool) → first_refusal (cond b (test 19 (not (sound_processes t.processes)) ∷ []) []) ≡ none
    go true = passes-test 19 (not (sound_processes t.processes)) [] (ap not h) no-refusal
    go false = no-refusal

nineteen-passed : (t : Tables) (r : Request) → first_refusal (sound_processes_test t r) ≡ none → is_step r ≡ true → sound_processes t.processes ≡ true
unfolding sound_processes_test
nineteen-passed t r h step =
    not-false (sound_processes t.processes)
    (test-passes 19 _ _ (subst (λ (b : Bool). first_refusal (cond b (test 19 (not (sound_processes t.processes)) ∷ []) []) ≡ none) step h))

-- What is sound where a request that books is accepted.
pub record BookedOn (t : Tables) (r : Request) : Type 0 where
  pub records : sound_records t.records ≡ true
  pub positions : sound_positions t.positions ≡ true
  pub processes : is_step r ≡ true → sound_processes t.processes ≡ true

pub all_sound : (t : Tables) (r : Request) → BookedOn t r → sound_processes t.processes ≡ true → SoundTables t
all_sound t r b h = record { records = b.records; positions = b.positions; processes = h }

module _ (t : Tables) (r : Request) where
  abbrev pub plan_at : Plan
  plan_at = plan_on (books_of t) r

  pub accepted-none : is_accepted t r ≡ true → first_refusal (refusals t r plan_at) ≡ none
  unfolding is_accepted
  accepted-none h = is_some-absent (first_refusal (refusals t r plan_at)) (not-true (is_some (first_refusal (refusals t r plan_at))) h)

  pub none-accepted : first_refusal (refusals t r plan_at) ≡ none → is_accepted t r ≡ true
  unfolding is_accepted
  none-accepted h = ap (λ (o : Option Test). not (is_some o)) h ∙ ap not (is_some-none Test)

  pub refused-some : is_accepted t r ≡ false → (x : Test) × (refusal_of t r ≡ some x)
  unfolding is_accepted
  refused-some h = is_some-present (refusal_of t r) (not-false (is_some (refusal_of t r)) h)

  -- "A refused request changes nothing."
  pub refused-tables : is_accepted t r ≡ false → (handle t r).tables ≡ t
  unfolding handle answer
  refused-tables h = ap (λ (o : Option Test). (answer o t (answered_by (plan_reply plan_at) (plan_tables plan_at t))).tables) (refused-some h).1

  -- "refused, with number and place": those of the first test that applies.
  pub refused-reply : (x : Test) → refusal_of t r ≡ some x → (handle t r).reply ≡ refused_by x
  unfolding handle answer
  refused-reply x e = ap (λ (o : Option Test). (answer o t (answered_by (plan_reply plan_at) (plan_tables plan_at t))).reply) e

  pub accepted-reply : is_accepted t r ≡ true → (handle t r).reply ≡ plan_reply plan_at
  unfolding handle answer
  accepted-reply h = ap (λ (o : Option Test). (answer o t (answered_by (plan_reply plan_at) (plan_tables plan_at t))).reply) (accepted-none h)

  pub accepted-tables : is_accepted t r ≡ true → (handle t r).tables ≡ plan_tables plan_at t
  unfolding handle answer
  accepted-tables h = ap (λ (o : Option Test). (answer o t (answered_by (plan_reply plan_at) (plan_tables plan_at t))).tables) (accepted-none h)

  pub accepted-rows : is_accepted t r ≡ true → Accepts (books_of t) r
  unfolding refusals
  accepted-rows h = right-passes (soundness_tests t r plan_at) (plan_tests (books_of t) plan_at) (accepted-none h)

  pub rows-accepted : SoundTables t → Accepts (books_of t) r → is_accepted t r ≡ true
  unfolding refusals soundness_tests
  rows-accepted sound h = none-accepted (both-pass (soundness_tests t r plan_at) (plan_tests (books_of t) plan_at) (go plan_at) h)
    where
      go : (p : Plan) → first_refusal (soundness_tests t r p) ≡ none
      go (booking tests e) =
          passes-test 1 (not (sound_records t.records)) (test 2 (not (sound_positions t.positions)) ∷ sound_processes_test t r) (ap not sound.records)
          (passes-test 2 (not (sound_positions t.positions)) (sound_processes_test t r) (ap not sound.positions) (nineteen-passes t r sound.processes))
      go (question tests reply) = passes-test 1 (not (sound_records t.records)) [] (ap not sound.records) no-refusal
      go (day_move tests day) = passes-test 1 (not (sound_records t.records)) [] (ap not sound.records) no-refusal

  -- A request that books is accepted on sound records and positions alone, and a step of a give-up on sound processes.
  pub booked-on-sound : (tests : List Test) (e : Effects) → plan_at ≡ booking tests e → is_accepted t r ≡ true → BookedOn t r
  unfolding refusals soundness_tests
  booked-on-sound tests e q h =
      let s : first_refusal (soundness_tests t r (booking tests e)) ≡ none =
      ap (λ (p : Plan). first_refusal (soundness_tests t r p)) (sym q) ∙ left-passes (soundness_tests t r plan_at) (plan_tests (books_of t) plan_at) (accepted-none h) in
      record {
        records = not-false (sound_records t.records) (test-passes 1 _ _ s);
        positions = not-false (sound_positions t.positions) (test-passes 2 _ _ (rest-passes _ _ s));
        processes = nineteen-passed t r (rest-passes _ _ (rest-passes _ _ s));
      }

  -- A new day is accepted on sound records alone, and writes the current day.
  pub moved-on-sound : (tests : List Test) (day : ℤ) → plan_at ≡ day_move tests day → is_accepted t r ≡ true → sound_records t.records ≡ true
  unfolding refusals soundness_tests
  moved-on-sound tests day q h =
      not-false (sound_records t.records)
      (test-passes 1 _ _ (ap (λ (p : Plan). first_refusal (soundness_tests t r p)) (sym q) ∙ left-passes (soundness_tests t r plan_at) (plan_tests (books_of t) plan_at) (accepted-none h)))

  pub moved-tables : (tests : List Test) (day : ℤ) → plan_at ≡ day_move tests day → is_accepted t r ≡ true → (handle t r).tables ≡ with_current_day day t
  unfolding plan_tables
  moved-tables tests day q h = accepted-tables h ∙ ap (λ (p : Plan). plan_tables p t) q

  -- Where a request that leaves the current day is accepted beside sound processes, all tables are sound or it leaves them as they were.
  pub sound-or-same : sound_processes t.processes ≡ true → LeavesDay plan_at → is_accepted t r ≡ true → (SoundTables t) ⊎ ((handle t r).tables ≡ t)
  unfolding plan_tables
  sound-or-same processes stays h = go plan_at refl
    where
      go : (p : Plan) → plan_at ≡ p → (SoundTables t) ⊎ ((handle t r).tables ≡ t)
      go (booking tests e) q = inl (all_sound t r (booked-on-sound tests e q h) processes)
      go (question tests reply) q = inr (accepted-tables h ∙ ap (λ (p : Plan). plan_tables p t) q)
      go (day_move tests day) q = absurd (subst (λ (p : Plan). LeavesDay p) q stays)
