-- What a request is answered, by the verdicts: on tables that aren't sound the refusal of tests 1, 2 and 19, and on sound tables that of the tests from 3 on,
-- or the booking. Once for any plan on any tables; a request on two tables is an instance. By the definitions. Assumes nothing.
use Prim.Native.Nat.{ℕ}
use native.Mathlib.Omega.{arith}
use mathlib.Core.Path.{◌≡◌, refl, sym, ◌∙◌, ap, subst}
use mathlib.Core.Bool.{Bool, true, false, cond, not}
use mathlib.Core.List.{List, [], ◌∷◌, ◌++◌}
use mathlib.Core.Option.{Option, none, some}
use lib.IntN.{ℤ, pos}
use Rattle.rules.specs.Refusal.{Test, test, first_refusal}
use Rattle.rules.specs.Reply.{refused_by}
use Rattle.rules.specs.Request.{Request, trade, separate, transfer, merge, lineage, give_up, new_day, is_step}
use Rattle.rules.specs.Plan.{Effects, Plan, booking, question, day_move, plan_tests, plan_reply}
use Rattle.rules.specs.Trade.{trade_plan}
use Rattle.rules.specs.Separation.{separation_plan}
use Rattle.rules.specs.Transfer.{transfer_plan}
use Rattle.rules.specs.Merge.{merge_plan}
use Rattle.rules.specs.GiveUp.{give_up_plan}
use Rattle.rules.specs.Tables.{Tables, books_of, sound_records, sound_positions, sound_processes, tables_of}
use Rattle.rules.specs.Handle.{Answer, answer, handle, plan_of, plan_tables, refusals, sound_processes_test, soundness_tests, answered, answered_by}
use Rattle.rules.specs.declared.Reply.{Reply}
use Rattle.keys.proofs.Split.{clash}
use Rattle.soundness.specs.SoundBooks.{plan_on}
use Rattle.soundness.specs.SoundTables.{SoundTables}
use Rattle.verdict.specs.Verdict.{plan_for, verdict_of, verdict_on_tables, is_booking, verdict_in, accepted_in, verdict_on, accepted_on}
use Rattle.verdict.specs.Verdict.{Verdict}
use Rattle.verdict.proofs.Acceptance.{no-processes-sound}

-- Tests that refuse do so before any others.
pub refused-before : (tests others : List Test) (n p : ℤ) → verdict_of (first_refusal tests) ≡ Verdict.Refused n p → verdict_of (first_refusal (tests ++ others)) ≡ Verdict.Refused n p
unfolding first_refusal verdict_of
refused-before [] others n p h = let z : ◌≡◌ {A = ℕ} 0 1 = cc in absurd (omega arith)
refused-before (t ∷ tests) others n p h = go t.applies (refused-before tests others n p) h
  where
    go : (b : Bool)
        → (verdict_of (first_refusal tests) ≡ Verdict.Refused n p → verdict_of (first_refusal (tests ++ others)) ≡ Verdict.Refused n p)
        → verdict_of (cond b (some t) (first_refusal tests)) ≡ Verdict.Refused n p
        → verdict_of (cond b (some t) (first_refusal (tests ++ others))) ≡ Verdict.Refused n p
    go true later k = k
    go false later k = later k

-- Tests that accept leave the verdict to the others.
pub accepted-before : (tests others : List Test) → verdict_of (first_refusal tests) ≡ Verdict.Accepted → first_refusal (tests ++ others) ≡ first_refusal others
unfolding first_refusal verdict_of
accepted-before [] others h = refl
accepted-before (t ∷ tests) others h = go t.applies (accepted-before tests others) h
  where
    go : (b : Bool)
        → (verdict_of (first_refusal tests) ≡ Verdict.Accepted → first_refusal (tests ++ others) ≡ first_refusal others)
        → verdict_of (cond b (some t) (first_refusal tests)) ≡ Verdict.Accepted
        → cond b (some t) (first_refusal (tests ++ others)) ≡ first_refusal others
    go true later k = let z : ◌≡◌ {A = ℕ} 0 1 = cc in absurd (omega arith)
    go false later k = later k

-- Two tests that accept both hold.
pub both_hold : (a b : Bool) (n m : ℕ) → verdict_of (first_refusal (test n (not a) ∷ test m (not b) ∷ [])) ≡ Verdict.Accepted → (a ≡ true) × (b ≡ true)
unfolding first_refusal test verdict_of
both_hold true true n m h = (refl, refl)
both_hold true false n m h = let z : ◌≡◌ {A = ℕ} 0 1 = cc in absurd (omega arith)
both_hold false b n m h = let z : ◌≡◌ {A = ℕ} 0 1 = cc in absurd (omega arith)

-- ---- any tables

module _ (t : Tables) where
  -- What a plan comes to where none of its refusals applies, and the answer to it.
  abbrev done : Plan → Answer
  done plan = answered_by (plan_reply plan) (plan_tables plan t)

  abbrev answer_to : Request → Plan → Answer
  answer_to r plan = answer (first_refusal (refusals t r plan)) t (done plan)

  handle-plan : (r : Request) → handle t r ≡ answer_to r (plan_on (books_of t) r)
  unfolding handle
  handle-plan r = refl

  -- The answer to the first refusal is the verdict's.
  pub refused_as : (o : Option Test) (a : Answer) (n p : ℤ) → verdict_of o ≡ Verdict.Refused n p → answer o t a ≡ answered_by (Reply.Refused n p) t
  unfolding verdict_of answer refused_by
  refused_as none a n p h = let z : ◌≡◌ {A = ℕ} 0 1 = cc in absurd (omega arith)
  refused_as (some t) a n p h =
      let e : pos t.number ≡ n = cc in
      let f : pos t.place ≡ p = cc in
      rw (e, f)

  accepted-as : (o : Option Test) (a : Answer) → verdict_of o ≡ Verdict.Accepted → answer o t a ≡ a
  unfolding verdict_of answer
  accepted-as none a h = refl
  accepted-as (some t) a h = let z : ◌≡◌ {A = ℕ} 0 1 = cc in absurd (omega arith)

  -- Tables that tests 1, 2 and 19 refuse.
  pub unsound-in : (r : Request) (n p : ℤ) → verdict_of (first_refusal (soundness_tests t r (plan_on (books_of t) r))) ≡ Verdict.Refused n p
      → handle t r ≡ answered_by (Reply.Refused n p) t
  unfolding refusals
  unsound-in r n p refused =
      let plan : Plan = plan_on (books_of t) r in
      handle-plan r ∙ refused_as _ (done plan) n p (refused-before (soundness_tests t r plan) (plan_tests (books_of t) plan) n p refused)

  -- Tables that they accept.
  module _ (sound : SoundTables t) where
    processes-pass : (r : Request) (rest : List Test) → first_refusal (sound_processes_test t r ++ rest) ≡ first_refusal rest
    unfolding sound_processes_test first_refusal test
    processes-pass r rest = go (is_step r)
      where
        go : (b : Bool) → first_refusal (cond b (test 19 (not (sound_processes t.processes)) ∷ []) [] ++ rest) ≡ first_refusal rest
        go true = rw sound.processes
        go false = refl

    pub plan-sound : (r : Request) (plan : Plan) → first_refusal (refusals t r plan) ≡ first_refusal (plan_tests (books_of t) plan)
    unfolding refusals soundness_tests first_refusal test
    plan-sound r (booking tests e) = rw (sound.records, sound.positions) (processes-pass r (plan_tests (books_of t) (booking tests e)))
    plan-sound r (question tests reply) = rw sound.records
    plan-sound r (day_move tests day) = rw sound.records

    judged-plan : (r : Request) → handle t r ≡ answer (first_refusal (plan_tests (books_of t) (plan_on (books_of t) r))) t (done (plan_on (books_of t) r))
    judged-plan r = handle-plan r ∙ ap (λ (o : Option Test). answer o t (done (plan_on (books_of t) r))) (plan-sound r (plan_on (books_of t) r))

    pub refused-in : (r : Request) (n p : ℤ) → verdict_in t r ≡ Verdict.Refused n p → handle t r ≡ answered_by (Reply.Refused n p) t
    unfolding verdict_in
    refused-in r n p v = judged-plan r ∙ refused_as (first_refusal (plan_tests (books_of t) (plan_on (books_of t) r))) (done (plan_on (books_of t) r)) n p v

    pub accepted-in : (r : Request) → verdict_in t r ≡ Verdict.Accepted → handle t r ≡ accepted_in t r
    unfolding verdict_in accepted_in
    accepted-in r v = judged-plan r ∙ accepted-as (first_refusal (plan_tests (books_of t) (plan_on (books_of t) r))) (done (plan_on (books_of t) r)) v

-- ---- two tables

module _ (rs ps : List ℤ) where
  pub unsound-records : (r : Request) → sound_records rs ≡ false → handle (tables_of rs ps) r ≡ answered (Reply.Refused (pos 1) (pos 0)) rs ps
  unfolding soundness_tests first_refusal test verdict_of
  unsound-records r h = unsound-in (tables_of rs ps) r (pos 1) (pos 0) (go (plan_for rs ps r))
    where
      go : (plan : Plan) → verdict_of (first_refusal (soundness_tests (tables_of rs ps) r plan)) ≡ Verdict.Refused (pos 1) (pos 0)
      go (booking tests e) = rw h
      go (question tests reply) = rw h
      go (day_move tests day) = rw h

  -- Of a request that books, by the code's verdict `v` on the tables: what tests 1 and 2 refuse, and what they accept.
  module _ {v : Verdict} (judged : v ≡ verdict_on_tables rs ps) where
    unsound-booking : (r : Request) (tests : List Test) (e : Effects) → plan_for rs ps r ≡ booking tests e
        → (n p : ℤ) → v ≡ Verdict.Refused n p → answered (Reply.Refused n p) rs ps ≡ handle (tables_of rs ps) r
    unfolding verdict_on_tables soundness_tests
    unsound-booking r tests e q n p refused =
        let first : verdict_of (first_refusal (soundness_tests (tables_of rs ps) r (booking tests e))) ≡ Verdict.Refused n p =
        refused-before (test 1 (not (sound_records rs)) ∷ test 2 (not (sound_positions ps)) ∷ []) (sound_processes_test (tables_of rs ps) r) n p (sym judged ∙ refused) in
        sym (unsound-in (tables_of rs ps) r n p (subst (λ (plan : Plan). verdict_of (first_refusal (soundness_tests (tables_of rs ps) r plan)) ≡ Verdict.Refused n p) (sym q) first))

    pub unsound-refused : (r : Request) → is_booking r ≡ true → (n p : ℤ) → v ≡ Verdict.Refused n p → answered (Reply.Refused n p) rs ps ≡ handle (tables_of rs ps) r
    unfolding plan_of trade_plan separation_plan transfer_plan merge_plan give_up_plan
    unsound-refused (trade id account series side quantity price) b = unsound-booking (trade id account series side quantity price) _ _ refl
    unsound-refused (separate id suffix account series parts) b = unsound-booking (separate id suffix account series parts) _ _ refl
    unsound-refused (transfer id suffix from to series) b = unsound-booking (transfer id suffix from to series) _ _ refl
    unsound-refused (merge id account series pairs) b = unsound-booking (merge id account series pairs) _ _ refl
    unsound-refused (lineage id suffix) b = clash b refl
    unsound-refused (give_up step process id suffix giving taking series) b = unsound-booking (give_up step process id suffix giving taking series) _ _ refl
    unsound-refused (new_day day) b = clash b refl

    pub sound-accepted : v ≡ Verdict.Accepted → (sound_records rs ≡ true) × (sound_positions ps ≡ true)
    unfolding verdict_on_tables
    sound-accepted accepted = both_hold _ _ 1 2 (sym judged ∙ accepted)

  module _ (r : Request) (h : sound_records rs ≡ true) (k : sound_positions ps ≡ true) where
    sound : SoundTables (tables_of rs ps)
    sound = record { records = h; positions = k; processes = no-processes-sound }

    pub handled-refused : (n p : ℤ) → verdict_on rs ps r ≡ Verdict.Refused n p → handle (tables_of rs ps) r ≡ answered (Reply.Refused n p) rs ps
    unfolding verdict_on verdict_in
    handled-refused n p v = refused-in (tables_of rs ps) sound r n p v

    pub handled-accepted : verdict_on rs ps r ≡ Verdict.Accepted → handle (tables_of rs ps) r ≡ accepted_on rs ps r
    unfolding verdict_on verdict_in accepted_on accepted_in
    handled-accepted v = accepted-in (tables_of rs ps) sound r v
