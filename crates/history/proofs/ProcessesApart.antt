-- Requests that are no steps of a give-up neither read nor change the process table (document 02, K3: "read by these steps only"): whatever its cells, the answer is the same and
-- they stay. So the calls of those requests are not lent it; they promise the answer of `handle` beside a process table without rows, and `apart-promised` says that
-- this is the answer beside any, and so the one that demand 3 speaks of. Assumes nothing.
use mathlib.Core.Path.{◌≡◌, refl, sym, ◌∙◌, ap}
use mathlib.Core.Bool.{false}
use mathlib.Core.List.{List}
use mathlib.Core.Option.{Option, none, some}
use lib.IntN.{ℤ}
use Rattle.rules.specs.Refusal.{Test, first_refusal}
use Rattle.rules.specs.Request.{Request, trade, separate, transfer, merge, lineage, give_up, new_day, is_step}
use Rattle.rules.specs.Books.{View, view_of}
use Rattle.rules.specs.Plan.{Plan, booking, question, day_move, Effects, process_room_test, booking_tests, plan_tests, plan_reply, booked}
use Rattle.rules.specs.Trade.{trade_plan}
use Rattle.rules.specs.Separation.{separation_plan}
use Rattle.rules.specs.Transfer.{transfer_plan}
use Rattle.rules.specs.Merge.{Source, merge_plan, pairs_of}
use Rattle.rules.specs.Lineage.{lineage_plan}
use Rattle.rules.specs.Day.{day_plan}
use Rattle.rules.specs.Tables.{Tables, tables_of, with_processes, books_of, write_books}
use Rattle.rules.specs.Handle.{Answer, answer, answered_by, handle, plan_of, sound_processes_test, soundness_tests, refusals, written_by, plan_tables, refusal_of}
use Rattle.rules.specs.declared.ProcessRow.{ProcessRow}
use Rattle.keys.proofs.Split.{clash}
use Rattle.history.specs.Beside.{with_answer}
use Rattle.history.proofs.Locality.{same-sources}

-- A plan that puts no process row.
abbrev NoProcess : Plan → Type 0
NoProcess (booking tests e) = e.process ≡ none
NoProcess (question tests reply) = Unit {0}
NoProcess (day_move tests day) = Unit {0}

no-process : (v : View) (r : Request) → is_step r ≡ false → NoProcess (plan_of v r)
unfolding plan_of trade_plan separation_plan transfer_plan merge_plan lineage_plan day_plan is_step
no-process v (trade id account series side quantity price) h = refl
no-process v (separate id suffix account series parts) h = refl
no-process v (transfer id suffix from to series) h = refl
no-process v (merge id account series pairs) h = refl
no-process v (lineage id suffix) h = tt
no-process v (give_up step process id suffix giving taking series) h = clash refl h
no-process v (new_day day) h = tt

module _ (processes : List ℤ) (t : Tables) where
  abbrev other : Tables
  other = with_processes processes t

  -- The plan is the same: it looks at the records and the positions.
  plan-apart : (r : Request) → is_step r ≡ false → plan_of (view_of (books_of other)) r ≡ plan_of (view_of (books_of t)) r
  unfolding plan_of view_of books_of is_step
  plan-apart (trade id account series side quantity price) h = refl
  plan-apart (separate id suffix account series parts) h = refl
  plan-apart (transfer id suffix from to series) h = refl
  plan-apart (merge id account series pairs) h =
      ap (λ (s : List Source). merge_plan (books_of t).day id account series pairs ((view_of (books_of t)).greatest_suffix id) s ((view_of (books_of t)).position_at account series))
      (same-sources (view_of (books_of other)) (view_of (books_of t)) (pairs_of pairs) (record { record-at = λ id n suffix. refl; greatest-at = λ id n. refl }))
  plan-apart (lineage id suffix) h = refl
  plan-apart (give_up step process id suffix giving taking series) h = clash refl h
  plan-apart (new_day day) h = refl

  -- Neither 19 nor 23 is among its tests.
  nineteen-apart : (r : Request) → is_step r ≡ false → sound_processes_test other r ≡ sound_processes_test t r
  unfolding sound_processes_test
  nineteen-apart r h = rw h

  room_apart : (o : Option ProcessRow) → o ≡ none → process_room_test (books_of other) o ≡ process_room_test (books_of t) o
  unfolding process_room_test
  room_apart o h = ap (λ (p : Option ProcessRow). process_room_test (books_of other) p) h ∙ sym (ap (λ (p : Option ProcessRow). process_room_test (books_of t) p) h)

  tests-apart : (r : Request) → is_step r ≡ false → (p : Plan) → NoProcess p → refusals other r p ≡ refusals t r p
  unfolding refusals soundness_tests plan_tests booking_tests books_of
  tests-apart r n (booking tests e) h = rw (nineteen-apart r n, room_apart e.process h)
  tests-apart r n (question tests reply) h = refl
  tests-apart r n (day_move tests day) h = refl

  -- What it writes leaves the process table.
  written_apart : (e : Effects) (o : Option ProcessRow) → o ≡ none → written_by o other (booked e (books_of other)) ≡ with_processes processes (written_by o t (booked e (books_of t)))
  unfolding written_by write_books booked books_of
  written_apart e o h =
      ap (λ (p : Option ProcessRow). written_by p other (booked e (books_of other))) h ∙ sym (ap (λ (p : Option ProcessRow). with_processes processes (written_by p t (booked e (books_of t)))) h)

  tables-apart : (p : Plan) → NoProcess p → plan_tables p other ≡ with_processes processes (plan_tables p t)
  unfolding plan_tables
  tables-apart (booking tests e) h = written_apart e e.process h
  tables-apart (question tests reply) h = refl
  tables-apart (day_move tests day) h = refl

  pub answer-apart : (o : Option Test) (a b : Answer) → a ≡ with_answer processes b → answer o other a ≡ with_answer processes (answer o t b)
  unfolding answer
  answer-apart none a b h = h
  answer-apart (some x) a b h = refl

  module _ (r : Request) (no_step : is_step r ≡ false) where
    abbrev plan : Plan
    plan = plan_of (view_of (books_of t)) r

    pub refusal-apart : refusal_of other r ≡ refusal_of t r
    refusal-apart =
        ap (λ (p : Plan). first_refusal (refusals other r p)) (plan-apart r no_step)
        ∙ ap (λ (tests : List Test). first_refusal tests) (tests-apart r no_step plan (no-process (view_of (books_of t)) r no_step))

    -- Beside another process table: the same answer, and every cell of that table stays.
    pub processes-apart : handle other r ≡ with_answer processes (handle t r)
    unfolding handle
    processes-apart =
        ap (λ (p : Plan). answer (first_refusal (refusals other r p)) other (answered_by (plan_reply p) (plan_tables p other))) (plan-apart r no_step)
        ∙ ap (λ (tests : List Test). answer (first_refusal tests) other (answered_by (plan_reply plan) (plan_tables plan other))) (tests-apart r no_step plan (no-process (view_of (books_of t)) r no_step))
        ∙ answer-apart (first_refusal (refusals t r plan)) (answered_by (plan_reply plan) (plan_tables plan other)) (answered_by (plan_reply plan) (plan_tables plan t))
        (ap (λ (u : Tables). answered_by (plan_reply plan) u) (tables-apart plan (no-process (view_of (books_of t)) r no_step)))

-- On any tables, by the answer that the call promises: that beside a process table without rows.
pub apart-promised : (t : Tables) (r : Request) → is_step r ≡ false → handle t r ≡ with_answer t.processes (handle (tables_of t.records t.positions) r)
apart-promised t r no_step = processes-apart t.processes (tables_of t.records t.positions) r no_step

-- Every cell of the process table stays.
pub processes-stay : (t : Tables) (r : Request) → is_step r ≡ false → (handle t r).tables.processes ≡ t.processes
processes-stay t r no_step = ap (λ (a : Answer). a.tables.processes) (apart-promised t r no_step)
