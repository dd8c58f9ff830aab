-- What a request does to the lent tables, whatever their cells and its figures: the answer, and the tables afterwards.
use Rattle.std.specs.Prelude.{cond, not, List, [], ◌∷◌, ◌++◌, ℤ}
use Rattle.std.proofs.Math.Option.{Option, none, some}
use Rattle.rules.specs.Refusal.{Test, test, first_refusal}
use Rattle.rules.specs.Reply.{refused_by}
use Rattle.rules.specs.Request.{Request, trade, separate, transfer, merge, lineage, give_up, new_day, is_step}
use Rattle.rules.specs.Books.{Books, View, view_of}
use Rattle.rules.specs.Plan.{Plan, booking, question, day_move, plan_tests, plan_reply, booked}
use Rattle.rules.specs.Trade.{trade_plan}
use Rattle.rules.specs.Separation.{separation_plan}
use Rattle.rules.specs.Transfer.{transfer_plan}
use Rattle.rules.specs.Merge.{merge_plan, sources_of, pairs_of}
use Rattle.rules.specs.Lineage.{lineage_plan}
use Rattle.rules.specs.GiveUp.{give_up_plan}
use Rattle.rules.specs.Day.{day_plan}
use Rattle.rules.specs.Tables.{Tables, tables_of, with_processes, with_current_day, books_of, write_books, sound_records, sound_positions, sound_processes}
use Rattle.rules.specs.declared.ProcessRow.{ProcessRow}
use Rattle.rules.specs.declared.Reply.{Reply}

-- Each request's plan, from what it sees.
unfoldable pub plan_of : View → Request → Plan
plan_of v (trade id account series side quantity price) =
    trade_plan v.day id account series side quantity price (v.greatest_suffix id) (v.position_at account series)
plan_of v (separate id suffix account series parts) =
    separation_plan v.day id suffix account series parts (v.record_at id suffix) (v.greatest_suffix id)
plan_of v (transfer id suffix from to series) =
    transfer_plan v.day id suffix from to series (v.record_at id suffix) (v.greatest_suffix id) (v.position_at from series) (v.position_at to series)
plan_of v (merge id account series pairs) =
    merge_plan v.day id account series pairs (v.greatest_suffix id) (sources_of v (pairs_of pairs)) (v.position_at account series)
plan_of v (lineage id suffix) = lineage_plan id suffix (v.record_at id)
plan_of v (give_up step process id suffix giving taking series) =
    give_up_plan step v.day process id suffix giving taking series
    (v.transaction_of process) (v.process_at process id) (v.record_at id suffix) (v.greatest_suffix id) (v.position_at giving series) (v.position_at taking series)
plan_of v (new_day day) = day_plan v.day day

-- 19: the process table, "read by these steps only"; "if unsound, refused 19 after 2"
unfoldable pub sound_processes_test : Tables → Request → List Test
sound_processes_test t r = cond (is_step r) (test 19 (not (sound_processes t.processes)) ∷ []) []

-- 1: "records table not sound". 2: "positions table not sound (not for lineage)"; document 02, K8, of a new day: "It and the list skip test 2".
unfoldable pub soundness_tests : Tables → Request → Plan → List Test
soundness_tests t r (booking tests effects) =
    test 1 (not (sound_records t.records)) ∷ test 2 (not (sound_positions t.positions)) ∷ sound_processes_test t r
soundness_tests t r (question tests reply) = test 1 (not (sound_records t.records)) ∷ []
soundness_tests t r (day_move tests day) = test 1 (not (sound_records t.records)) ∷ []

-- Document 01's table of refusals for this request and its plan, in its order.
unfoldable pub refusals : Tables → Request → Plan → List Test
refusals t r plan = soundness_tests t r plan ++ plan_tests (books_of t) plan

-- The whole answer: the reply, what is written to a lent output, from its first cell on, and the tables afterwards.
pub record Answer : Type 0 where
  pub reply : Reply
  pub output : List ℤ
  pub tables : Tables

-- An answer that writes to no output.
abbrev pub answered_by : Reply → Tables → Answer
answered_by reply t = record { reply = reply; output = []; tables = t }

-- The same, by the cells of the two tables afterwards that a request is lent which is no step of a give-up.
abbrev pub answered : Reply → List ℤ → List ℤ → Answer
answered reply records positions = answered_by reply (tables_of records positions)

-- The tables written, of which the process table by a step of a give-up alone: every cell of it stays where no process row is put.
unfoldable pub written_by : Option ProcessRow → Tables → Books → Tables
written_by none t b = with_processes t.processes (write_books t b)
written_by (some p) t b = write_books t b

-- The tables that an accepted request leaves. A question never writes.
unfoldable pub plan_tables : Plan → Tables → Tables
plan_tables (booking tests effects) t = written_by effects.process t (booked effects (books_of t))
plan_tables (question tests reply) t = t
plan_tables (day_move tests day) t = with_current_day day t

-- "A refused request changes nothing."
unfoldable pub answer : Option Test → Tables → Answer → Answer
answer none t done = done
answer (some refusal) t done = answered_by (refused_by refusal) t

-- "A request is accepted when no refusal number applies to it"; otherwise the first that applies is given.
unfoldable pub handle : Tables → Request → Answer
handle t r =
    let plan : Plan = plan_of (view_of (books_of t)) r in
    answer (first_refusal (refusals t r plan)) t (answered_by (plan_reply plan) (plan_tables plan t))

-- The first refusal of the table that applies to this request on these tables, where one does.
abbrev pub refusal_of : Tables → Request → Option Test
refusal_of t r = first_refusal (refusals t r (plan_of (view_of (books_of t)) r))
