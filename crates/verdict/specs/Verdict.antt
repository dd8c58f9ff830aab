-- The verdict on a request: accepted, or the first refusal with its number and place.
use Rattle.std.specs.Prelude.{ℕ, Bool, true, false, cond, not, List, [], ◌∷◌, ℤ, pos, Result, Ok, Err}
use Rattle.std.proofs.Math.Option.{Option, none, some}
use Rattle.rules.specs.Keyed.{find, is_some}
use Rattle.rules.specs.Rows.{key_of, position_key}
use Rattle.rules.specs.Refusal.{Test, test, first_refusal}
use Rattle.rules.specs.Request.{Request, trade, separate, transfer, merge, lineage, give_up, new_day}
use Rattle.rules.specs.Books.{view_of}
use Rattle.rules.specs.Plan.{Plan, plan_tests, plan_reply}
use Rattle.rules.specs.Layout.{rows_of}
use Rattle.rules.specs.Tables.{Tables, tables_of, books_of, positions_layout, sound_records, sound_positions}
use Rattle.rules.specs.Handle.{Answer, answered_by, plan_of, plan_tables}
use Rattle.rules.specs.Reasons.{number_of}
use Rattle.rules.specs.declared.refusals.Reason.{Reason}
use Rattle.rules.specs.declared.refusals.Refusal.{Refusal}

pub data Verdict : Type 0 where
  Accepted : Verdict
  Refused : (number place : ℤ) → Verdict

-- What the code's result says: of a request whose refusals have no place, and of one that may have.
abbrev pub judged : Result (Unit {0}) Reason → Verdict
judged (Ok _) = Accepted
judged (Err r) = Refused (number_of r) (pos 0)

abbrev pub judged_at : Result (Unit {0}) Refusal → Verdict
judged_at (Ok _) = Accepted
judged_at (Err e) = Refused (number_of e.reason) e.place

abbrev pub plan_for : List ℤ → List ℤ → Request → Plan
plan_for records positions r = plan_of (view_of (books_of (tables_of records positions))) r

unfoldable pub verdict_of : Option Test → Verdict
verdict_of none = Accepted
verdict_of (some t) = Refused (pos t.number) (pos t.place)

-- Refusals 1 and 2, of a request that books: accepted where both tables are sound. (A step of a give-up has 19 after them.)
unfoldable pub verdict_on_tables : List ℤ → List ℤ → Verdict
verdict_on_tables records positions = verdict_of (first_refusal (test 1 (not (sound_records records)) ∷ test 2 (not (sound_positions positions)) ∷ []))

-- A request with both tests: no question, and no new day.
abbrev pub is_booking : Request → Bool
is_booking (trade id account series side quantity price) = true
is_booking (separate id suffix account series parts) = true
is_booking (transfer id suffix from to series) = true
is_booking (merge id account series pairs) = true
is_booking (lineage id suffix) = false
is_booking (give_up step process id suffix giving taking series) = true
is_booking (new_day day) = false

-- Refusals 3 to 18 and 23, the tests of the request's plan, on sound tables.
unfoldable pub verdict_on : List ℤ → List ℤ → Request → Verdict
verdict_on records positions r = verdict_of (first_refusal (plan_tests (books_of (tables_of records positions)) (plan_for records positions r)))

-- What an accepted request answers and leaves.
unfoldable pub accepted_on : List ℤ → List ℤ → Request → Answer
accepted_on records positions r =
    answered_by (plan_reply (plan_for records positions r)) (plan_tables (plan_for records positions r) (tables_of records positions))

-- The same on all tables, as a step of a give-up is lent them.
unfoldable pub verdict_in : Tables → Request → Verdict
verdict_in t r = verdict_of (first_refusal (plan_tests (books_of t) (plan_of (view_of (books_of t)) r)))

unfoldable pub accepted_in : Tables → Request → Answer
accepted_in t r = answered_by (plan_reply (plan_of (view_of (books_of t)) r)) (plan_tables (plan_of (view_of (books_of t)) r) t)

-- 1 where the account and series have no row, else 0.
unfoldable pub absent_position : List ℤ → ℤ → ℤ → ℕ
absent_position cells account series = cond (is_some (find position_key (key_of account series) (rows_of positions_layout cells))) 0 1
