-- How many rows an accepted request adds to sound books: each table grows by the new rows of the plan, and the records table by what the answer says.
-- From the facts of the plan and the counts of keyed tables. Assumes nothing.
use Prim.Native.Nat.{ℕ, ◌+◌}
use mathlib.Core.Bool.{true}
use mathlib.Core.Path.{◌≡◌, sym, ◌∙◌, ap, subst}
use mathlib.Core.List.{List, [], ◌∷◌}
use mathlib.Core.Option.{Option, none, some}
use lib.IntN.{ℤ, pos, nat_abs, ◌+ℤ◌, +ℤ_idr}
use lib.ListN.{length}
use native.Mathlib.Omega.{arith}
use Rattle.rules.specs.Keyed.{rising, upsert, absent_from}
use Rattle.rules.specs.Rows.{record_key, position_key}
use Rattle.rules.specs.ProcessRows.{process_key}
use Rattle.rules.specs.Refusal.{Test}
use Rattle.rules.specs.Request.{Request}
use Rattle.rules.specs.Books.{Books}
use Rattle.rules.specs.Plan.{Effects, Plan, booking, question, day_move, put_process, booked, plan_books, plan_reply}
use Rattle.rules.specs.declared.ProcessRow.{ProcessRow}
use Rattle.rules.specs.declared.Reply.{Reply}
use Rattle.rules.specs.declared.Reply.TheVariants.{Booked, ClosingError}
use Rattle.keys.proofs.Clauses.{all_of-nil, upsert_all-nil, upsert_all-cons}
use Rattle.keys.proofs.Counts.{distinct_nil, distinct-intro, upsert_all-replaces-adds, upsert_all-counts}
use Rattle.keys.proofs.FirstFigures.{rises-by-key}
use Rattle.soundness.specs.SoundBooks.{SoundBooks, plan_on, Accepts, after}
use Rattle.soundness.specs.RowsAnswered.{rows_answered}
use Rattle.soundness.proofs.BookingFacts.{BookingFacts, PlanFacts}
use Rattle.soundness.proofs.Requests.{plan-facts}

-- ---- of any plan with its facts

pub facts-records-grow : (b : Books) → SoundBooks b → (e : Effects) → BookingFacts b e → length (booked e b).records ≡ length b.records + length e.added
unfolding booked
facts-records-grow b sound e f =
    upsert_all-replaces-adds record_key e.changed e.added b.records sound.records-rise f.changed-present f.added-distinct f.added-absent

pub facts-positions-grow : (b : Books) → SoundBooks b → (e : Effects) → BookingFacts b e →
    length (booked e b).positions ≡ length b.positions + absent_from position_key b.positions e.positions
unfolding booked
facts-positions-grow b sound e f = upsert_all-counts position_key e.positions b.positions sound.positions-rise f.positions-distinct

-- The process row is one more where its key is new.
abbrev pub absent_process : List ProcessRow → Option ProcessRow → ℕ
absent_process rows none = 0
absent_process rows (some p) = absent_from process_key rows (p ∷ [])

pub processes-grow : (b : Books) → SoundBooks b → (e : Effects) → length (booked e b).processes ≡ length b.processes + absent_process b.processes e.process
unfolding booked put_process
processes-grow b sound e = go e.process
  where
    rise : rising process_key b.processes ≡ true
    rise = rises-by-key process_key b.processes sound.processes-rise

    go : (o : Option ProcessRow) → length (put_process o b.processes) ≡ length b.processes + absent_process b.processes o
    go none = omega arith
    go (some p) =
        ap (λ (rows : List ProcessRow). length rows) (sym (upsert_all-cons process_key p [] b.processes ∙ upsert_all-nil process_key (upsert process_key p b.processes)))
        ∙ upsert_all-counts process_key (p ∷ []) b.processes rise (distinct-intro process_key p [] all_of-nil (distinct_nil process_key))

-- ---- of an accepted request

booking-facts : (b : Books) → SoundBooks b → (r : Request) → Accepts b r → (tests : List Test) (e : Effects) → plan_on b r ≡ booking tests e → BookingFacts b e
booking-facts b sound r a tests e p = subst (λ (plan : Plan). PlanFacts b plan) p (plan-facts b sound r a)

pub records-grow : (b : Books) → SoundBooks b → (r : Request) → Accepts b r → (tests : List Test) (e : Effects) → plan_on b r ≡ booking tests e →
    length (booked e b).records ≡ length b.records + length e.added
records-grow b sound r a tests e p = facts-records-grow b sound e (booking-facts b sound r a tests e p)

pub positions-grow : (b : Books) → SoundBooks b → (r : Request) → Accepts b r → (tests : List Test) (e : Effects) → plan_on b r ≡ booking tests e →
    length (booked e b).positions ≡ length b.positions + absent_from position_key b.positions e.positions
positions-grow b sound r a tests e p = facts-positions-grow b sound e (booking-facts b sound r a tests e p)

-- The answer's row count is the number of rows added.
pub answered-rows : (b : Books) → SoundBooks b → (r : Request) → Accepts b r → (tests : List Test) (e : Effects) → plan_on b r ≡ booking tests e →
    rows_answered e.reply ≡ pos (length e.added)
answered-rows b sound r a tests e p = (booking-facts b sound r a tests e p).answered

pub booked-rows : (b : Books) → SoundBooks b → (r : Request) → Accepts b r → (tests : List Test) (e : Effects) → plan_on b r ≡ booking tests e →
    (rows residual : ℤ) → e.reply ≡ Booked rows residual → rows ≡ pos (length e.added)
booked-rows b sound r a tests e p rows residual h = sym (ap (λ (x : Reply). rows_answered x) h) ∙ answered-rows b sound r a tests e p

-- A closing error adds one row.
pub closing-error-rows : (b : Books) → SoundBooks b → (r : Request) → Accepts b r → (tests : List Test) (e : Effects) → plan_on b r ≡ booking tests e →
    (excess : ℤ) → e.reply ≡ ClosingError excess → length e.added ≡ 1
closing-error-rows b sound r a tests e p excess h =
    sym (ap nat_abs (sym (ap (λ (x : Reply). rows_answered x) h) ∙ answered-rows b sound r a tests e p))

-- A question changes nothing.
pub question-rows : (b : Books) (r : Request) (tests : List Test) (reply : Reply) → plan_on b r ≡ question tests reply → after b r ≡ b
unfolding plan_books
question-rows b r tests reply p = ap (λ (plan : Plan). plan_books plan b) p

-- The records table grows by the rows that the answer says, whatever the request.
pub answered-growth : (b : Books) → SoundBooks b → (r : Request) → Accepts b r → pos (length (after b r).records) ≡ pos (length b.records) +ℤ rows_answered (plan_reply (plan_on b r))
unfolding plan_books plan_reply
answered-growth b sound r a = go (plan_on b r) (plan-facts b sound r a)
  where
    n : ℕ
    n = length b.records

    go : (plan : Plan) → PlanFacts b plan → pos (length (plan_books plan b).records) ≡ pos n +ℤ rows_answered (plan_reply plan)
    go (booking tests e) f = ap pos (facts-records-grow b sound e f) ∙ ap (λ (z : ℤ). pos n +ℤ z) (sym f.answered)
    go (question tests reply) f = sym (ap (λ (z : ℤ). pos n +ℤ z) f ∙ +ℤ_idr (pos n))
    go (day_move tests day) f = sym (+ℤ_idr (pos n))
