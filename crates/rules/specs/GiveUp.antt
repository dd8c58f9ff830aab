-- Document 02, K3, "Give-up and take-up": every step "names process, transaction, both accounts and series".
use Rattle.std.specs.Prelude.{Bool, true, false, cond, not, ◌&&◌, ◌||◌, List, [], ◌∷◌, ℤ, pos}
use Rattle.std.proofs.Math.Option.{Option, none, some}
use Rattle.integers.specs.Order.{eq_z}
use Rattle.rules.specs.Figures.{valid_id, is_to_close, adjustable, under_give_up, give_up_kind, take_up_kind}
use Rattle.rules.specs.Keyed.{is_some}
use Rattle.rules.specs.Rows.{with_status}
use Rattle.rules.specs.ProcessRows.{pending, claimed, refused, cancelled, done, with_progress, with_stage, opened_process, the_process}
use Rattle.rules.specs.Refusal.{Test, test}
use Rattle.rules.specs.Plan.{Effects, Plan, booking, with_process_row}
use Rattle.rules.specs.NamedRecord.{the_record, next_suffix, is_elsewhere, status_test}
use Rattle.rules.specs.Transfer.{transfer_figures, holds_too_little, transfer_effects}
use Rattle.rules.specs.declared.Record.{Record}
use Rattle.rules.specs.declared.Position.{Position}
use Rattle.rules.specs.declared.ProcessRow.{ProcessRow}
use Rattle.rules.specs.declared.Step.{Step}
use Rattle.rules.specs.declared.Step.TheVariants.{Open, Claim, Cancel, Refuse, ApproveGiver, ApproveTaker}
use Rattle.rules.specs.declared.Reply.TheVariants.{Booked}

-- 3: every figure in its range; "Equal accounts: 3"
unfoldable pub give_up_figures : (process id suffix giving taking series : ℤ) → Bool
give_up_figures process id suffix giving taking series = valid_id process && transfer_figures id suffix giving taking series

abbrev pub is_opening : Step → Bool
is_opening Open = true
is_opening Claim = false
is_opening Cancel = false
is_opening Refuse = false
is_opening ApproveGiver = false
is_opening ApproveTaker = false

-- ---- whose turn it is

unfoldable pub is_at : ℤ → ProcessRow → Bool
is_at stage p = eq_z p.stage stage

-- "While pending, the initiator may cancel and the taker claim or refuse. The giver's clearing member approves any time before the end, the taker's only after the claim.";
-- "a repeated approval" is out of turn too. The process of an opening is not there yet.
unfoldable pub has_turn : Step → ProcessRow → Bool
has_turn Open p = false
has_turn Claim p = is_at pending p
has_turn Cancel p = is_at pending p
has_turn Refuse p = is_at pending p
has_turn ApproveGiver p = (is_at pending p || is_at claimed p) && eq_z p.giver (pos 0)
has_turn ApproveTaker p = is_at claimed p && eq_z p.taker (pos 0)

-- The row's own figures are those that the step names; its process id and transaction id are, since it was found by them.
unfoldable pub has_figures : (suffix giving taking series : ℤ) → ProcessRow → Bool
has_figures suffix giving taking series p =
    eq_z p.suffix suffix && eq_z p.giving giving && eq_z p.taking taking && eq_z p.series series

unfoldable pub may_step : Step → (suffix giving taking series : ℤ) → Option ProcessRow → Bool
may_step step suffix giving taking series none = false
may_step step suffix giving taking series (some p) = has_figures suffix giving taking series p && has_turn step p

-- 18: "A step out of turn, a repeated approval, an unknown process, a used process id or figures unlike the row's are refused 18, after 3." `used` is the transaction id that the
-- process id is used for, where it is; `found` the process of the named process id and transaction id.
unfoldable pub is_out_of_turn : Step → (suffix giving taking series : ℤ) → (used : Option ℤ) → (found : Option ProcessRow) → Bool
is_out_of_turn step suffix giving taking series used found = cond (is_opening step) (is_some used) (not (may_step step suffix giving taking series found))

-- ---- what a step does

-- What a step makes of the process; what an opening has made.
unfoldable pub stepped : Step → ProcessRow → ProcessRow
stepped Open p = p
stepped Claim p = with_stage claimed p
stepped Cancel p = with_stage cancelled p
stepped Refuse p = with_stage refused p
stepped ApproveGiver p = with_progress p (pos 1) p.taker p.stage
stepped ApproveTaker p = with_progress p p.giver (pos 1) p.stage

-- "claim and both approvals"
unfoldable pub is_complete : ProcessRow → Bool
is_complete p = is_at claimed p && eq_z p.giver (pos 1) && eq_z p.taker (pos 1)

-- 7, of the record: an opening asks for status 0, "17, one test with 7"; "Later steps test the record by 5 to 8 too, 7 meaning status not 3."
unfoldable pub step_status_test : Step → Record → Test
step_status_test step r = cond (is_opening step) (status_test r) (test 7 (not (eq_z r.status under_give_up)))

-- Opening: "the status becomes 3". "Cancelled or refused sets the record back to 0." The other steps leave the record.
unfoldable pub record_after : Step → Record → List Record
record_after Open r = with_status under_give_up r ∷ []
record_after Claim r = []
record_after Cancel r = with_status adjustable r ∷ []
record_after Refuse r = with_status adjustable r ∷ []
record_after ApproveGiver r = []
record_after ApproveTaker r = []

-- A step that does not complete the give-up adds no row.
abbrev pub step_effects : Step → Record → Effects
step_effects step r = record {
  changed = record_after step r;
  added = [];
  positions = [];
  process = none;
  reply = Booked (pos 0) (pos 0);
}

-- A process that is complete is done.
unfoldable pub finished : ProcessRow → ProcessRow
finished p = with_stage (cond (is_complete p) done p.stage) p

-- "The call that completes claim and both approvals books an inverse row of type 020 in the old account and a row of type 030 in the new, all else as in a transfer". `p` is what the
-- step makes of the process; every step writes its row.
unfoldable pub give_up_effects : Step → (today : ℤ) → Record → ProcessRow → (next taking : ℤ) → (old new : Position) → Effects
give_up_effects step today r p next taking old new =
    with_process_row (finished p) (cond (is_complete p) (transfer_effects give_up_kind take_up_kind today r next taking old new) (step_effects step r))

-- The process that a step finds, or that an opening makes.
unfoldable pub process_before : Step → (process id suffix giving taking series : ℤ) → Option ProcessRow → ProcessRow
process_before step process id suffix giving taking series found = cond (is_opening step) (opened_process process id suffix giving taking series) (the_process found)

-- Tests 5 to 8 as in a transfer; "if 12 to 16 applies" of the call that completes: a step that adds no row and moves no position has none of them. An opening has "its own room last (23)":
-- the plan's process row brings 19 and 23. `today` is the current day, `found_record` the named record, `greatest` the greatest suffix of its id, `old` and `new` the positions of the two accounts.
unfoldable pub give_up_plan : Step → (today process id suffix giving taking series : ℤ) → (used : Option ℤ) → (found : Option ProcessRow) → (found_record : Option Record) → (greatest : Option ℤ)
    → (old new : Position) → Plan
give_up_plan step today process id suffix giving taking series used found found_record greatest old new =
    let r : Record = the_record found_record in
    let p : ProcessRow = stepped step (process_before step process id suffix giving taking series found) in
    booking
    (test 3 (not (give_up_figures process id suffix giving taking series))
    ∷ test 18 (is_out_of_turn step suffix giving taking series used found)
    ∷ test 5 (not (is_some found_record))
    ∷ test 6 (is_elsewhere giving series r)
    ∷ step_status_test step r
    ∷ test 8 (is_to_close r.side)
    ∷ test 12 (is_complete p && holds_too_little r old)
    ∷ [])
    (give_up_effects step today r p (next_suffix greatest) taking old new)
