-- What the rules say of a give-up (document 02, K3), by computation on the smallest tables that show it: who may do what and when, what is booked, and which number is given.
-- An edit of a definition that goes wrong there is refused here. Assumes nothing.
use mathlib.Core.Path.{◌≡◌, refl}
use mathlib.Core.Bool.{true, false}
use mathlib.Core.List.{List, [], ◌∷◌, map}
use lib.IntN.{ℤ, pos, neg_ℤ}
use Rattle.rules.specs.Layout.{rows_of}
use Rattle.rules.specs.Request.{Request, separate, transfer, merge, give_up}
use Rattle.rules.specs.Handle.{handle, answered_by}
use Rattle.rules.specs.Tables.{Tables, all_tables, with_processes, processes_layout}
use Rattle.rules.specs.Touching.{touch}
use Rattle.rules.specs.SmallTables.{empty_cells, empty_tables, buy, run_of, records_after, positions_after}
use Rattle.rules.specs.declared.Record.{Record}
use Rattle.rules.specs.declared.Position.{Position}
use Rattle.rules.specs.declared.ProcessRow.{ProcessRow}
use Rattle.rules.specs.declared.Step.{Step}
use Rattle.rules.specs.declared.Step.TheVariants.{Open, Claim, Cancel, Refuse, ApproveGiver, ApproveTaker}
use Rattle.rules.specs.declared.Reply.{Reply}
use Rattle.rules.specs.declared.Reply.TheVariants.{Booked, Refused}
use Rattle.rules.proofs.Computed.{Computed}

-- Room for four records, two positions and two processes.
abbrev small : Tables
small = empty_tables 57 14 18

-- Process 9 gives trade 7, of 100, up from account 1 to account 2.
abbrev step9 : Step → Request
step9 step = give_up step (pos 9) (pos 7) (pos 0) (pos 1) (pos 2) (pos 1)

-- The replies to some steps after the trade and the opening.
abbrev replies_to : List Step → List Reply
replies_to steps = (run_of (run_of small (buy (pos 7) (pos 1) ∷ step9 Open ∷ [])).tables (map step9 steps)).replies

abbrev afterwards : List Step → List Request
afterwards steps = buy (pos 7) (pos 1) ∷ step9 Open ∷ map step9 steps

abbrev no_row : Reply
no_row = Booked (pos 0) (pos 0)

abbrev out : Reply
out = Refused (pos 18) (pos 0)

-- A give-up from its opening to the booked rows: types 20 and 30, the position moved from the old account to the new, the process done.
pub booked-by-the-last-approval : replies_to (Claim ∷ ApproveGiver ∷ ApproveTaker ∷ []) ≡ no_row ∷ no_row ∷ Booked (pos 2) (pos 0) ∷ []
unfolding Computed
booked-by-the-last-approval = refl

pub approved-before-the-claim : replies_to (ApproveGiver ∷ Claim ∷ ApproveTaker ∷ []) ≡ no_row ∷ no_row ∷ Booked (pos 2) (pos 0) ∷ []
unfolding Computed
approved-before-the-claim = refl

pub giver-last : replies_to (Claim ∷ ApproveTaker ∷ ApproveGiver ∷ []) ≡ no_row ∷ no_row ∷ Booked (pos 2) (pos 0) ∷ []
unfolding Computed
giver-last = refl

pub types-and-accounts :
    map (λ (r : Record). r.kind ∷ r.status ∷ r.account ∷ r.quantity ∷ r.long ∷ []) (records_after small (afterwards (Claim ∷ ApproveGiver ∷ ApproveTaker ∷ [])))
    ≡ (pos 0 ∷ pos 1 ∷ pos 1 ∷ pos 100 ∷ pos 100 ∷ [])
    ∷ (pos 20 ∷ pos 2 ∷ pos 1 ∷ neg_ℤ (pos 100) ∷ neg_ℤ (pos 100) ∷ [])
    ∷ (pos 30 ∷ pos 0 ∷ pos 2 ∷ pos 100 ∷ pos 100 ∷ [])
    ∷ []
unfolding Computed
types-and-accounts = refl

pub position-moves :
    map (λ (p : Position). p.long) (positions_after small (afterwards (Claim ∷ ApproveGiver ∷ ApproveTaker ∷ []))) ≡ pos 0 ∷ pos 100 ∷ []
unfolding Computed
position-moves = refl

-- The approvals and the stage after some steps.
abbrev progress : List Step → List (List ℤ)
progress steps =
    map (λ (p : ProcessRow). p.giver ∷ p.taker ∷ p.stage ∷ []) (rows_of processes_layout (run_of small (afterwards steps)).tables.processes)

pub stages :
    map progress ([] ∷ (Claim ∷ []) ∷ (Refuse ∷ []) ∷ (Cancel ∷ []) ∷ (ApproveGiver ∷ []) ∷ (Claim ∷ ApproveTaker ∷ []) ∷ (Claim ∷ ApproveTaker ∷ ApproveGiver ∷ []) ∷ [])
    ≡ ((pos 0 ∷ pos 0 ∷ pos 6 ∷ []) ∷ [])
    ∷ ((pos 0 ∷ pos 0 ∷ pos 9 ∷ []) ∷ [])
    ∷ ((pos 0 ∷ pos 0 ∷ pos 10 ∷ []) ∷ [])
    ∷ ((pos 0 ∷ pos 0 ∷ pos 12 ∷ []) ∷ [])
    ∷ ((pos 1 ∷ pos 0 ∷ pos 6 ∷ []) ∷ [])
    ∷ ((pos 0 ∷ pos 1 ∷ pos 9 ∷ []) ∷ [])
    ∷ ((pos 1 ∷ pos 1 ∷ pos 0 ∷ []) ∷ [])
    ∷ []
unfolding Computed
stages = refl

-- The record's status: 3 from the opening on, 0 again after a cancellation or a refusal.
pub statuses :
    map (λ (steps : List Step). map (λ (r : Record). r.status) (records_after small (afterwards steps))) ([] ∷ (Claim ∷ []) ∷ (Refuse ∷ []) ∷ (Cancel ∷ []) ∷ (ApproveGiver ∷ []) ∷ [])
    ≡ (pos 3 ∷ []) ∷ (pos 3 ∷ []) ∷ (pos 0 ∷ []) ∷ (pos 0 ∷ []) ∷ (pos 3 ∷ []) ∷ []
unfolding Computed
statuses = refl

-- "the taker's only after the claim"; "a repeated approval"; cancel, refuse and claim "while pending"; nothing once it is done.
pub out-of-turn :
    map replies_to
    ((ApproveTaker ∷ []) ∷ (ApproveGiver ∷ ApproveGiver ∷ []) ∷ (Claim ∷ ApproveTaker ∷ ApproveTaker ∷ []) ∷ (Claim ∷ Cancel ∷ []) ∷ (Claim ∷ Refuse ∷ []) ∷ (Claim ∷ Claim ∷ [])
    ∷ (Cancel ∷ ApproveGiver ∷ []) ∷ (Refuse ∷ Claim ∷ []) ∷ (Open ∷ []) ∷ [])
    ≡ (out ∷ []) ∷ (no_row ∷ out ∷ []) ∷ (no_row ∷ no_row ∷ out ∷ []) ∷ (no_row ∷ out ∷ []) ∷ (no_row ∷ out ∷ []) ∷ (no_row ∷ out ∷ [])
    ∷ (no_row ∷ out ∷ []) ∷ (no_row ∷ out ∷ []) ∷ (out ∷ []) ∷ []
unfolding Computed
out-of-turn = refl

-- After the trade and the opening: an unknown process, figures unlike the row's and another transaction are 18, before 5; equal accounts and a process id out of range are 3, before 18.
pub eighteen-after-three :
    (run_of small
    (buy (pos 7) (pos 1) ∷ step9 Open
    ∷ give_up Claim (pos 8) (pos 7) (pos 0) (pos 1) (pos 2) (pos 1)
    ∷ give_up Claim (pos 9) (pos 6) (pos 0) (pos 1) (pos 2) (pos 1)
    ∷ give_up Claim (pos 9) (pos 7) (pos 0) (pos 1) (pos 3) (pos 1)
    ∷ give_up Claim (pos 8) (pos 7) (pos 0) (pos 1) (pos 1) (pos 1)
    ∷ give_up Claim (pos 0) (pos 7) (pos 0) (pos 1) (pos 2) (pos 1)
    ∷ [])).replies
    ≡ Booked (pos 1) (pos 0) ∷ no_row ∷ out ∷ out ∷ out ∷ Refused (pos 3) (pos 0) ∷ Refused (pos 3) (pos 0) ∷ []
unfolding Computed
eighteen-after-three = refl

-- Opening tests the record by 5 to 8: no record, another account, adjusted.
pub opening-tests-the-record :
    (run_of small
    (step9 Open ∷ buy (pos 7) (pos 1)
    ∷ give_up Open (pos 9) (pos 7) (pos 0) (pos 3) (pos 2) (pos 1)
    ∷ separate (pos 7) (pos 0) (pos 1) (pos 1) (pos 60 ∷ pos 40 ∷ [])
    ∷ step9 Open
    ∷ [])).replies
    ≡ Refused (pos 5) (pos 0) ∷ Booked (pos 1) (pos 0) ∷ Refused (pos 6) (pos 0) ∷ Booked (pos 3) (pos 0) ∷ Refused (pos 7) (pos 0) ∷ []
unfolding Computed
opening-tests-the-record = refl

-- "Adjusting or opening on status 3 is refused 17".
pub seventeen :
    (run_of small
    (buy (pos 7) (pos 1) ∷ step9 Open
    ∷ separate (pos 7) (pos 0) (pos 1) (pos 1) (pos 60 ∷ pos 40 ∷ [])
    ∷ transfer (pos 7) (pos 0) (pos 1) (pos 2) (pos 1)
    ∷ give_up Open (pos 8) (pos 7) (pos 0) (pos 1) (pos 2) (pos 1)
    ∷ [])).replies
    ≡ Booked (pos 1) (pos 0) ∷ no_row ∷ Refused (pos 17) (pos 0) ∷ Refused (pos 17) (pos 0) ∷ Refused (pos 17) (pos 0) ∷ []
unfolding Computed
seventeen = refl

-- Two trades, the first adjusted, the second under give-up: "a merge's first source failing it gives number and place".
pub first-source-gives-the-number :
    (run_of (empty_tables 141 14 18)
    (buy (pos 7) (pos 1) ∷ buy (pos 6) (pos 1) ∷ step9 Open
    ∷ separate (pos 6) (pos 0) (pos 1) (pos 1) (pos 60 ∷ pos 40 ∷ [])
    ∷ merge (pos 5) (pos 1) (pos 1) (pos 6 ∷ pos 2 ∷ pos 7 ∷ pos 0 ∷ pos 6 ∷ pos 0 ∷ [])
    ∷ merge (pos 5) (pos 1) (pos 1) (pos 6 ∷ pos 0 ∷ pos 7 ∷ pos 0 ∷ [])
    ∷ [])).replies
    ≡ Booked (pos 1) (pos 0) ∷ Booked (pos 1) (pos 0) ∷ no_row ∷ Booked (pos 3) (pos 0) ∷ Refused (pos 17) (pos 1) ∷ Refused (pos 7) (pos 0) ∷ []
unfolding Computed
first-source-gives-the-number = refl

-- A process table without room: 23, last; where the record's account differs, 6.
pub its-own-room-last :
    (run_of (empty_tables 57 14 8) (buy (pos 7) (pos 1) ∷ step9 Open ∷ give_up Open (pos 9) (pos 7) (pos 0) (pos 3) (pos 2) (pos 1) ∷ [])).replies
    ≡ Booked (pos 1) (pos 0) ∷ Refused (pos 23) (pos 0) ∷ Refused (pos 6) (pos 0) ∷ []
unfolding Computed
its-own-room-last = refl

-- The call that completes is refused 14 where its two rows have no room, and changes nothing: the process stays claimed.
pub completing-needs-room :
    (run_of (empty_tables 29 14 18) (afterwards (Claim ∷ ApproveGiver ∷ ApproveTaker ∷ ApproveTaker ∷ []))).replies
    ≡ Booked (pos 1) (pos 0) ∷ no_row ∷ no_row ∷ no_row ∷ Refused (pos 14) (pos 0) ∷ Refused (pos 14) (pos 0) ∷ []
unfolding Computed
completing-needs-room = refl

-- An unsound process table: a step is refused 19, after 2; a trade neither reads nor changes it.
pub nineteen-after-two :
    map (λ (t : Tables). (handle t (step9 Open)).reply)
    (all_tables (empty_cells 57) (empty_cells 14) (pos 1 ∷ []) ∷ all_tables (empty_cells 57) [] (pos 1 ∷ []) ∷ all_tables [] [] [] ∷ [])
    ≡ Refused (pos 19) (pos 0) ∷ Refused (pos 2) (pos 0) ∷ Refused (pos 1) (pos 0) ∷ []
unfolding Computed
nineteen-after-two = refl

pub trade-leaves-processes :
    handle (all_tables (empty_cells 57) (empty_cells 14) (pos 1 ∷ [])) (buy (pos 7) (pos 1))
    ≡ answered_by (Booked (pos 1) (pos 0)) (with_processes (pos 1 ∷ []) (handle small (buy (pos 7) (pos 1))).tables)
unfolding Computed
trade-leaves-processes = refl

-- A foreign table: a pending row with both approvals, which the claim completes; a claimed row with both, which nothing ends.
abbrev foreign : ℤ → Tables
foreign stage =
    with_processes (pos 1 ∷ pos 9 ∷ pos 7 ∷ pos 0 ∷ pos 1 ∷ pos 2 ∷ pos 1 ∷ pos 1 ∷ pos 1 ∷ stage ∷ []) (run_of small (buy (pos 7) (pos 1) ∷ step9 Open ∷ [])).tables

pub claim-may-complete : (handle (foreign (pos 6)) (step9 Claim)).reply ≡ Booked (pos 2) (pos 0)
unfolding Computed
claim-may-complete = refl

pub nothing-ends-it :
    map (λ (step : Step). (handle (foreign (pos 9)) (step9 step)).reply) (Claim ∷ Cancel ∷ Refuse ∷ ApproveGiver ∷ ApproveTaker ∷ []) ≡ out ∷ out ∷ out ∷ out ∷ out ∷ []
unfolding Computed
nothing-ends-it = refl

-- "7 meaning status not 3": a pending process whose record has status 0, on which no step but an opening is accepted.
pub later-steps-ask-for-three :
    map (λ (step : Step). (handle (with_processes (pos 1 ∷ pos 9 ∷ pos 7 ∷ pos 0 ∷ pos 1 ∷ pos 2 ∷ pos 1 ∷ pos 0 ∷ pos 0 ∷ pos 6 ∷ []) (run_of small (buy (pos 7) (pos 1) ∷ [])).tables) (step9 step)).reply)
    (Claim ∷ Cancel ∷ Refuse ∷ ApproveGiver ∷ [])
    ≡ Refused (pos 7) (pos 0) ∷ Refused (pos 7) (pos 0) ∷ Refused (pos 7) (pos 0) ∷ Refused (pos 7) (pos 0) ∷ []
unfolding Computed
later-steps-ask-for-three = refl

-- Touching: the process id is among the ids, one set with the transaction ids; both accounts count.
pub process-id-touches :
    map (touch (step9 Claim)) (buy (pos 9) (pos 3) ∷ buy (pos 7) (pos 3) ∷ buy (pos 6) (pos 1) ∷ buy (pos 6) (pos 2) ∷ buy (pos 6) (pos 3) ∷ [])
    ≡ true ∷ true ∷ true ∷ true ∷ false ∷ []
unfolding Computed
process-id-touches = refl
