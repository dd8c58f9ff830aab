-- Give-ups (document 02, K3) as a table, like that of document 01's figures: one from its opening to the booked rows, one that the taker refuses, one that is cancelled, and steps that are
-- refused on the way. Trade 456789 of P11, given up from account 1 to account 2 by process 77.
use Rattle.std.specs.Prelude.{List, [], ◌∷◌, ℤ, pos}
use Rattle.rules.specs.Request.{Request, trade, separate, give_up}
use Rattle.rules.specs.Tables.{Tables, all_tables}
use Rattle.rules.specs.declared.Reply.{Reply}
use Rattle.rules.specs.declared.Reply.TheVariants.{Booked, Refused}
use Rattle.rules.specs.declared.Step.{Step}
use Rattle.rules.specs.declared.Step.TheVariants.{Open, Claim, Cancel, Refuse, ApproveGiver, ApproveTaker}
use Rattle.worked.specs.Examples.{Example, minus, row, position, table, records_table}

-- A process row of 9 cells.
abbrev pub process : (id transaction suffix giving taking series giver taker stage : ℤ) → List ℤ
process id transaction suffix giving taking series giver taker stage =
    id ∷ transaction ∷ suffix ∷ giving ∷ taking ∷ series ∷ giver ∷ taker ∷ stage ∷ []

-- The trade, and a step on it.
abbrev pub given : Request
given = trade (pos 456789) (pos 1) (pos 1) (pos 1) (pos 100) (pos 1250000000)

abbrev pub step : Step → Request
step s = give_up s (pos 77) (pos 456789) (pos 0) (pos 1) (pos 2) (pos 1)

-- Room for three records, two positions and two processes.
abbrev pub start : Tables
start = all_tables (records_table 0 [] 42) (table 0 [] 14) (table 0 [] 18)

-- The trade's row in a status, and the process row with its approvals and stage.
abbrev pub trade_row : ℤ → List ℤ
trade_row status = row (pos 456789) (pos 0) (pos 0) (pos 0) status (pos 1) (pos 1) (pos 1) (pos 100) (pos 1250000000) (pos 100) (pos 0) (pos 0)

abbrev pub process_row : (giver taker stage : ℤ) → List ℤ
process_row giver taker stage = process (pos 77) (pos 456789) (pos 0) (pos 1) (pos 2) (pos 1) giver taker stage

-- An example: the trade, its opening, and some steps more with their replies.
abbrev pub after_opening : List Request → List Reply → Tables → Example
after_opening requests replies finish = record {
  start = start;
  requests = given ∷ step Open ∷ requests;
  replies = Booked (pos 1) (pos 0) ∷ Booked (pos 0) (pos 0) ∷ replies;
  finish = finish;
}

-- Ended without booking: the record is adjustable again.
abbrev pub ended : ℤ → Tables
ended stage =
    all_tables (records_table 1 (trade_row (pos 0) ∷ []) 28) (table 1 (position (pos 1) (pos 1) (pos 100) (pos 0) (pos 0) (pos 100) (pos 125000000000) ∷ []) 7) (table 1 (process_row (pos 0) (pos 0) stage ∷ []) 9)

-- The giver's clearing member approves while it is pending, the taker claims, and the taker's clearing member approves: before the claim that is refused 18. Meanwhile the record
-- can't be separated (17).
abbrev pub booked : Example
booked =
    after_opening
    (step ApproveTaker ∷ step ApproveGiver ∷ separate (pos 456789) (pos 0) (pos 1) (pos 1) (pos 50 ∷ pos 50 ∷ []) ∷ step Claim ∷ step ApproveTaker ∷ [])
    (Refused (pos 18) (pos 0) ∷ Booked (pos 0) (pos 0) ∷ Refused (pos 17) (pos 0) ∷ Booked (pos 0) (pos 0) ∷ Booked (pos 2) (pos 0) ∷ [])
    (all_tables
    (records_table 3
    (trade_row (pos 1)
    ∷ row (pos 456789) (pos 1) (pos 0) (pos 20) (pos 2) (pos 1) (pos 1) (pos 1) (minus 100) (pos 1250000000) (minus 100) (pos 0) (pos 0)
    ∷ row (pos 456789) (pos 2) (pos 0) (pos 30) (pos 0) (pos 2) (pos 1) (pos 1) (pos 100) (pos 1250000000) (pos 100) (pos 0) (pos 0)
    ∷ [])
    0)
    (table 2 (position (pos 1) (pos 1) (pos 0) (pos 0) (pos 0) (pos 0) (pos 0) ∷ position (pos 2) (pos 1) (pos 100) (pos 0) (pos 0) (pos 100) (pos 125000000000) ∷ []) 0)
    (table 1 (process_row (pos 1) (pos 1) (pos 0) ∷ []) 9))

-- The taker refuses; a claim afterwards is out of turn.
abbrev pub refused_by_taker : Example
refused_by_taker = after_opening (step Refuse ∷ step Claim ∷ []) (Booked (pos 0) (pos 0) ∷ Refused (pos 18) (pos 0) ∷ []) (ended (pos 10))

-- The initiator cancels; the process id is used, so it can't be opened again (18).
abbrev pub cancelled : Example
cancelled = after_opening (step Cancel ∷ step Open ∷ []) (Booked (pos 0) (pos 0) ∷ Refused (pos 18) (pos 0) ∷ []) (ended (pos 12))

abbrev pub give_ups : List Example
give_ups = booked ∷ refused_by_taker ∷ cancelled ∷ []
