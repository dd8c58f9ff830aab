-- A history of three days, of every kind of request, of batches, of replays and of reporting lists, with four refused requests, a batch that stops, a replay up to a refused line and one up to a bad
-- line, another order of its accepted ones, in which each day keeps its requests, and a touching pair that may not be exchanged.
use Rattle.std.specs.Prelude.{ℕ, List, [], ◌∷◌, ◌++◌, ℤ, pos, neg_ℤ, replicate}
use Rattle.rules.specs.Request.{Request, trade, separate, transfer, merge, lineage, give_up, new_day}
use Rattle.rules.specs.Line.{line_of}
use Rattle.rules.specs.Call.{Call, one, trades, replay, reportable}
use Rattle.rules.specs.Tables.{Tables, all_tables}
use Rattle.rules.specs.declared.Step.{Step}
use Rattle.rules.specs.declared.Step.TheVariants.{Open, Claim, Cancel, ApproveGiver, ApproveTaker}
use Rattle.rules.specs.declared.Reply.{Reply}
use Rattle.rules.specs.declared.Reply.TheVariants.{Booked, Lineage, Listed}
use Rattle.history.specs.History.{Entry, entries_touch}
use Rattle.history.specs.ByPlaces.{in_order}

-- Tables with no row; cells that hold no row hold -1.
abbrev pub blank : ℕ → List ℤ
blank cells = pos 0 ∷ replicate cells (neg_ℤ (pos 1))

-- Records begin at day 0.
abbrev pub start : Tables
start = all_tables (pos 0 ∷ blank 312) (blank 65) (blank 20)

-- Tables with as much room and other cells.
abbrev pub other_cells : Tables
other_cells = all_tables (pos 0 ∷ pos 0 ∷ replicate 316 (pos 8)) (pos 0 ∷ replicate 63 (pos 8)) (pos 0 ∷ replicate 26 (pos 8))

-- Trades 1 and 2, the first separated; trade 3, transferred; the parts of 1 merged into 5.
abbrev pub trade1 : Request
trade1 = trade (pos 1) (pos 10) (pos 5) (pos 1) (pos 100) (pos 7)

abbrev pub trade2 : Request
trade2 = trade (pos 2) (pos 20) (pos 5) (pos 2) (pos 50) (pos 9)

abbrev pub separate1 : Request
separate1 = separate (pos 1) (pos 0) (pos 10) (pos 5) (pos 40 ∷ pos 60 ∷ [])

abbrev pub lineage2 : Request
lineage2 = lineage (pos 2) (pos 0)

abbrev pub trade3 : Request
trade3 = trade (pos 3) (pos 30) (pos 6) (pos 1) (pos 5) (neg_ℤ (pos 4))

abbrev pub transfer3 : Request
transfer3 = transfer (pos 3) (pos 0) (pos 30) (pos 31) (pos 6)

abbrev pub merge1 : Request
merge1 = merge (pos 5) (pos 10) (pos 5) (pos 1 ∷ pos 2 ∷ pos 1 ∷ pos 3 ∷ [])

-- Trades 11 and 12 in one call; the second closes 10 of 15.
abbrev pub batch : Call
batch = trades (pos 11 ∷ pos 40 ∷ pos 6 ∷ pos 1 ∷ pos 10 ∷ pos 3 ∷ pos 12 ∷ pos 40 ∷ pos 6 ∷ pos 4 ∷ pos 15 ∷ pos 3 ∷ []) 4

abbrev pub trade13 : Request
trade13 = trade (pos 13) (pos 42) (pos 6) (pos 2) (pos 8) (pos 2)

-- Trade 13, then trade 2 again, where it stops, and trade 14, which is not tried.
abbrev pub stopping : Call
stopping =
    trades
    (pos 13 ∷ pos 42 ∷ pos 6 ∷ pos 2 ∷ pos 8 ∷ pos 2 ∷ pos 2 ∷ pos 20 ∷ pos 5 ∷ pos 2 ∷ pos 50 ∷ pos 9 ∷ pos 14 ∷ pos 42 ∷ pos 6 ∷ pos 2 ∷ pos 8 ∷ pos 2 ∷ [])
    3

abbrev pub trade21 : Request
trade21 = trade (pos 21) (pos 50) (pos 6) (pos 1) (pos 30) (pos 4)

abbrev pub separate21 : Request
separate21 = separate (pos 21) (pos 0) (pos 50) (pos 6) (pos 12 ∷ pos 18 ∷ [])

abbrev pub trade22 : Request
trade22 = trade (pos 22) (pos 51) (pos 6) (pos 2) (pos 9) (pos 3)

abbrev pub day1 : Request
day1 = new_day (pos 1)

-- Five lines: day 1, trade 21 and its separation, then trade 21 again, where it stops, and trade 22, which is not tried.
abbrev pub up_to_refused : Call
up_to_refused = replay (line_of day1 ++ (line_of trade21 ++ (line_of separate21 ++ (line_of trade21 ++ line_of trade22))))

-- Three lines: trade 22, then an empty line, where it stops, and trade 23, which is not read.
abbrev pub up_to_bad : Call
up_to_bad = replay (line_of trade22 ++ (10 ∷ line_of (trade (pos 23) (pos 51) (pos 6) (pos 2) (pos 9) (pos 3))))

-- Process 90 gives trade 2 up from account 20 to account 21.
abbrev pub give_up2 : Step → Request
give_up2 step = give_up step (pos 90) (pos 2) (pos 0) (pos 20) (pos 21) (pos 5)

abbrev pub day4 : Request
day4 = new_day (pos 4)

-- The list, with twenty cells lent for it.
abbrev pub list : Call
list = reportable 20

-- Trade 1 a second time is refused, and so is the lineage of an id that is not there, the taker's approval before the claim, and day 1 a second time. The first day ends with the list, and so does the
-- last; the replay begins the second.
abbrev pub history : List Call
history =
    one trade1 ∷ one trade1 ∷ one trade2 ∷ one separate1 ∷ one (give_up2 Open) ∷ batch ∷ one lineage2 ∷ one (lineage (pos 9) (pos 0)) ∷ one (give_up2 ApproveTaker) ∷ one trade3
    ∷ one (give_up2 Claim) ∷ stopping ∷ list ∷ up_to_refused ∷ one day1 ∷ one (give_up2 ApproveGiver) ∷ one transfer3 ∷ one merge1 ∷ one day4 ∷ up_to_bad ∷ one (give_up2 ApproveTaker) ∷ list ∷ []

abbrev pub entry : Request → Reply → Entry
entry request reply = record { call = one request; reply = reply; output = [] }

-- The first day's records of status 0 and 3; of the last day the inverse of trade 2, whose parent is of the first day, and two of status 0.
abbrev pub first_list : List ℤ
first_list = pos 1 ∷ pos 2 ∷ pos 1 ∷ pos 3 ∷ pos 2 ∷ pos 0 ∷ pos 3 ∷ pos 0 ∷ pos 11 ∷ pos 0 ∷ pos 12 ∷ pos 0 ∷ pos 13 ∷ pos 0 ∷ []

abbrev pub last_list : List ℤ
last_list = pos 2 ∷ pos 1 ∷ pos 2 ∷ pos 2 ∷ pos 22 ∷ pos 0 ∷ []

-- The batch that stopped stands as the trade that it booked, each replay as the requests that it booked.
abbrev pub accepted : List Entry
accepted =
    entry trade1 (Booked (pos 1) (pos 0)) ∷ entry trade2 (Booked (pos 1) (pos 0)) ∷ entry separate1 (Booked (pos 3) (pos 0))
    ∷ entry (give_up2 Open) (Booked (pos 0) (pos 0))
    ∷ record { call = batch; reply = Booked (pos 2) (pos 0); output = pos 0 ∷ pos 5 ∷ [] }
    ∷ entry lineage2 (Lineage (pos 9) (pos 0)) ∷ entry trade3 (Booked (pos 1) (pos 0))
    ∷ entry (give_up2 Claim) (Booked (pos 0) (pos 0)) ∷ entry trade13 (Booked (pos 1) (pos 0))
    ∷ record { call = list; reply = Listed (pos 7); output = first_list }
    ∷ entry day1 (Booked (pos 0) (pos 0))
    ∷ entry trade21 (Booked (pos 1) (pos 0)) ∷ entry separate21 (Booked (pos 3) (pos 0)) ∷ entry (give_up2 ApproveGiver) (Booked (pos 0) (pos 0))
    ∷ entry transfer3 (Booked (pos 2) (pos 0)) ∷ entry merge1 (Booked (pos 3) (pos 0))
    ∷ entry day4 (Booked (pos 0) (pos 0))
    ∷ entry trade22 (Booked (pos 1) (pos 0)) ∷ entry (give_up2 ApproveTaker) (Booked (pos 2) (pos 0))
    ∷ record { call = list; reply = Listed (pos 3); output = last_list }
    ∷ []

-- Trade 3, the batch, trade 2, the opening, trade 1, the lineage, the claim, trade 13, the separation of 1, the list; day 1, the transfer, trade 21, the giver's approval, the merge, the separation of 21;
-- day 4, the taker's approval, trade 22, the list.
abbrev pub places : List ℕ
places = 6 ∷ 4 ∷ 1 ∷ 3 ∷ 0 ∷ 5 ∷ 7 ∷ 8 ∷ 2 ∷ 9 ∷ 10 ∷ 14 ∷ 11 ∷ 13 ∷ 15 ∷ 12 ∷ 16 ∷ 18 ∷ 17 ∷ 19 ∷ []

-- An entry past the end, which no place needs.
abbrev pub past : Entry
past = entry trade1 (Booked (pos 1) (pos 0))

abbrev pub another : List Entry
another = in_order entries_touch past accepted places

-- Both orders end in these rows, after which come the cells that were there.
abbrev pub row : (id suffix parent kind status account series side quantity price long short into day : ℤ) → List ℤ
row id suffix parent kind status account series side quantity price long short into day =
    id ∷ suffix ∷ parent ∷ kind ∷ status ∷ account ∷ series ∷ side ∷ quantity ∷ price ∷ long ∷ short ∷ into ∷ day ∷ []

abbrev pub position : (account series long short cash quantity value : ℤ) → List ℤ
position account series long short cash quantity value = account ∷ series ∷ long ∷ short ∷ cash ∷ quantity ∷ value ∷ []

abbrev pub rows_then : (past_records past_positions past_processes : List ℤ) → Tables
rows_then past_records past_positions past_processes = record {
  records =
      pos 21
      ∷ pos 4
      ∷ row (pos 1) (pos 0) (pos 0) (pos 0) (pos 1) (pos 10) (pos 5) (pos 1) (pos 100) (pos 7) (pos 100) (pos 0) (pos 0) (pos 0)
      ++ row (pos 1) (pos 1) (pos 0) (pos 6) (pos 2) (pos 10) (pos 5) (pos 1) (neg_ℤ (pos 100)) (pos 7) (pos 0) (pos 0) (pos 0) (pos 0)
      ++ row (pos 1) (pos 2) (pos 0) (pos 6) (pos 1) (pos 10) (pos 5) (pos 1) (pos 40) (pos 7) (pos 0) (pos 0) (pos 0) (pos 0)
      ++ row (pos 1) (pos 3) (pos 0) (pos 6) (pos 1) (pos 10) (pos 5) (pos 1) (pos 60) (pos 7) (pos 0) (pos 0) (pos 0) (pos 0)
      ++ row (pos 1) (pos 4) (pos 2) (pos 901) (pos 2) (pos 10) (pos 5) (pos 1) (neg_ℤ (pos 40)) (pos 7) (pos 0) (pos 0) (pos 5) (pos 1)
      ++ row (pos 1) (pos 5) (pos 3) (pos 901) (pos 2) (pos 10) (pos 5) (pos 1) (neg_ℤ (pos 60)) (pos 7) (pos 0) (pos 0) (pos 5) (pos 1)
      ++ row (pos 2) (pos 0) (pos 0) (pos 0) (pos 1) (pos 20) (pos 5) (pos 2) (pos 50) (pos 9) (pos 0) (pos 50) (pos 0) (pos 0)
      ++ row (pos 2) (pos 1) (pos 0) (pos 20) (pos 2) (pos 20) (pos 5) (pos 2) (neg_ℤ (pos 50)) (pos 9) (pos 0) (neg_ℤ (pos 50)) (pos 0) (pos 4)
      ++ row (pos 2) (pos 2) (pos 0) (pos 30) (pos 0) (pos 21) (pos 5) (pos 2) (pos 50) (pos 9) (pos 0) (pos 50) (pos 0) (pos 4)
      ++ row (pos 3) (pos 0) (pos 0) (pos 0) (pos 1) (pos 30) (pos 6) (pos 1) (pos 5) (neg_ℤ (pos 4)) (pos 5) (pos 0) (pos 0) (pos 0)
      ++ row (pos 3) (pos 1) (pos 0) (pos 4) (pos 2) (pos 30) (pos 6) (pos 1) (neg_ℤ (pos 5)) (neg_ℤ (pos 4)) (neg_ℤ (pos 5)) (pos 0) (pos 0) (pos 1)
      ++ row (pos 3) (pos 2) (pos 0) (pos 4) (pos 0) (pos 31) (pos 6) (pos 1) (pos 5) (neg_ℤ (pos 4)) (pos 5) (pos 0) (pos 0) (pos 1)
      ++ row (pos 5) (pos 0) (pos 0) (pos 901) (pos 0) (pos 10) (pos 5) (pos 1) (pos 100) (pos 7) (pos 0) (pos 0) (pos 0) (pos 1)
      ++ row (pos 11) (pos 0) (pos 0) (pos 0) (pos 0) (pos 40) (pos 6) (pos 1) (pos 10) (pos 3) (pos 10) (pos 0) (pos 0) (pos 0)
      ++ row (pos 12) (pos 0) (pos 0) (pos 10) (pos 0) (pos 40) (pos 6) (pos 4) (pos 15) (pos 3) (neg_ℤ (pos 10)) (pos 5) (pos 0) (pos 0)
      ++ row (pos 13) (pos 0) (pos 0) (pos 0) (pos 0) (pos 42) (pos 6) (pos 2) (pos 8) (pos 2) (pos 0) (pos 8) (pos 0) (pos 0)
      ++ row (pos 21) (pos 0) (pos 0) (pos 0) (pos 1) (pos 50) (pos 6) (pos 1) (pos 30) (pos 4) (pos 30) (pos 0) (pos 0) (pos 1)
      ++ row (pos 21) (pos 1) (pos 0) (pos 6) (pos 2) (pos 50) (pos 6) (pos 1) (neg_ℤ (pos 30)) (pos 4) (pos 0) (pos 0) (pos 0) (pos 1)
      ++ row (pos 21) (pos 2) (pos 0) (pos 6) (pos 0) (pos 50) (pos 6) (pos 1) (pos 12) (pos 4) (pos 0) (pos 0) (pos 0) (pos 1)
      ++ row (pos 21) (pos 3) (pos 0) (pos 6) (pos 0) (pos 50) (pos 6) (pos 1) (pos 18) (pos 4) (pos 0) (pos 0) (pos 0) (pos 1)
      ++ row (pos 22) (pos 0) (pos 0) (pos 0) (pos 0) (pos 51) (pos 6) (pos 2) (pos 9) (pos 3) (pos 0) (pos 9) (pos 0) (pos 4)
      ++ past_records;
  positions =
      pos 9
      ∷ position (pos 10) (pos 5) (pos 100) (pos 0) (pos 0) (pos 100) (pos 700)
      ++ position (pos 20) (pos 5) (pos 0) (pos 0) (pos 0) (pos 0) (pos 0)
      ++ position (pos 21) (pos 5) (pos 0) (pos 50) (pos 0) (neg_ℤ (pos 50)) (neg_ℤ (pos 450))
      ++ position (pos 30) (pos 6) (pos 0) (pos 0) (pos 0) (pos 0) (pos 0)
      ++ position (pos 31) (pos 6) (pos 5) (pos 0) (pos 0) (pos 5) (neg_ℤ (pos 20))
      ++ position (pos 40) (pos 6) (pos 0) (pos 5) (pos 0) (neg_ℤ (pos 5)) (neg_ℤ (pos 15))
      ++ position (pos 42) (pos 6) (pos 0) (pos 8) (pos 0) (neg_ℤ (pos 8)) (neg_ℤ (pos 16))
      ++ position (pos 50) (pos 6) (pos 30) (pos 0) (pos 0) (pos 30) (pos 120)
      ++ position (pos 51) (pos 6) (pos 0) (pos 9) (pos 0) (neg_ℤ (pos 9)) (neg_ℤ (pos 27))
      ++ past_positions;
  processes = pos 1 ∷ pos 90 ∷ pos 2 ∷ pos 0 ∷ pos 20 ∷ pos 21 ∷ pos 5 ∷ pos 1 ∷ pos 1 ∷ pos 0 ∷ past_processes;
}

abbrev pub finish : Tables
finish = rows_then (replicate 18 (neg_ℤ (pos 1))) (replicate 2 (neg_ℤ (pos 1))) (replicate 11 (neg_ℤ (pos 1)))

abbrev pub finish_elsewhere : Tables
finish_elsewhere = rows_then (replicate 22 (pos 8)) [] (replicate 17 (pos 8))

-- A give-up of trade 2 that is claimed, and one that is cancelled.
abbrev pub under_way : List Call
under_way = one trade2 ∷ one (give_up2 Open) ∷ one (give_up2 Claim) ∷ []

abbrev pub ended : List Call
ended = one trade2 ∷ one (give_up2 Open) ∷ one (give_up2 Cancel) ∷ []

-- A buy to open, and a sell to close that closes part of it.
abbrev pub buy : Request
buy = trade (pos 1) (pos 10) (pos 5) (pos 1) (pos 100) (pos 7)

abbrev pub sell : Request
sell = trade (pos 2) (pos 10) (pos 5) (pos 4) (pos 60) (pos 8)
