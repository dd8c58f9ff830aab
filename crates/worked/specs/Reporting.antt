-- 002's sample "for the reporting of the end of day state for a complex scenario" (10.1.1): transaction 123456 over 17, 18 and 19 January 2018, here days 1, 2 and 3; and the requests that book its rows.
-- Every row of it is one that our requests book. Its column H, of adjustments on a later day, has no cell of ours.
use Rattle.std.specs.Prelude.{ℕ, cond, List, [], ◌∷◌, ◌++◌, map, ℤ, pos, length, replicate}
use Rattle.integers.specs.Order.{eq_z, in_range}
use Rattle.rules.specs.Figures.{adjustable, adjusted, inverse, separation_kind}
use Rattle.rules.specs.Request.{Request, trade, separate, transfer, give_up, new_day}
use Rattle.rules.specs.Tables.{Tables, all_tables, record_cells}
use Rattle.rules.specs.Handle.{Answer}
use Rattle.rules.specs.Call.{reportable, handle_call}
use Rattle.rules.specs.Reportable.{reportable_records}
use Rattle.rules.specs.declared.Record.{Record}
use Rattle.rules.specs.declared.Reply.{Reply}
use Rattle.rules.specs.declared.Reply.TheVariants.{Booked, Listed}
use Rattle.rules.specs.declared.Step.TheVariants.{Open, Claim, ApproveGiver, ApproveTaker}
use Rattle.worked.specs.Examples.{Example, minus, position, table, joined}
use Rattle.worked.specs.GiveUps.{process}

-- ---- the table

-- A row has the status that 002 prints, which is that at the end of its own day, and the later day on which it is modified, 0 where there is none. 002 has neither account nor quantity: here the parts
-- of a separation sum to what is separated, and an inverse has minus its parent's quantity.
pub record Row : Type 0 where
  pub day : ℤ
  pub suffix : ℤ
  pub parent : ℤ
  pub status : ℤ
  pub kind : ℤ
  pub later : ℤ
  pub account : ℤ
  pub quantity : ℤ

abbrev pub on : (day suffix parent : ℕ) → (status : ℤ) → (kind later account : ℕ) → (quantity : ℤ) → Row
on day suffix parent status kind later account quantity = record {
  day = pos day;
  suffix = pos suffix;
  parent = pos parent;
  status = status;
  kind = pos kind;
  later = pos later;
  account = pos account;
  quantity = quantity;
}

-- 002's letters: not adjusted, adjusted, inverse.
abbrev pub N : ℤ
N = adjustable

abbrev pub A : ℤ
A = adjusted

abbrev pub I : ℤ
I = inverse

-- Day, suffix, parent, status, type; the later day, account and quantity. 002 leaves the parent of suffix 0 blank, which is 0 here.
abbrev pub sample : List Row
sample =
    on 1 0 0 A 0 0 1 (pos 100)
    ∷ on 1 1 0 I 6 0 1 (minus 100)
    ∷ on 1 2 0 N 6 2 1 (pos 40)
    ∷ on 1 3 0 A 6 0 1 (pos 30)
    ∷ on 1 4 0 A 6 0 1 (pos 20)
    ∷ on 1 5 0 A 6 0 1 (pos 10)
    ∷ on 1 6 3 I 20 0 1 (minus 30)
    ∷ on 1 7 3 N 30 0 2 (pos 30)
    ∷ on 1 8 5 I 20 0 1 (minus 10)
    ∷ on 1 9 5 N 30 0 2 (pos 10)
    ∷ on 1 10 4 I 20 0 1 (minus 20)
    ∷ on 1 11 4 A 30 0 2 (pos 20)
    ∷ on 1 12 11 I 4 0 2 (minus 20)
    ∷ on 1 13 11 N 4 0 3 (pos 20)
    ∷ on 2 14 2 I 6 0 1 (minus 40)
    ∷ on 2 15 2 N 6 3 1 (pos 16)
    ∷ on 2 16 2 N 6 3 1 (pos 12)
    ∷ on 2 17 2 N 6 3 1 (pos 8)
    ∷ on 2 18 2 A 6 0 1 (pos 4)
    ∷ on 2 19 18 I 20 0 1 (minus 4)
    ∷ on 2 20 18 N 30 0 2 (pos 4)
    ∷ on 3 21 15 I 20 0 1 (minus 16)
    ∷ on 3 22 15 N 30 0 2 (pos 16)
    ∷ on 3 23 17 I 20 0 1 (minus 8)
    ∷ on 3 24 17 N 30 0 2 (pos 8)
    ∷ on 3 25 16 I 20 0 1 (minus 12)
    ∷ on 3 26 16 N 30 0 2 (pos 12)
    ∷ []

-- A row as it stands at the end of a day: adjusted where it was modified by then. All are of buys to open in series 1 at price 5; a separation books nothing.
abbrev pub standing : ℤ → Row → Record
standing day r = record {
  id = pos 123456;
  suffix = r.suffix;
  parent = r.parent;
  kind = r.kind;
  status = cond (in_range (pos 1) day r.later) adjusted r.status;
  account = r.account;
  series = pos 1;
  side = pos 1;
  quantity = r.quantity;
  price = pos 5;
  long = cond (eq_z r.kind separation_kind) (pos 0) r.quantity;
  short = pos 0;
  into = pos 0;
  day = r.day;
}

abbrev pub standing_of : ℤ → List Row → List Record
standing_of day [] = []
standing_of day (r ∷ rest) = cond (in_range (pos 1) day r.day) (standing day r ∷ standing_of day rest) (standing_of day rest)

-- The records at the end of a day, and the suffixes that are reported then.
abbrev pub records_at_end : ℤ → List Record
records_at_end day = standing_of day sample

abbrev pub reported_at_end : ℤ → List ℤ
reported_at_end day = map (λ (r : Record). r.suffix) (reportable_records day (records_at_end day))

-- 002's rows with "Yes" in the column "Report?".
abbrev pub first_list : List ℕ
first_list = 2 ∷ 7 ∷ 9 ∷ 13 ∷ []

abbrev pub second_list : List ℕ
second_list = 14 ∷ 15 ∷ 16 ∷ 17 ∷ 20 ∷ []

abbrev pub third_list : List ℕ
third_list = 21 ∷ 22 ∷ 23 ∷ 24 ∷ 25 ∷ 26 ∷ []

-- ---- the history

-- A give-up of a suffix from account 1 to account 2, all its steps.
abbrev pub steps : (process suffix : ℤ) → List Request
steps process suffix =
    map (λ step. give_up step process (pos 123456) suffix (pos 1) (pos 2) (pos 1)) (Open ∷ Claim ∷ ApproveGiver ∷ ApproveTaker ∷ [])

abbrev pub stepped : List Reply
stepped = Booked (pos 0) (pos 0) ∷ Booked (pos 0) (pos 0) ∷ Booked (pos 0) (pos 0) ∷ Booked (pos 2) (pos 0) ∷ []

-- A give-up that is done.
abbrev pub done_for : (number suffix : ℕ) → List ℤ
done_for number suffix = process (pos number) (pos 123456) (pos suffix) (pos 1) (pos 2) (pos 1) (pos 1) (pos 1) (pos 0)

-- Room for 27 records, three positions and seven processes: the records of the table at the end of a day, with so many cells that hold no row.
abbrev pub at_end : (day : ℤ) → (unused : ℕ) → (positions processes : List ℤ) → Tables
at_end day unused positions processes =
    all_tables (pos (length (records_at_end day)) ∷ day ∷ joined (map record_cells (records_at_end day)) ++ replicate unused (minus 1)) positions processes

-- What an account holds.
abbrev pub held : (account long value : ℕ) → List ℤ
held account long value = position (pos account) (pos 1) (pos long) (pos 0) (pos 0) (pos long) (pos value)

abbrev pub empty : Tables
empty = at_end (pos 0) 378 (table 0 [] 21) (table 0 [] 63)

abbrev pub first_end : Tables
first_end = at_end (pos 1) 182 (table 3 (held 1 40 200 ∷ held 2 40 200 ∷ held 3 20 100 ∷ []) 0) (table 3 (done_for 1 3 ∷ done_for 2 5 ∷ done_for 3 4 ∷ []) 36)

abbrev pub second_end : Tables
second_end =
    at_end (pos 2) 84 (table 3 (held 1 36 180 ∷ held 2 44 220 ∷ held 3 20 100 ∷ []) 0) (table 4 (done_for 1 3 ∷ done_for 2 5 ∷ done_for 3 4 ∷ done_for 4 18 ∷ []) 27)

abbrev pub third_end : Tables
third_end =
    at_end (pos 3) 0 (table 3 (held 1 0 0 ∷ held 2 80 400 ∷ held 3 20 100 ∷ []) 0)
    (table 7 (done_for 1 3 ∷ done_for 2 5 ∷ done_for 3 4 ∷ done_for 4 18 ∷ done_for 5 15 ∷ done_for 6 17 ∷ done_for 7 16 ∷ []) 0)

-- The trade, its separation into four, the give-ups of 3, 5 and 4, and the transfer of what was taken up as 11.
abbrev pub first_day : Example
first_day = record {
  start = empty;
  requests =
      new_day (pos 1)
      ∷ trade (pos 123456) (pos 1) (pos 1) (pos 1) (pos 100) (pos 5)
      ∷ separate (pos 123456) (pos 0) (pos 1) (pos 1) (pos 40 ∷ pos 30 ∷ pos 20 ∷ pos 10 ∷ [])
      ∷ steps (pos 1) (pos 3) ++ steps (pos 2) (pos 5) ++ steps (pos 3) (pos 4)
      ++ (transfer (pos 123456) (pos 11) (pos 2) (pos 3) (pos 1) ∷ []);
  replies = Booked (pos 0) (pos 0) ∷ Booked (pos 1) (pos 0) ∷ Booked (pos 5) (pos 0) ∷ stepped ++ stepped ++ stepped ++ (Booked (pos 2) (pos 0) ∷ []);
  finish = first_end;
}

-- The separation of 2 into four, and the give-up of 18.
abbrev pub second_day : Example
second_day = record {
  start = first_end;
  requests = new_day (pos 2) ∷ separate (pos 123456) (pos 2) (pos 1) (pos 1) (pos 16 ∷ pos 12 ∷ pos 8 ∷ pos 4 ∷ []) ∷ steps (pos 4) (pos 18);
  replies = Booked (pos 0) (pos 0) ∷ Booked (pos 5) (pos 0) ∷ stepped;
  finish = second_end;
}

-- The give-ups of 15, 17 and 16.
abbrev pub third_day : Example
third_day = record {
  start = second_end;
  requests = new_day (pos 3) ∷ steps (pos 5) (pos 15) ++ steps (pos 6) (pos 17) ++ steps (pos 7) (pos 16);
  replies = Booked (pos 0) (pos 0) ∷ stepped ++ stepped ++ stepped;
  finish = third_end;
}

-- The list that is answered at a day's end, to six pairs of cells; and as it should be, its suffixes given.
abbrev pub list_at : Tables → Answer
list_at t = handle_call t (reportable 12)

abbrev pub pairs_of : List ℕ → List ℤ
pairs_of [] = []
pairs_of (suffix ∷ rest) = pos 123456 ∷ pos suffix ∷ pairs_of rest

abbrev pub list_of : Tables → List ℕ → Answer
list_of t suffixes = record { reply = Listed (pos (length suffixes)); output = pairs_of suffixes; tables = t }
