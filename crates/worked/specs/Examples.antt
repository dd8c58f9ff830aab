-- Document 01, "Figures to check by hand": P1 to P11 as one table. Each row has the tables at the start, the requests handed in, every answer, and
-- the tables at the end, cell for cell. A table has room for just the rows of its example, or one more; cells that hold no row hold -1, so that
-- a cell touched past the last row would show.
use Rattle.std.specs.Prelude.{ℕ, List, [], ◌∷◌, ◌++◌, map, replicate, ℤ, pos, neg_ℤ, ◌+ℤ◌, ◌-ℤ◌, ◌*ℤ◌}
use Rattle.rules.specs.Request.{Request, trade, separate, transfer, merge}
use Rattle.rules.specs.Tables.{Tables, tables_of}
use Rattle.rules.specs.Call.{one}
use Rattle.rules.specs.Run.{Run, run}
use Rattle.rules.specs.declared.Reply.{Reply}
use Rattle.rules.specs.declared.Reply.TheVariants.{Booked, ClosingError, Refused}

pub record Example : Type 0 where
  pub start : Tables
  pub requests : List Request
  pub replies : List Reply
  pub finish : Tables

-- What the rules make of a row of the table, and what the row says.
abbrev pub found : Example → Run
found e = run e.start (map one e.requests)

abbrev pub stated : Example → Run
stated e = record { replies = e.replies; tables = e.finish }

abbrev pub minus : ℕ → ℤ
minus n = neg_ℤ (pos n)

-- A records row of 14 cells, of which the day of booking is 0 (document 02, K8: "P11's cell 1 and new cells are 0"), and a positions row of 7.
abbrev pub row : (id suf par type st acc ser side qty price long short into : ℤ) → List ℤ
row id suf par type st acc ser side qty price long short into =
    id ∷ suf ∷ par ∷ type ∷ st ∷ acc ∷ ser ∷ side ∷ qty ∷ price ∷ long ∷ short ∷ into ∷ pos 0 ∷ []

abbrev pub position : (acc ser long short cash qty value : ℤ) → List ℤ
position acc ser long short cash qty value = acc ∷ ser ∷ long ∷ short ∷ cash ∷ qty ∷ value ∷ []

abbrev pub joined : List (List ℤ) → List ℤ
joined [] = []
joined (r ∷ rest) = r ++ joined rest

-- A table: its rows, and so many cells that hold no row.
abbrev pub table : ℕ → List (List ℤ) → ℕ → List ℤ
table count rows unused = pos count ∷ joined rows ++ replicate unused (minus 1)

-- The records, with the current day after the count.
abbrev pub records_table : ℕ → List (List ℤ) → ℕ → List ℤ
records_table count rows unused = pos count ∷ pos 0 ∷ joined rows ++ replicate unused (minus 1)

-- Long 100, short 120, buy close 150: books +30 and -120, type 10, excess 30.
abbrev pub P1 : Example
P1 = record {
  start = tables_of (records_table 0 [] 28) (table 1 (position (pos 1) (pos 1) (pos 100) (pos 120) (pos 0) (pos 0) (pos 0) ∷ []) 7);
  requests = trade (pos 7) (pos 1) (pos 1) (pos 3) (pos 150) (pos 5) ∷ [];
  replies = ClosingError (pos 30) ∷ [];
  finish = tables_of
      (records_table 1 (row (pos 7) (pos 0) (pos 0) (pos 10) (pos 0) (pos 1) (pos 1) (pos 3) (pos 150) (pos 5) (pos 30) (minus 120) (pos 0) ∷ []) 14)
      (table 1 (position (pos 1) (pos 1) (pos 130) (pos 0) (pos 0) (pos 150) (pos 750) ∷ []) 7);
}

-- No short open, buy close 100: long +100, type 10, excess 100.
abbrev pub P2 : Example
P2 = record {
  start = tables_of (records_table 0 [] 28) (table 0 [] 14);
  requests = trade (pos 7) (pos 1) (pos 1) (pos 3) (pos 100) (pos 5) ∷ [];
  replies = ClosingError (pos 100) ∷ [];
  finish = tables_of
      (records_table 1 (row (pos 7) (pos 0) (pos 0) (pos 10) (pos 0) (pos 1) (pos 1) (pos 3) (pos 100) (pos 5) (pos 100) (pos 0) (pos 0) ∷ []) 14)
      (table 1 (position (pos 1) (pos 1) (pos 100) (pos 0) (pos 0) (pos 100) (pos 500) ∷ []) 7);
}

-- Short 120, buy close 120: type 0, no excess.
abbrev pub P3 : Example
P3 = record {
  start = tables_of (records_table 0 [] 28) (table 1 (position (pos 1) (pos 1) (pos 0) (pos 120) (pos 0) (pos 0) (pos 0) ∷ []) 7);
  requests = trade (pos 7) (pos 1) (pos 1) (pos 3) (pos 120) (pos 5) ∷ [];
  replies = Booked (pos 1) (pos 0) ∷ [];
  finish = tables_of
      (records_table 1 (row (pos 7) (pos 0) (pos 0) (pos 0) (pos 0) (pos 1) (pos 1) (pos 3) (pos 120) (pos 5) (pos 0) (minus 120) (pos 0) ∷ []) 14)
      (table 1 (position (pos 1) (pos 1) (pos 0) (pos 0) (pos 0) (pos 120) (pos 600) ∷ []) 7);
}

-- Two trades to open, 1 and 2, of a side, merged into 3: `long` and `short` are what each trade books, `average` and `residual` what the paper gives. The merged record alone is left to hold: the totals
-- are its signed quantity, and that times its price (document 02, K7).
abbrev pub merge_of_two : (side q1 p1 q2 p2 long1 short1 long2 short2 average residual : ℤ) → Example
merge_of_two side q1 p1 q2 p2 long1 short1 long2 short2 average residual =
    let held : ℤ = (long1 +ℤ long2) -ℤ (short1 +ℤ short2) in
    record {
      start = tables_of (records_table 0 [] 84) (table 0 [] 7);
      requests =
          trade (pos 1) (pos 4) (pos 9) side q1 p1
          ∷ trade (pos 2) (pos 4) (pos 9) side q2 p2
          ∷ merge (pos 3) (pos 4) (pos 9) (pos 1 ∷ pos 0 ∷ pos 2 ∷ pos 0 ∷ [])
          ∷ [];
      replies = Booked (pos 1) (pos 0) ∷ Booked (pos 1) (pos 0) ∷ Booked (pos 3) residual ∷ [];
      finish = tables_of
          (records_table 5
          (row (pos 1) (pos 0) (pos 0) (pos 0) (pos 1) (pos 4) (pos 9) side q1 p1 long1 short1 (pos 0)
          ∷ row (pos 1) (pos 1) (pos 0) (pos 901) (pos 2) (pos 4) (pos 9) side (neg_ℤ q1) p1 (pos 0) (pos 0) (pos 3)
          ∷ row (pos 2) (pos 0) (pos 0) (pos 0) (pos 1) (pos 4) (pos 9) side q2 p2 long2 short2 (pos 0)
          ∷ row (pos 2) (pos 1) (pos 0) (pos 901) (pos 2) (pos 4) (pos 9) side (neg_ℤ q2) p2 (pos 0) (pos 0) (pos 3)
          ∷ row (pos 3) (pos 0) (pos 0) (pos 901) (pos 0) (pos 4) (pos 9) side (q1 +ℤ q2) average (pos 0) (pos 0) (pos 0)
          ∷ [])
          14)
          (table 1 (position (pos 4) (pos 9) (long1 +ℤ long2) (short1 +ℤ short2) residual held (held *ℤ average) ∷ []) 0);
    }

-- Buys 2 at 10,000,000 and 1 at 10,000,001: average 10,000,000, residual -1.
abbrev pub P4 : Example
P4 = merge_of_two (pos 1) (pos 2) (pos 10000000) (pos 1) (pos 10000001) (pos 2) (pos 0) (pos 1) (pos 0) (pos 10000000) (minus 1)

-- Buys 1 at 10,000,000 and 1 at 10,000,001: average 10,000,001, residual +1; as sells -1.
abbrev pub P5 : Example
P5 = merge_of_two (pos 1) (pos 1) (pos 10000000) (pos 1) (pos 10000001) (pos 1) (pos 0) (pos 1) (pos 0) (pos 10000001) (pos 1)

abbrev pub P5-as-sells : Example
P5-as-sells = merge_of_two (pos 2) (pos 1) (pos 10000000) (pos 1) (pos 10000001) (pos 0) (pos 1) (pos 0) (pos 1) (pos 10000001) (minus 1)

-- Buys 1 at -1 and 1 at 0: by document 02 (K4) "P6 becomes average -1, residual -1".
abbrev pub P6 : Example
P6 = merge_of_two (pos 1) (pos 1) (minus 1) (pos 1) (pos 0) (pos 1) (pos 0) (pos 1) (pos 0) (minus 1) (minus 1)

-- One trade of a quantity, and one more request.
abbrev pub trade_then : ℤ → Request → Reply → List ℤ → Example
trade_then quantity request reply records = record {
  start = tables_of (records_table 0 [] 70) (table 0 [] 7);
  requests = trade (pos 8) (pos 1) (pos 1) (pos 1) quantity (pos 5) ∷ request ∷ [];
  replies = Booked (pos 1) (pos 0) ∷ reply ∷ [];
  finish = tables_of records (table 1 (position (pos 1) (pos 1) quantity (pos 0) (pos 0) quantity (quantity *ℤ pos 5) ∷ []) 0);
}

-- The records table with that trade alone.
abbrev pub trade_alone : ℤ → List ℤ
trade_alone quantity =
    records_table 1 (row (pos 8) (pos 0) (pos 0) (pos 0) (pos 0) (pos 1) (pos 1) (pos 1) quantity (pos 5) quantity (pos 0) (pos 0) ∷ []) 56

-- 100 into 50, 25, 25 is accepted.
abbrev pub P7 : Example
P7 =
    trade_then (pos 100) (separate (pos 8) (pos 0) (pos 1) (pos 1) (pos 50 ∷ pos 25 ∷ pos 25 ∷ [])) (Booked (pos 4) (pos 0))
    (records_table 5
    (row (pos 8) (pos 0) (pos 0) (pos 0) (pos 1) (pos 1) (pos 1) (pos 1) (pos 100) (pos 5) (pos 100) (pos 0) (pos 0)
    ∷ row (pos 8) (pos 1) (pos 0) (pos 6) (pos 2) (pos 1) (pos 1) (pos 1) (minus 100) (pos 5) (pos 0) (pos 0) (pos 0)
    ∷ row (pos 8) (pos 2) (pos 0) (pos 6) (pos 0) (pos 1) (pos 1) (pos 1) (pos 50) (pos 5) (pos 0) (pos 0) (pos 0)
    ∷ row (pos 8) (pos 3) (pos 0) (pos 6) (pos 0) (pos 1) (pos 1) (pos 1) (pos 25) (pos 5) (pos 0) (pos 0) (pos 0)
    ∷ row (pos 8) (pos 4) (pos 0) (pos 6) (pos 0) (pos 1) (pos 1) (pos 1) (pos 25) (pos 5) (pos 0) (pos 0) (pos 0)
    ∷ [])
    0)

-- Into 50, 25, 24 is refused 11.
abbrev pub P8 : Example
P8 =
    trade_then (pos 100) (separate (pos 8) (pos 0) (pos 1) (pos 1) (pos 50 ∷ pos 25 ∷ pos 24 ∷ []))
    (Refused (pos 11) (pos 0)) (trade_alone (pos 100))

-- One part of 1 is refused 3.
abbrev pub P9 : Example
P9 = trade_then (pos 1) (separate (pos 8) (pos 0) (pos 1) (pos 1) (pos 1 ∷ [])) (Refused (pos 3) (pos 0)) (trade_alone (pos 1))

-- The same pair twice: 9, place 1.
abbrev pub P10 : Example
P10 =
    trade_then (pos 100) (merge (pos 9) (pos 1) (pos 1) (pos 8 ∷ pos 0 ∷ pos 8 ∷ pos 0 ∷ []))
    (Refused (pos 9) (pos 1)) (trade_alone (pos 100))

-- Trade 456789, buy open 100 at 1,250,000,000, account 1, series 1; transfer suffix 0 to account 2; separate suffix 2 into 50, 25, 25. Document 02, K7: "P11's rows then end 0, 0 and 100, 125,000,000,000."
abbrev pub P11 : Example
P11 = record {
  start = tables_of (records_table 0 [] 112) (table 0 [] 21);
  requests =
      trade (pos 456789) (pos 1) (pos 1) (pos 1) (pos 100) (pos 1250000000)
      ∷ transfer (pos 456789) (pos 0) (pos 1) (pos 2) (pos 1)
      ∷ separate (pos 456789) (pos 2) (pos 2) (pos 1) (pos 50 ∷ pos 25 ∷ pos 25 ∷ [])
      ∷ [];
  replies = Booked (pos 1) (pos 0) ∷ Booked (pos 2) (pos 0) ∷ Booked (pos 4) (pos 0) ∷ [];
  finish = tables_of
      (records_table 7
      (row (pos 456789) (pos 0) (pos 0) (pos 0) (pos 1) (pos 1) (pos 1) (pos 1) (pos 100) (pos 1250000000) (pos 100) (pos 0) (pos 0)
      ∷ row (pos 456789) (pos 1) (pos 0) (pos 4) (pos 2) (pos 1) (pos 1) (pos 1) (minus 100) (pos 1250000000) (minus 100) (pos 0) (pos 0)
      ∷ row (pos 456789) (pos 2) (pos 0) (pos 4) (pos 1) (pos 2) (pos 1) (pos 1) (pos 100) (pos 1250000000) (pos 100) (pos 0) (pos 0)
      ∷ row (pos 456789) (pos 3) (pos 2) (pos 6) (pos 2) (pos 2) (pos 1) (pos 1) (minus 100) (pos 1250000000) (pos 0) (pos 0) (pos 0)
      ∷ row (pos 456789) (pos 4) (pos 2) (pos 6) (pos 0) (pos 2) (pos 1) (pos 1) (pos 50) (pos 1250000000) (pos 0) (pos 0) (pos 0)
      ∷ row (pos 456789) (pos 5) (pos 2) (pos 6) (pos 0) (pos 2) (pos 1) (pos 1) (pos 25) (pos 1250000000) (pos 0) (pos 0) (pos 0)
      ∷ row (pos 456789) (pos 6) (pos 2) (pos 6) (pos 0) (pos 2) (pos 1) (pos 1) (pos 25) (pos 1250000000) (pos 0) (pos 0) (pos 0)
      ∷ [])
      14)
      (table 2 (position (pos 1) (pos 1) (pos 0) (pos 0) (pos 0) (pos 0) (pos 0) ∷ position (pos 2) (pos 1) (pos 100) (pos 0) (pos 0) (pos 100) (pos 125000000000) ∷ []) 7);
}

-- The table.
abbrev pub examples : List Example
examples = P1 ∷ P2 ∷ P3 ∷ P4 ∷ P5 ∷ P5-as-sells ∷ P6 ∷ P7 ∷ P8 ∷ P9 ∷ P10 ∷ P11 ∷ []
