-- The figures of document 01 that carry no P, the slips of "Slips a tired clerk makes", and document 02's halves away from zero (K4), as rows of the same shape.
use Rattle.std.specs.Prelude.{List, [], ◌∷◌, ℤ, pos}
use Rattle.rules.specs.Tables.{tables_of}
use Rattle.rules.specs.Request.{Request, trade, separate, transfer, merge, lineage}
use Rattle.rules.specs.declared.Reply.TheVariants.{Booked, Lineage, Refused}
use Rattle.worked.specs.Examples.{Example, minus, merge_of_two, row, position, table, records_table}

-- Quantity 1,000,000 is accepted.
abbrev pub most_accepted : Example
most_accepted = record {
  start = tables_of (records_table 0 [] 14) (table 0 [] 7);
  requests = trade (pos 7) (pos 1) (pos 1) (pos 2) (pos 1000000) (minus 1000000000000) ∷ [];
  replies = Booked (pos 1) (pos 0) ∷ [];
  finish = tables_of
      (records_table 1
      (row (pos 7) (pos 0) (pos 0) (pos 0) (pos 0) (pos 1) (pos 1) (pos 2) (pos 1000000) (minus 1000000000000) (pos 0) (pos 1000000) (pos 0) ∷ [])
      0)
      (table 1 (position (pos 1) (pos 1) (pos 0) (pos 1000000) (pos 0) (minus 1000000) (pos 1000000000000000000) ∷ []) 0);
}

-- A request that is refused and leaves the tables as they are.
abbrev pub refused_on : List ℤ → List ℤ → Request → ℤ → ℤ → Example
refused_on records positions request number place = record {
  start = tables_of records positions;
  requests = request ∷ [];
  replies = Refused number place ∷ [];
  finish = tables_of records positions;
}

-- 1,000,001 is refused 3.
abbrev pub more_refused : Example
more_refused = refused_on (records_table 0 [] 14) (table 0 [] 7) (trade (pos 7) (pos 1) (pos 1) (pos 1) (pos 1000001) (pos 5)) (pos 3) (pos 0)

-- An empty slice: 1.
abbrev pub empty_slice : Example
empty_slice = refused_on [] [] (trade (pos 7) (pos 1) (pos 1) (pos 1) (pos 100) (pos 5)) (pos 1) (pos 0)

-- Both tables a lone 0: by document 02 (K8) "two lone 0s now refuse a trade 1; records 0, 0 refuse it 14".
abbrev pub lone_zeros : Example
lone_zeros = refused_on (pos 0 ∷ []) (pos 0 ∷ []) (trade (pos 7) (pos 1) (pos 1) (pos 1) (pos 100) (pos 5)) (pos 1) (pos 0)

abbrev pub headers_alone : Example
headers_alone = refused_on (pos 0 ∷ pos 0 ∷ []) (pos 0 ∷ []) (trade (pos 7) (pos 1) (pos 1) (pos 1) (pos 100) (pos 5)) (pos 14) (pos 0)

-- "Dividing V by Q toward zero: V = -3 with Q = 4 gives -1, not 0": buys 3 at -1 and 1 at 0.
abbrev pub below_zero : Example
below_zero = merge_of_two (pos 1) (pos 3) (minus 1) (pos 1) (pos 0) (pos 3) (pos 0) (pos 1) (pos 0) (minus 1) (minus 1)

-- "negating every price negates the average" (02, K4), on both sides: P6 at 1 and 0, and both as sells.
abbrev pub P6-mirrored : Example
P6-mirrored = merge_of_two (pos 1) (pos 1) (pos 1) (pos 1) (pos 0) (pos 1) (pos 0) (pos 1) (pos 0) (pos 1) (pos 1)

abbrev pub P6-as-sells : Example
P6-as-sells = merge_of_two (pos 2) (pos 1) (minus 1) (pos 1) (pos 0) (pos 0) (pos 1) (pos 0) (pos 1) (minus 1) (pos 1)

abbrev pub P6-mirrored-as-sells : Example
P6-mirrored-as-sells = merge_of_two (pos 2) (pos 1) (pos 1) (pos 1) (pos 0) (pos 0) (pos 1) (pos 0) (pos 1) (pos 1) (minus 1)

-- "Merges already booked keep their stored price" (02, K4): 3/0 stands at 0 with a residual of 1 in cash, as P6 was booked under document 01. It is transferred
-- at that price, and merged at it with 2 bought at -1: average -2/4, now -1, residual -2.
abbrev pub merged_before : Example
merged_before = record {
  start = tables_of
      (records_table 5
      (row (pos 1) (pos 0) (pos 0) (pos 0) (pos 1) (pos 4) (pos 9) (pos 1) (pos 1) (minus 1) (pos 1) (pos 0) (pos 0)
      ∷ row (pos 1) (pos 1) (pos 0) (pos 901) (pos 2) (pos 4) (pos 9) (pos 1) (minus 1) (minus 1) (pos 0) (pos 0) (pos 3)
      ∷ row (pos 2) (pos 0) (pos 0) (pos 0) (pos 1) (pos 4) (pos 9) (pos 1) (pos 1) (pos 0) (pos 1) (pos 0) (pos 0)
      ∷ row (pos 2) (pos 1) (pos 0) (pos 901) (pos 2) (pos 4) (pos 9) (pos 1) (minus 1) (pos 0) (pos 0) (pos 0) (pos 3)
      ∷ row (pos 3) (pos 0) (pos 0) (pos 901) (pos 0) (pos 4) (pos 9) (pos 1) (pos 2) (pos 0) (pos 0) (pos 0) (pos 0)
      ∷ [])
      84)
      (table 1 (position (pos 4) (pos 9) (pos 2) (pos 0) (pos 1) (pos 2) (pos 0) ∷ []) 7);
  requests =
      transfer (pos 3) (pos 0) (pos 4) (pos 5) (pos 9)
      ∷ trade (pos 4) (pos 5) (pos 9) (pos 1) (pos 2) (minus 1)
      ∷ merge (pos 6) (pos 5) (pos 9) (pos 3 ∷ pos 2 ∷ pos 4 ∷ pos 0 ∷ [])
      ∷ lineage (pos 3) (pos 2)
      ∷ [];
  replies = Booked (pos 2) (pos 0) ∷ Booked (pos 1) (pos 0) ∷ Booked (pos 3) (minus 2) ∷ Lineage (pos 0) (pos 1) ∷ [];
  finish = tables_of
      (records_table 11
      (row (pos 1) (pos 0) (pos 0) (pos 0) (pos 1) (pos 4) (pos 9) (pos 1) (pos 1) (minus 1) (pos 1) (pos 0) (pos 0)
      ∷ row (pos 1) (pos 1) (pos 0) (pos 901) (pos 2) (pos 4) (pos 9) (pos 1) (minus 1) (minus 1) (pos 0) (pos 0) (pos 3)
      ∷ row (pos 2) (pos 0) (pos 0) (pos 0) (pos 1) (pos 4) (pos 9) (pos 1) (pos 1) (pos 0) (pos 1) (pos 0) (pos 0)
      ∷ row (pos 2) (pos 1) (pos 0) (pos 901) (pos 2) (pos 4) (pos 9) (pos 1) (minus 1) (pos 0) (pos 0) (pos 0) (pos 3)
      ∷ row (pos 3) (pos 0) (pos 0) (pos 901) (pos 1) (pos 4) (pos 9) (pos 1) (pos 2) (pos 0) (pos 0) (pos 0) (pos 0)
      ∷ row (pos 3) (pos 1) (pos 0) (pos 4) (pos 2) (pos 4) (pos 9) (pos 1) (minus 2) (pos 0) (minus 2) (pos 0) (pos 0)
      ∷ row (pos 3) (pos 2) (pos 0) (pos 4) (pos 1) (pos 5) (pos 9) (pos 1) (pos 2) (pos 0) (pos 2) (pos 0) (pos 0)
      ∷ row (pos 3) (pos 3) (pos 2) (pos 901) (pos 2) (pos 5) (pos 9) (pos 1) (minus 2) (pos 0) (pos 0) (pos 0) (pos 6)
      ∷ row (pos 4) (pos 0) (pos 0) (pos 0) (pos 1) (pos 5) (pos 9) (pos 1) (pos 2) (minus 1) (pos 2) (pos 0) (pos 0)
      ∷ row (pos 4) (pos 1) (pos 0) (pos 901) (pos 2) (pos 5) (pos 9) (pos 1) (minus 2) (minus 1) (pos 0) (pos 0) (pos 6)
      ∷ row (pos 6) (pos 0) (pos 0) (pos 901) (pos 0) (pos 5) (pos 9) (pos 1) (pos 4) (minus 1) (pos 0) (pos 0) (pos 0)
      ∷ [])
      0)
      (table 2 (position (pos 4) (pos 9) (pos 0) (pos 0) (pos 1) (pos 0) (pos 0) ∷ position (pos 5) (pos 9) (pos 4) (pos 0) (minus 2) (pos 4) (minus 4) ∷ []) 0);
}

-- "two sources share an id": 5/2 and 5/3 are the parts of 5/0, and their inverses take the next two suffixes, 4 and 5. The lineage of the
-- second part has one link; that of a suffix which the id does not have is refused 5.
abbrev pub shared_id : Example
shared_id = record {
  start = tables_of (records_table 0 [] 98) (table 0 [] 7);
  requests =
      trade (pos 5) (pos 1) (pos 1) (pos 1) (pos 4) (minus 1)
      ∷ separate (pos 5) (pos 0) (pos 1) (pos 1) (pos 3 ∷ pos 1 ∷ [])
      ∷ merge (pos 6) (pos 1) (pos 1) (pos 5 ∷ pos 2 ∷ pos 5 ∷ pos 3 ∷ [])
      ∷ lineage (pos 5) (pos 3)
      ∷ lineage (pos 5) (pos 6)
      ∷ [];
  replies = Booked (pos 1) (pos 0) ∷ Booked (pos 3) (pos 0) ∷ Booked (pos 3) (pos 0) ∷ Lineage (minus 1) (pos 1) ∷ Refused (pos 5) (pos 0) ∷ [];
  finish = tables_of
      (records_table 7
      (row (pos 5) (pos 0) (pos 0) (pos 0) (pos 1) (pos 1) (pos 1) (pos 1) (pos 4) (minus 1) (pos 4) (pos 0) (pos 0)
      ∷ row (pos 5) (pos 1) (pos 0) (pos 6) (pos 2) (pos 1) (pos 1) (pos 1) (minus 4) (minus 1) (pos 0) (pos 0) (pos 0)
      ∷ row (pos 5) (pos 2) (pos 0) (pos 6) (pos 1) (pos 1) (pos 1) (pos 1) (pos 3) (minus 1) (pos 0) (pos 0) (pos 0)
      ∷ row (pos 5) (pos 3) (pos 0) (pos 6) (pos 1) (pos 1) (pos 1) (pos 1) (pos 1) (minus 1) (pos 0) (pos 0) (pos 0)
      ∷ row (pos 5) (pos 4) (pos 2) (pos 901) (pos 2) (pos 1) (pos 1) (pos 1) (minus 3) (minus 1) (pos 0) (pos 0) (pos 6)
      ∷ row (pos 5) (pos 5) (pos 3) (pos 901) (pos 2) (pos 1) (pos 1) (pos 1) (minus 1) (minus 1) (pos 0) (pos 0) (pos 6)
      ∷ row (pos 6) (pos 0) (pos 0) (pos 901) (pos 0) (pos 1) (pos 1) (pos 1) (pos 4) (minus 1) (pos 0) (pos 0) (pos 0)
      ∷ [])
      0)
      (table 1 (position (pos 1) (pos 1) (pos 4) (pos 0) (pos 0) (pos 4) (minus 4) ∷ []) 0);
}

abbrev pub others : List Example
others = most_accepted ∷ more_refused ∷ empty_slice ∷ lone_zeros ∷ headers_alone ∷ below_zero ∷ P6-mirrored ∷ P6-as-sells ∷ P6-mirrored-as-sells ∷ merged_before ∷ shared_id ∷ []
