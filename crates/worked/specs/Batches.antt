-- Batches of trades (document 02, K1) as a table: the tables at the start, the figures and the cells lent for the excesses, and the whole answer.
use Rattle.std.specs.Prelude.{ℕ, List, [], ◌∷◌, ℤ, pos}
use Rattle.rules.specs.Tables.{Tables, tables_of}
use Rattle.rules.specs.Handle.{Answer, answered_by}
use Rattle.rules.specs.Call.{trades, handle_call}
use Rattle.rules.specs.declared.Reply.TheVariants.{Booked, Refused, Stopped}
use Rattle.worked.specs.Examples.{minus, row, position, table, records_table, joined}

pub record Batch : Type 0 where
  pub start : Tables
  pub figures : List ℤ
  pub cells : ℕ
  pub answer : Answer

abbrev pub found : Batch → Answer
found b = handle_call b.start (trades b.figures b.cells)

abbrev pub stated : Batch → Answer
stated b = b.answer

abbrev pub six_of : (id acc ser side qty price : ℤ) → List ℤ
six_of id acc ser side qty price = id ∷ acc ∷ ser ∷ side ∷ qty ∷ price ∷ []

-- Long 100, short 120, as in P1.
abbrev pub start : Tables
start = tables_of (records_table 0 [] 42) (table 1 (position (pos 1) (pos 1) (pos 100) (pos 120) (pos 0) (pos 0) (pos 0) ∷ []) 7)

-- P1's buy close 150 with excess 30, then a sell open.
abbrev pub first_two : List (List ℤ)
first_two = six_of (pos 7) (pos 1) (pos 1) (pos 3) (pos 150) (pos 5) ∷ six_of (pos 8) (pos 2) (pos 1) (pos 2) (pos 10) (pos 6) ∷ []

abbrev pub finish : Tables
finish = tables_of
    (records_table 2
    (row (pos 7) (pos 0) (pos 0) (pos 10) (pos 0) (pos 1) (pos 1) (pos 3) (pos 150) (pos 5) (pos 30) (minus 120) (pos 0)
    ∷ row (pos 8) (pos 0) (pos 0) (pos 0) (pos 0) (pos 2) (pos 1) (pos 2) (pos 10) (pos 6) (pos 0) (pos 10) (pos 0)
    ∷ [])
    14)
    (table 2 (position (pos 1) (pos 1) (pos 130) (pos 0) (pos 0) (pos 150) (pos 750) ∷ position (pos 2) (pos 1) (pos 0) (pos 10) (pos 0) (minus 10) (minus 60) ∷ []) 0)

-- All booked.
abbrev pub booked : Batch
booked = record {
  start = start;
  figures = joined first_two;
  cells = 2;
  answer = record { reply = Booked (pos 2) (pos 0); output = pos 30 ∷ pos 0 ∷ []; tables = finish };
}

-- Stopped in the middle: id 7 is there by then (4), and the last trade, which would pass, is not tried.
abbrev pub stopped : Batch
stopped = record {
  start = start;
  figures = joined (six_of (pos 7) (pos 1) (pos 1) (pos 3) (pos 150) (pos 5) ∷ six_of (pos 8) (pos 2) (pos 1) (pos 2) (pos 10) (pos 6)
      ∷ six_of (pos 7) (pos 1) (pos 1) (pos 1) (pos 1) (pos 5) ∷ six_of (pos 9) (pos 1) (pos 1) (pos 1) (pos 1) (pos 5) ∷ []);
  cells = 5;
  answer = record { reply = Stopped (pos 2) (pos 4) (pos 0); output = pos 30 ∷ pos 0 ∷ []; tables = finish };
}

-- Stopped at the first trade by a figure of its own: quantity 0.
abbrev pub stopped_at_once : Batch
stopped_at_once = record {
  start = start;
  figures = six_of (pos 7) (pos 1) (pos 1) (pos 3) (pos 0) (pos 5);
  cells = 1;
  answer = record { reply = Stopped (pos 0) (pos 3) (pos 0); output = []; tables = start };
}

-- Two trades and one cell for their excesses: 3, and nothing booked. No trade at all: 3.
abbrev pub short_excess : Batch
short_excess = record { start = start; figures = joined first_two; cells = 1; answer = answered_by (Refused (pos 3) (pos 0)) start }

abbrev pub no_trade : Batch
no_trade = record { start = start; figures = []; cells = 1; answer = answered_by (Refused (pos 3) (pos 0)) start }

abbrev pub batches : List Batch
batches = booked ∷ stopped ∷ stopped_at_once ∷ short_excess ∷ no_trade ∷ []
