-- The smallest tables and requests on which a rule is seen at work.
use Rattle.std.specs.Prelude.{ℕ, List, [], ◌∷◌, map, ℤ, pos, replicate}
use Rattle.rules.specs.Layout.{rows_of}
use Rattle.rules.specs.Request.{Request, trade, merge, lineage}
use Rattle.rules.specs.Call.{one}
use Rattle.rules.specs.Run.{Run, run}
use Rattle.rules.specs.Tables.{Tables, all_tables, tables_of, records_layout, positions_layout}
use Rattle.rules.specs.declared.Record.{Record}
use Rattle.rules.specs.declared.Position.{Position}
use Rattle.rules.specs.declared.Reply.{Reply}
use Rattle.rules.specs.declared.Reply.TheVariants.{Booked, Lineage}

-- Tables with so many cells after their counts, the records' current day among them, no row of them used.
abbrev pub empty_cells : ℕ → List ℤ
empty_cells cells = pos 0 ∷ replicate cells (pos 0)

abbrev pub empty_tables : (records positions processes : ℕ) → Tables
empty_tables records positions processes = all_tables (empty_cells records) (empty_cells positions) (empty_cells processes)

-- The same of the two tables that a request is lent which is no step of a give-up.
abbrev pub empty : ℕ → ℕ → Tables
empty records positions = tables_of (empty_cells records) (empty_cells positions)

abbrev pub buy : ℤ → ℤ → Request
buy id account = trade id account (pos 1) (pos 1) (pos 100) (pos 5)

-- The same as six figures of a batch.
abbrev pub buy_figures : ℤ → ℤ → List ℤ
buy_figures id account = id ∷ account ∷ pos 1 ∷ pos 1 ∷ pos 100 ∷ pos 5 ∷ []

-- Some requests, one call each, and the rows afterwards.
abbrev pub run_of : Tables → List Request → Run
run_of t requests = run t (map one requests)

abbrev pub records_after : Tables → List Request → List Record
records_after t requests = rows_of records_layout (run_of t requests).tables.records

abbrev pub positions_after : Tables → List Request → List Position
positions_after t requests = rows_of positions_layout (run_of t requests).tables.positions

-- The replies to two trades of 1, the first at a price and the second at 0, to their merge, and to the lineage of the merged record, which gives its price.
abbrev pub half_merged : (side price : ℤ) → List Reply
half_merged side price =
    (run_of (empty 71 7)
    (trade (pos 7) (pos 1) (pos 1) side (pos 1) price
    ∷ trade (pos 8) (pos 1) (pos 1) side (pos 1) (pos 0)
    ∷ merge (pos 9) (pos 1) (pos 1) (pos 7 ∷ pos 0 ∷ pos 8 ∷ pos 0 ∷ [])
    ∷ lineage (pos 9) (pos 0)
    ∷ [])).replies

abbrev pub merged_at : (average residual : ℤ) → List Reply
merged_at average residual = Booked (pos 1) (pos 0) ∷ Booked (pos 1) (pos 0) ∷ Booked (pos 3) residual ∷ Lineage average (pos 0) ∷ []
