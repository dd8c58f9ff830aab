-- The current day among the cells of a records table: writing rows keeps it, and writing another day changes no row, no count and no length. By the first two cells, which every header has.
-- Assumes nothing.
use Prim.Native.Nat.{ℕ, zero, suc, ◌+◌, ◌≤◌}
use native.Mathlib.Omega.{arith}
use mathlib.Core.Path.{◌≡◌, refl, ap, ◌∙◌}
use mathlib.Core.List.{List, [], ◌∷◌}
use lib.IntN.{ℤ, pos, nat_abs}
use lib.ListN.{length, get_or}
use Rattle.rules.specs.Books.{with_day}
use Rattle.rules.specs.Layout.{count_of, decode, room_of, rows_of, write}
use Rattle.rules.specs.Tables.{Tables, record_at, records_layout, current_day, day_written, with_current_day, books_of}
use Rattle.rules.specs.declared.Record.{Record}
use Rattle.cells.proofs.Count.{room-by-length}

-- Rows written keep the day.
pub day-kept : (cells : List ℤ) (rows : List Record) → records_layout.header ≤ length cells → current_day (write records_layout cells rows) ≡ current_day cells
unfolding write
day-kept [] rows h = absurd (omega arith)
day-kept (c ∷ []) rows h = absurd (omega arith)
day-kept (c ∷ d ∷ rest) rows h = refl

-- ---- another day written

module _ (day : ℤ) where
  pub written-day : (cells : List ℤ) → records_layout.header ≤ length cells → current_day (day_written day cells) ≡ day
  unfolding day_written
  written-day [] h = absurd (omega arith)
  written-day (c ∷ rest) h = refl

  pub day-written-length : (cells : List ℤ) → records_layout.header ≤ length cells → length (day_written day cells) ≡ length cells
  unfolding day_written
  day-written-length [] h = absurd (omega arith)
  day-written-length (c ∷ []) h = absurd (omega arith)
  day-written-length (c ∷ d ∷ rest) h = refl

  pub day-written-count : (cells : List ℤ) → records_layout.header ≤ length cells → count_of (day_written day cells) ≡ count_of cells
  unfolding day_written
  day-written-count [] h = absurd (omega arith)
  day-written-count (c ∷ rest) h = refl

  -- Cells past the header are the same.
  past-header : (cells : List ℤ) (at : ℕ) → records_layout.header ≤ length cells → 2 ≤ at → get_or (day_written day cells) at (pos 0) ≡ get_or cells at (pos 0)
  unfolding day_written
  past-header [] at h low = absurd (omega arith)
  past-header (c ∷ []) at h low = absurd (omega arith)
  past-header (c ∷ d ∷ rest) zero h low = absurd (omega arith)
  past-header (c ∷ d ∷ rest) (suc zero) h low = absurd (omega arith)
  past-header (c ∷ d ∷ rest) (suc (suc at)) h low = refl

  row_kept : (cells : List ℤ) (at : ℕ) → records_layout.header ≤ length cells → 2 ≤ at → record_at (day_written day cells) at ≡ record_at cells at
  row_kept cells at h low = λ i. record {
    id = past-header cells at h low i;
    suffix = past-header cells (at + 1) h (omega arith) i;
    parent = past-header cells (at + 2) h (omega arith) i;
    kind = past-header cells (at + 3) h (omega arith) i;
    status = past-header cells (at + 4) h (omega arith) i;
    account = past-header cells (at + 5) h (omega arith) i;
    series = past-header cells (at + 6) h (omega arith) i;
    side = past-header cells (at + 7) h (omega arith) i;
    quantity = past-header cells (at + 8) h (omega arith) i;
    price = past-header cells (at + 9) h (omega arith) i;
    long = past-header cells (at + 10) h (omega arith) i;
    short = past-header cells (at + 11) h (omega arith) i;
    into = past-header cells (at + 12) h (omega arith) i;
    day = past-header cells (at + 13) h (omega arith) i;
  }

  rows-read : (n at : ℕ) (cells : List ℤ) → records_layout.header ≤ length cells → 2 ≤ at
      → decode records_layout.get records_layout.width n at (day_written day cells) ≡ decode records_layout.get records_layout.width n at cells
  rows-read zero at cells h low = refl
  rows-read (suc n) at cells h low =
      ap (λ (r : Record). r ∷ decode records_layout.get records_layout.width n (at + records_layout.width) (day_written day cells)) (row_kept cells at h low)
      ∙ ap (λ (rows : List Record). record_at cells at ∷ rows) (rows-read n (at + records_layout.width) cells h (omega arith))

  pub day-written-rows : (cells : List ℤ) → records_layout.header ≤ length cells → rows_of records_layout (day_written day cells) ≡ rows_of records_layout cells
  unfolding rows_of
  day-written-rows cells h =
      ap (λ (z : ℤ). decode records_layout.get records_layout.width (nat_abs z) records_layout.header (day_written day cells)) (day-written-count cells h)
      ∙ rows-read (nat_abs (count_of cells)) records_layout.header cells h (omega arith)

  pub day-written-room : (cells : List ℤ) → records_layout.header ≤ length cells → room_of records_layout (day_written day cells) ≡ room_of records_layout cells
  day-written-room cells h = room-by-length records_layout (day_written day cells) cells (day-written-length cells h)

  -- The books of another day.
  pub day-written-books : (t : Tables) → records_layout.header ≤ length t.records → books_of (with_current_day day t) ≡ with_day day (books_of t)
  unfolding books_of
  day-written-books t h = λ i. record {
    records = day-written-rows t.records h i;
    positions = (books_of t).positions;
    processes = (books_of t).processes;
    records_room = day-written-room t.records h i;
    positions_room = (books_of t).positions_room;
    processes_room = (books_of t).processes_room;
    day = written-day t.records h i;
  }
