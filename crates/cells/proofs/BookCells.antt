-- Books written into the tables are the books read again; of two writings that never shrink the second alone is seen; sound tables are what their own books write.
-- Assumes nothing.
use Prim.Native.Nat.{◌≤◌}
use mathlib.Core.Path.{◌≡◌, refl, sym, ◌∙◌}
use mathlib.Core.Bool.{true}
use lib.ListN.{length}
use Rattle.rules.specs.Books.{Books}
use Rattle.rules.specs.Layout.{room_of, rows_of, count_is_sound, write}
use Rattle.rules.specs.Tables.{Tables, records_layout, positions_layout, processes_layout, current_day, books_of, write_books}
use Rattle.cells.specs.Fitting.{Fitting, Headers}
use Rattle.cells.proofs.Write.{room-write, rows_write, write-write, write-own}
use Rattle.cells.proofs.DayCells.{day-kept}
use Rattle.cells.proofs.RowCells.{records-lawful, positions-lawful, processes-lawful}

module _ (t : Tables) where
  -- The books of the tables, part by part.
  pub books-records : (books_of t).records ≡ rows_of records_layout t.records
  unfolding books_of
  books-records = refl

  pub books-positions : (books_of t).positions ≡ rows_of positions_layout t.positions
  unfolding books_of
  books-positions = refl

  pub books-processes : (books_of t).processes ≡ rows_of processes_layout t.processes
  unfolding books_of
  books-processes = refl

  pub books-records-room : (books_of t).records_room ≡ room_of records_layout t.records
  unfolding books_of
  books-records-room = refl

  pub books-positions-room : (books_of t).positions_room ≡ room_of positions_layout t.positions
  unfolding books_of
  books-positions-room = refl

  pub books-processes-room : (books_of t).processes_room ≡ room_of processes_layout t.processes
  unfolding books_of
  books-processes-room = refl

  pub books-day : (books_of t).day ≡ current_day t.records
  unfolding books_of
  books-day = refl

  -- The written tables, part by part.
  pub written-records : (b : Books) → (write_books t b).records ≡ write records_layout t.records b.records
  unfolding write_books
  written-records b = refl

  pub written-positions : (b : Books) → (write_books t b).positions ≡ write positions_layout t.positions b.positions
  unfolding write_books
  written-positions b = refl

  pub written-processes : (b : Books) → (write_books t b).processes ≡ write processes_layout t.processes b.processes
  unfolding write_books
  written-processes b = refl

  -- Tables are what their own books write, where the counts are sound.
  pub write-own-books : count_is_sound records_layout t.records ≡ true → count_is_sound positions_layout t.positions ≡ true → count_is_sound processes_layout t.processes ≡ true
      → write_books t (books_of t) ≡ t
  unfolding books_of write_books
  write-own-books r p s = λ i. record {
    records = write-own records_layout records-lawful t.records r i;
    positions = write-own positions_layout positions-lawful t.positions p i;
    processes = write-own processes_layout processes-lawful t.processes s i;
  }

  -- Of two writings the second alone is seen, where no table shrinks.
  pub write-books-twice : (b b' : Books) → Headers t
      → length b.records ≤ length b'.records → length b.positions ≤ length b'.positions → length b.processes ≤ length b'.processes
      → write_books (write_books t b) b' ≡ write_books t b'
  unfolding write_books
  write-books-twice b b' h r p s = λ i. record {
    records = write-write records_layout records-lawful t.records b.records b'.records h.records r i;
    positions = write-write positions_layout positions-lawful t.positions b.positions b'.positions h.positions p i;
    processes = write-write processes_layout processes-lawful t.processes b.processes b'.processes h.processes s i;
  }

module _ (t : Tables) (b : Books) (fits : Fitting t b) where
  -- The rows are within the tables' rooms.
  pub records-within : length b.records ≤ room_of records_layout t.records
  records-within = rw (fits.rooms.records ∙ books-records-room t) at fits.within.records

  pub positions-within : length b.positions ≤ room_of positions_layout t.positions
  positions-within = rw (fits.rooms.positions ∙ books-positions-room t) at fits.within.positions

  pub processes-within : length b.processes ≤ room_of processes_layout t.processes
  processes-within = rw (fits.rooms.processes ∙ books-processes-room t) at fits.within.processes

  -- What was written is read again.
  pub books-written : books_of (write_books t b) ≡ b
  unfolding books_of write_books
  books-written = λ i. record {
    records = rows_write records_layout records-lawful t.records b.records fits.headers.records i;
    positions = rows_write positions_layout positions-lawful t.positions b.positions fits.headers.positions i;
    processes = rows_write processes_layout processes-lawful t.processes b.processes fits.headers.processes i;
    records_room = records-room-kept i;
    positions_room = positions-room-kept i;
    processes_room = processes-room-kept i;
    day = (day-kept t.records b.records fits.headers.records ∙ sym (fits.day ∙ books-day t)) i;
  }
    where
      records-room-kept : room_of records_layout (write records_layout t.records b.records) ≡ b.records_room
      records-room-kept =
          room-write records_layout records-lawful t.records b.records fits.headers.records records-within ∙ sym (fits.rooms.records ∙ books-records-room t)

      positions-room-kept : room_of positions_layout (write positions_layout t.positions b.positions) ≡ b.positions_room
      positions-room-kept =
          room-write positions_layout positions-lawful t.positions b.positions fits.headers.positions positions-within ∙ sym (fits.rooms.positions ∙ books-positions-room t)

      processes-room-kept : room_of processes_layout (write processes_layout t.processes b.processes) ≡ b.processes_room
      processes-room-kept =
          room-write processes_layout processes-lawful t.processes b.processes fits.headers.processes processes-within ∙ sym (fits.rooms.processes ∙ books-processes-room t)
