-- Sound tables have books that rise, are sound and fit; and sound books that fit leave sound tables. Assumes nothing.
use Prim.Native.Nat.{◌≤◌}
use mathlib.Core.Path.{◌≡◌, ◌∙◌, subst}
use mathlib.Core.Bool.{true}
use mathlib.Core.List.{map}
use lib.IntN.{ℤ}
use lib.ListN.{length}
use Rattle.rules.specs.Keyed.{rising}
use Rattle.rules.specs.Refusal.{all_of}
use Rattle.rules.specs.Rows.{record_key, position_key, sound_record, sound_position}
use Rattle.rules.specs.ProcessRows.{process_number, sound_process}
use Rattle.rules.specs.Books.{Books}
use Rattle.rules.specs.Tables.{Tables, sound_days, sound_records, sound_positions, sound_processes, books_of, write_books}
use Rattle.cells.specs.Fitting.{Fitting, SameRooms, WithinRooms, Headers}
use Rattle.cells.proofs.SoundCells.{record-rows-sound, days-sound, records-known, positions-known, processes-known, write-sound-records, write-sound-positions, write-sound-processes}
use Rattle.cells.proofs.BookCells.{books-day, records-within, positions-within, processes-within, written-records, written-positions, written-processes, write-own-books}

module _ (t : Tables) where
  pub books-records-rise : sound_records t.records ≡ true → rising record_key (books_of t).records ≡ true
  unfolding books_of
  books-records-rise sound = (records-known t.records (record-rows-sound t.records sound)).rows-rise

  pub books-records-sound : sound_records t.records ≡ true → all_of (map sound_record (books_of t).records) ≡ true
  unfolding books_of
  books-records-sound sound = (records-known t.records (record-rows-sound t.records sound)).rows-sound

  pub books-records-fit : sound_records t.records ≡ true → length (books_of t).records ≤ (books_of t).records_room
  unfolding books_of
  books-records-fit sound = (records-known t.records (record-rows-sound t.records sound)).rows_fit

  pub books-days-sound : sound_records t.records ≡ true → sound_days (books_of t).day (books_of t).records ≡ true
  unfolding books_of
  books-days-sound sound = days-sound t.records sound

  pub books-positions-rise : sound_positions t.positions ≡ true → rising position_key (books_of t).positions ≡ true
  unfolding books_of
  books-positions-rise sound = (positions-known t.positions sound).rows-rise

  pub books-positions-sound : sound_positions t.positions ≡ true → all_of (map sound_position (books_of t).positions) ≡ true
  unfolding books_of
  books-positions-sound sound = (positions-known t.positions sound).rows-sound

  pub books-positions-fit : sound_positions t.positions ≡ true → length (books_of t).positions ≤ (books_of t).positions_room
  unfolding books_of
  books-positions-fit sound = (positions-known t.positions sound).rows_fit

  pub books-processes-rise : sound_processes t.processes ≡ true → rising process_number (books_of t).processes ≡ true
  unfolding books_of
  books-processes-rise sound = (processes-known t.processes sound).rows-rise

  pub books-processes-sound : sound_processes t.processes ≡ true → all_of (map sound_process (books_of t).processes) ≡ true
  unfolding books_of
  books-processes-sound sound = (processes-known t.processes sound).rows-sound

  pub books-processes-fit : sound_processes t.processes ≡ true → length (books_of t).processes ≤ (books_of t).processes_room
  unfolding books_of
  books-processes-fit sound = (processes-known t.processes sound).rows_fit

  module _ (rs : sound_records t.records ≡ true) (ps : sound_positions t.positions ≡ true) (qs : sound_processes t.processes ≡ true) where
    pub sound-headers : Headers t
    sound-headers = record {
      records = (records-known t.records (record-rows-sound t.records rs)).header-within;
      positions = (positions-known t.positions ps).header-within;
      processes = (processes-known t.processes qs).header-within;
    }

    -- Books of the same rooms and day, with rows within the rooms, fit.
    pub fitting : (b : Books) → SameRooms b (books_of t) → WithinRooms b → b.day ≡ (books_of t).day → Fitting t b
    fitting b rooms within day = record { headers = sound-headers; rooms = rooms; within = within; day = day }

    -- Sound tables are what their own books write.
    pub write-sound-own : write_books t (books_of t) ≡ t
    write-sound-own = write-own-books t (records-known t.records (record-rows-sound t.records rs)).count-sound (positions-known t.positions ps).count-sound (processes-known t.processes qs).count-sound

module _ (t : Tables) (b : Books) (fits : Fitting t b) where
  pub sound-written-records : rising record_key b.records ≡ true → all_of (map sound_record b.records) ≡ true → sound_days b.day b.records ≡ true
      → sound_records (write_books t b).records ≡ true
  sound-written-records r a d =
      rw (written-records t b)
      (write-sound-records t.records b.records fits.headers.records (records-within t b fits) r a
      (subst (λ (day : ℤ). sound_days day b.records ≡ true) (fits.day ∙ books-day t) d))

  pub sound-written-positions : rising position_key b.positions ≡ true → all_of (map sound_position b.positions) ≡ true → sound_positions (write_books t b).positions ≡ true
  sound-written-positions r a =
      rw (written-positions t b) (write-sound-positions t.positions b.positions fits.headers.positions (positions-within t b fits) r a)

  pub sound-written-processes : rising process_number b.processes ≡ true → all_of (map sound_process b.processes) ≡ true → sound_processes (write_books t b).processes ≡ true
  sound-written-processes r a =
      rw (written-processes t b) (write-sound-processes t.processes b.processes fits.headers.processes (processes-within t b fits) r a)
