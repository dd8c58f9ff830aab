-- One accepted request on sound tables, in terms of the books: the tables afterwards are the old ones with the new books written, or with a new day, and their books are the new books.
-- They are sound again. Assumes nothing.
use Prim.Native.Nat.{◌≤◌}
use mathlib.Core.Path.{◌≡◌, refl, sym, ◌∙◌, ap, subst}
use mathlib.Core.Bool.{true}
use mathlib.Core.List.{List, ◌++◌}
use mathlib.Core.Option.{Option, none, some}
use lib.IntN.{ℤ}
use lib.ListN.{length}
use native.Mathlib.Omega.{arith}
use Rattle.rules.specs.Rows.{record_key, position_key}
use Rattle.rules.specs.ProcessRows.{process_key}
use Rattle.rules.specs.Request.{Request}
use Rattle.rules.specs.Books.{Books}
use Rattle.rules.specs.Plan.{Plan, booking, question, day_move, put_process, booked, plan_books}
use Rattle.rules.specs.Refusal.{Test}
use Rattle.rules.specs.Layout.{rows_of, write}
use Rattle.rules.specs.Tables.{Tables, records_layout, positions_layout, processes_layout, sound_record_rows, sound_days, day_written, books_of, write_books}
use Rattle.rules.specs.Handle.{written_by, plan_tables, handle}
use Rattle.rules.specs.declared.ProcessRow.{ProcessRow}
use Rattle.soundness.specs.SoundBooks.{SoundBooks, after}
use Rattle.soundness.specs.SoundTables.{SoundTables}
use Rattle.cells.specs.Fitting.{Fitting, SameRooms}
use Rattle.cells.proofs.Write.{write-own}
use Rattle.cells.proofs.RowCells.{processes-lawful}
use Rattle.cells.proofs.SoundCells.{record-rows-sound, records-sound, records-known, processes-known, day-written-sound}
use Rattle.cells.proofs.DayCells.{written-day, day-written-rows, day-written-books}
use Rattle.cells.proofs.BookCells.{books-written}
use Rattle.cells.proofs.SoundBookCells.{books-records-rise, books-records-sound, books-records-fit, books-days-sound, books-positions-rise, books-positions-sound, books-positions-fit, books-processes-rise, books-processes-sound, books-processes-fit, fitting, write-sound-own, sound-written-records, sound-written-positions, sound-written-processes}
use Rattle.soundness.proofs.Kept.{kept}
use Rattle.keys.proofs.Rising.{upsert-longer}
use Rattle.keys.proofs.Folds.{upsert_all-longer}
use Rattle.history.specs.History.{is_accepted}
use Rattle.history.proofs.Accepted.{plan_at, accepted-tables, accepted-rows, moved-tables}
use Rattle.history.proofs.Effects.{LeavesDay}

pub sound-books : (t : Tables) → SoundTables t → SoundBooks (books_of t)
sound-books t sound = record {
  records-rise = books-records-rise t sound.records;
  records-sound = books-records-sound t sound.records;
  records-fit = books-records-fit t sound.records;
  days-sound = books-days-sound t sound.records;
  positions-rise = books-positions-rise t sound.positions;
  positions-sound = books-positions-sound t sound.positions;
  positions-fit = books-positions-fit t sound.positions;
  processes-rise = books-processes-rise t sound.processes;
  processes-sound = books-processes-sound t sound.processes;
  processes-fit = books-processes-fit t sound.processes;
}

-- A plan keeps the rooms and never makes a table shorter.
pub record Later (b c : Books) : Type 0 where
  pub rooms : SameRooms c b
  pub more-records : length b.records ≤ length c.records
  pub more-positions : length b.positions ≤ length c.positions
  pub more-processes : length b.processes ≤ length c.processes

process-longer : (o : Option ProcessRow) (rows : List ProcessRow) → length rows ≤ length (put_process o rows)
unfolding put_process
process-longer none rows = omega arith
process-longer (some p) rows = upsert-longer process_key p rows

pub later : (b : Books) (p : Plan) → Later b (plan_books p b)
unfolding plan_books booked
later b (booking tests e) = record {
  rooms = record { records = refl; positions = refl; processes = refl };
  more-records = upsert_all-longer record_key (e.changed ++ e.added) b.records;
  more-positions = upsert_all-longer position_key e.positions b.positions;
  more-processes = process-longer e.process b.processes;
}
later b (question tests reply) = record {
  rooms = record { records = refl; positions = refl; processes = refl };
  more-records = omega arith;
  more-positions = omega arith;
  more-processes = omega arith;
}
later b (day_move tests day) = record {
  rooms = record { records = refl; positions = refl; processes = refl };
  more-records = omega arith;
  more-positions = omega arith;
  more-processes = omega arith;
}

-- The tables of a plan, as books written: a question's are the tables' own, and a process table without a new row is what its own rows write.
written-own : (t : Tables) → SoundTables t → (o : Option ProcessRow) (b : Books) → b.processes ≡ put_process o (books_of t).processes → written_by o t b ≡ write_books t b
unfolding written_by write_books put_process books_of
written-own t sound none b e = λ i. record {
  records = write records_layout t.records b.records;
  positions = write positions_layout t.positions b.positions;
  processes = sym (ap (write processes_layout t.processes) e ∙ write-own processes_layout processes-lawful t.processes (processes-known t.processes sound.processes).count-sound) i;
}
written-own t sound (some p) b e = refl

plan-written : (t : Tables) → SoundTables t → (p : Plan) → LeavesDay p → plan_tables p t ≡ write_books t (plan_books p (books_of t))
unfolding plan_tables plan_books booked
plan-written t sound (booking tests e) l = written-own t sound e.process (booked e (books_of t)) refl
plan-written t sound (question tests reply) l = sym (write-sound-own t sound.records sound.positions sound.processes)
plan-written t sound (day_move tests day) l = absurd l

day-left : (b : Books) (p : Plan) → LeavesDay p → (plan_books p b).day ≡ b.day
unfolding plan_books booked
day-left b (booking tests e) l = refl
day-left b (question tests reply) l = refl
day-left b (day_move tests day) l = absurd l

module _ (t : Tables) (sound : SoundTables t) (r : Request) (ok : is_accepted t r ≡ true) where
  new-books-sound : SoundBooks (after (books_of t) r)
  new-books-sound = kept (books_of t) (sound-books t sound) r (accepted-rows t r ok)

  -- Of a request that leaves the current day.
  module _ (leaves : LeavesDay (plan_at t r)) where
    pub new-books-fit : Fitting t (after (books_of t) r)
    new-books-fit =
        fitting t sound.records sound.positions sound.processes (after (books_of t) r) (later (books_of t) (plan_at t r)).rooms
        (record { records = new-books-sound.records-fit; positions = new-books-sound.positions-fit; processes = new-books-sound.processes-fit })
        (day-left (books_of t) (plan_at t r) leaves)

    pub step-tables : (handle t r).tables ≡ write_books t (after (books_of t) r)
    step-tables = accepted-tables t r ok ∙ plan-written t sound (plan_at t r) leaves

    written-books : books_of (handle t r).tables ≡ after (books_of t) r
    written-books = ap books_of step-tables ∙ books-written t (after (books_of t) r) new-books-fit

    written-sound : SoundTables (handle t r).tables
    written-sound = subst (λ (u : Tables). SoundTables u) (sym step-tables) (record {
      records = sound-written-records t (after (books_of t) r) new-books-fit new-books-sound.records-rise new-books-sound.records-sound new-books-sound.days-sound;
      positions = sound-written-positions t (after (books_of t) r) new-books-fit new-books-sound.positions-rise new-books-sound.positions-sound;
      processes = sound-written-processes t (after (books_of t) r) new-books-fit new-books-sound.processes-rise new-books-sound.processes-sound;
    })

  -- Of a new day: cell 1 of the records is written, and the rows stay.
  module _ (tests : List Test) (day : ℤ) (moves : plan_at t r ≡ day_move tests day) where
    rows-sound : sound_record_rows t.records ≡ true
    rows-sound = record-rows-sound t.records sound.records

    header : records_layout.header ≤ length t.records
    header = (records-known t.records rows-sound).header-within

    moved-books : books_of (handle t r).tables ≡ after (books_of t) r
    unfolding plan_books
    moved-books = ap books_of (moved-tables t r tests day moves ok) ∙ day-written-books day t header ∙ sym (ap (λ (p : Plan). plan_books p (books_of t)) moves)

    moved-days : sound_days day (rows_of records_layout t.records) ≡ true
    unfolding plan_books books_of
    moved-days = subst (λ (p : Plan). sound_days (plan_books p (books_of t)).day (plan_books p (books_of t)).records ≡ true) moves new-books-sound.days-sound

    moved-sound : SoundTables (handle t r).tables
    moved-sound = subst (λ (u : Tables). SoundTables u) (sym (moved-tables t r tests day moves ok)) (record {
      records = records-sound (day_written day t.records) (day-written-sound day t.records rows-sound)
          (rw (written-day day t.records header) (rw (day-written-rows day t.records header) moved-days));
      positions = sound.positions;
      processes = sound.processes;
    })

  -- Of every request.
  pub step-books : books_of (handle t r).tables ≡ after (books_of t) r
  step-books = go (plan_at t r) refl
    where
      go : (p : Plan) → plan_at t r ≡ p → books_of (handle t r).tables ≡ after (books_of t) r
      go (booking tests e) q = written-books (subst (λ (p : Plan). LeavesDay p) (sym q) tt)
      go (question tests reply) q = written-books (subst (λ (p : Plan). LeavesDay p) (sym q) tt)
      go (day_move tests day) q = moved-books tests day q

  pub step-sound : SoundTables (handle t r).tables
  step-sound = go (plan_at t r) refl
    where
      go : (p : Plan) → plan_at t r ≡ p → SoundTables (handle t r).tables
      go (booking tests e) q = written-sound (subst (λ (p : Plan). LeavesDay p) (sym q) tt)
      go (question tests reply) q = written-sound (subst (λ (p : Plan). LeavesDay p) (sym q) tt)
      go (day_move tests day) q = moved-sound tests day q
