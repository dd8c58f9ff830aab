-- Every call keeps each of the three tables: its length, and that it is sound where it was, whatever the other tables hold. A refusal and a question leave every cell. A request that books is accepted on sound
-- records and positions alone, so what it writes fits and is sound (Step); beside processes that are not sound it is no step of a give-up, and leaves them. A new day looks at the records alone. Assumes nothing.
use mathlib.Core.Path.{◌≡◌, refl, sym, ◌∙◌, ap, subst}
use mathlib.Core.Bool.{Bool, true, false}
use mathlib.Core.List.{List, [], ◌∷◌}
use mathlib.Core.Logic.{◌⊎◌, inl, inr}
use mathlib.Core.Option.{Option, none, some}
use lib.IntN.{ℤ, pos}
use lib.ListN.{length}
use Rattle.rules.specs.Refusal.{Test}
use Rattle.rules.specs.Request.{Request, trade, separate, transfer, merge, lineage, give_up, new_day, is_step}
use Rattle.rules.specs.Books.{Books, view_of}
use Rattle.rules.specs.Plan.{Effects, booking, plan_tests}
use Rattle.rules.specs.Trade.{trade_plan}
use Rattle.rules.specs.Separation.{separation_plan}
use Rattle.rules.specs.Transfer.{transfer_plan}
use Rattle.rules.specs.Merge.{merge_plan}
use Rattle.rules.specs.GiveUp.{give_up_plan}
use Rattle.rules.specs.Day.{day_plan}
use Rattle.rules.specs.Tables.{Tables, records_layout, positions_layout, processes_layout, tables_of, day_written, sound_records, sound_positions, sound_processes, books_of, write_books}
use Rattle.rules.specs.Touching.{touches_all}
use Rattle.rules.specs.Handle.{Answer, answer, handle, plan_of, refusals, soundness_tests}
use Rattle.rules.specs.Sequence.{Done, Sequence, until_refused}
use Rattle.rules.specs.Batch.{trades_of, batch_refusal, batch_answer, handle_batch}
use Rattle.rules.specs.Reader.{reading_of}
use Rattle.rules.specs.Replay.{replay_answer, handle_replay}
use Rattle.rules.specs.Call.{Call, one, trades, replay, reportable, handle_call}
use Rattle.rules.specs.Run.{after_reply, run}
use Rattle.rules.proofs.Computed.{Computed}
use Rattle.soundness.specs.SoundBooks.{after}
use Rattle.soundness.specs.SoundTables.{SoundTables}
use Rattle.cells.specs.Fitting.{Fitting}
use Rattle.cells.proofs.Write.{length-write}
use Rattle.cells.proofs.RowCells.{records-lawful, positions-lawful, processes-lawful}
use Rattle.cells.proofs.SoundCells.{record-rows-sound, records-known}
use Rattle.cells.proofs.DayCells.{day-written-length}
use Rattle.cells.proofs.BookCells.{records-within, positions-within, processes-within, written-records, written-positions, written-processes}
use Rattle.keys.proofs.Split.{split}
use Rattle.history.specs.History.{is_accepted}
use Rattle.history.specs.Kept.{TableKept, TablesKept}
use Rattle.history.proofs.Accepted.{plan_at, refused-tables, BookedOn, all_sound, booked-on-sound}
use Rattle.history.proofs.Effects.{LeavesDay, leaves-day}
use Rattle.history.proofs.ProcessesApart.{apart-promised}
use Rattle.history.proofs.TableExchange.{accepts-as, no_step, no-processes-sound}
use Rattle.history.proofs.LineageAlone.{lineage-stays}
use Rattle.history.proofs.DayAlone.{day-records-sound, day-tables, list-stays}
use Rattle.history.proofs.Sequences.{DoneFrom, done-from}
use Rattle.history.proofs.Step.{new-books-fit, step-tables, step-sound}

-- ---- kept by what changes nothing, and by one after the other

same-table : (is_sound : List ℤ → Bool) (cells : List ℤ) → TableKept is_sound cells cells
same-table is_sound cells = record { same_length = refl; stays-sound = λ h. h }

same_tables : (t : Tables) → TablesKept t t
same_tables t = record {
  records = same-table sound_records t.records;
  positions = same-table sound_positions t.positions;
  processes = same-table sound_processes t.processes;
}

unchanged : (t u : Tables) → u ≡ t → TablesKept t u
unchanged t u e = subst (λ (w : Tables). TablesKept t w) (sym e) (same_tables t)

table-then : (is_sound : List ℤ → Bool) (a b c : List ℤ) → TableKept is_sound a b → TableKept is_sound b c → TableKept is_sound a c
table-then is_sound a b c k l = record { same_length = l.same_length ∙ k.same_length; stays-sound = λ h. l.stays-sound (k.stays-sound h) }

tables_then : (t u w : Tables) → TablesKept t u → TablesKept u w → TablesKept t w
tables_then t u w k l = record {
  records = table-then sound_records t.records u.records w.records k.records l.records;
  positions = table-then sound_positions t.positions u.positions w.positions k.positions l.positions;
  processes = table-then sound_processes t.processes u.processes w.processes k.processes l.processes;
}

-- ---- a request that books

on-sound : (t : Tables) → SoundTables t → (r : Request) → is_accepted t r ≡ true → touches_all r ≡ false → TablesKept t (handle t r).tables
on-sound t sound r ok not-all =
    let b : Books = after (books_of t) r in
    let leaves : LeavesDay (plan_at t r) = leaves-day (view_of (books_of t)) r not-all in
    let fits : Fitting t b = new-books-fit t sound r ok leaves in
    let is : (handle t r).tables ≡ write_books t b = step-tables t sound r ok leaves in
    let later : SoundTables (handle t r).tables = step-sound t sound r ok in
    record {
      records = record {
        same_length =
            ap (λ (u : Tables). length u.records) is ∙ ap length (written-records t b)
            ∙ length-write records_layout records-lawful t.records b.records fits.headers.records (records-within t b fits);
        stays-sound = λ h. later.records;
      };
      positions = record {
        same_length =
            ap (λ (u : Tables). length u.positions) is ∙ ap length (written-positions t b)
            ∙ length-write positions_layout positions-lawful t.positions b.positions fits.headers.positions (positions-within t b fits);
        stays-sound = λ h. later.positions;
      };
      processes = record {
        same_length =
            ap (λ (u : Tables). length u.processes) is ∙ ap length (written-processes t b)
            ∙ length-write processes_layout processes-lawful t.processes b.processes fits.headers.processes (processes-within t b fits);
        stays-sound = λ h. later.processes;
      };
    }

-- Beside processes that are not sound it is none of a give-up's steps, and does what it does beside a process table without rows.
booking-keeps : (t : Tables) (r : Request) (tests : List Test) (e : Effects) → plan_at t r ≡ booking tests e → touches_all r ≡ false → is_accepted t r ≡ true → TablesKept t (handle t r).tables
booking-keeps t r tests e q not-all ok = go (split (sound_processes t.processes))
  where
    on : BookedOn t r
    on = booked-on-sound t r tests e q ok

    two : Tables
    two = tables_of t.records t.positions

    go : (sound_processes t.processes ≡ true) ⊎ (sound_processes t.processes ≡ false) → TablesKept t (handle t r).tables
    go (inl sound) = on-sound t (all_sound t r on sound) r ok not-all
    go (inr unsound) =
        let n : is_step r ≡ false = no_step t r ok unsound in
        let sound-two : SoundTables two = record { records = on.records; positions = on.positions; processes = no-processes-sound } in
        let k : TablesKept two (handle two r).tables = on-sound two sound-two r (sym (accepts-as t.processes two r n) ∙ ok) not-all in
        subst (λ (a : Answer). TablesKept t a.tables) (sym (apart-promised t r n))
        (record { records = k.records; positions = k.positions; processes = same-table sound_processes t.processes })

-- ---- a new day

-- A positions table without rows.
no-positions-sound : sound_positions (pos 0 ∷ []) ≡ true
unfolding Computed
no-positions-sound = refl

module _ (t : Tables) (day : ℤ) (ok : is_accepted t (new_day day) ≡ true) where
  abbrev alone : Tables
  alone = tables_of t.records (pos 0 ∷ [])

  accepted-alone : is_accepted alone (new_day day) ≡ true
  unfolding is_accepted plan_of day_plan plan_tests refusals soundness_tests view_of books_of
  accepted-alone = ok

  records-sound : sound_records (day_written day t.records) ≡ true
  records-sound =
      let sound : SoundTables alone = record { records = day-records-sound t day ok; positions = no-positions-sound; processes = no-processes-sound } in
      subst (λ (u : Tables). sound_records u.records ≡ true) (day-tables alone day accepted-alone) (step-sound alone sound (new_day day) accepted-alone).records

  day-keeps : TablesKept t (handle t (new_day day)).tables
  day-keeps = subst (λ (u : Tables). TablesKept t u) (sym (day-tables t day ok)) (record {
    records = record {
      same_length = day-written-length day t.records (records-known t.records (record-rows-sound t.records (day-records-sound t day ok))).header-within;
      stays-sound = λ h. records-sound;
    };
    positions = same-table sound_positions t.positions;
    processes = same-table sound_processes t.processes;
  })

-- ---- every request

accepted-keeps : (t : Tables) (r : Request) → is_accepted t r ≡ true → TablesKept t (handle t r).tables
unfolding plan_of trade_plan separation_plan transfer_plan merge_plan give_up_plan touches_all
accepted-keeps t (trade id account series side quantity price) ok = booking-keeps t (trade id account series side quantity price) _ _ refl refl ok
accepted-keeps t (separate id suffix account series parts) ok = booking-keeps t (separate id suffix account series parts) _ _ refl refl ok
accepted-keeps t (transfer id suffix from to series) ok = booking-keeps t (transfer id suffix from to series) _ _ refl refl ok
accepted-keeps t (merge id account series pairs) ok = booking-keeps t (merge id account series pairs) _ _ refl refl ok
accepted-keeps t (lineage id suffix) ok = unchanged t (handle t (lineage id suffix)).tables (lineage-stays t id suffix)
accepted-keeps t (give_up step process id suffix giving taking series) ok = booking-keeps t (give_up step process id suffix giving taking series) _ _ refl refl ok
accepted-keeps t (new_day day) ok = day-keeps t day ok

pub request-keeps : (t : Tables) (r : Request) → TablesKept t (handle t r).tables
request-keeps t r = go (split (is_accepted t r))
  where
    go : (is_accepted t r ≡ true) ⊎ (is_accepted t r ≡ false) → TablesKept t (handle t r).tables
    go (inl ok) = accepted-keeps t r ok
    go (inr not-ok) = unchanged t (handle t r).tables (refused-tables t r not-ok)

-- ---- every call, and lists of calls

done-keeps : (done : List Done) (t end : Tables) → DoneFrom t done end → TablesKept t end
done-keeps [] t end h = unchanged t end (sym h)
done-keeps (d ∷ rest) t end h =
    tables_then t (handle t d.request).tables end (request-keeps t d.request) (done-keeps rest (handle t d.request).tables end h.1)

pub call-keeps : (t : Tables) (c : Call) → TablesKept t (handle_call t c).tables
unfolding handle_call handle_batch handle_replay answer batch_answer replay_answer
call-keeps t (one r) = request-keeps t r
call-keeps t (trades figures cells) = go (batch_refusal t figures cells)
  where
    s : Sequence
    s = until_refused t (trades_of figures)

    go : (o : Option Test) → TablesKept t (answer o t (batch_answer s)).tables
    go none = done-keeps s.done t s.tables (done-from t (trades_of figures))
    go (some x) = same_tables t
call-keeps t (replay text) =
    let s : Sequence = until_refused t (reading_of text).requests in
    done-keeps s.done t s.tables (done-from t (reading_of text).requests)
call-keeps t (reportable cells) = unchanged t (handle_call t (reportable cells)).tables (list-stays t cells)

pub calls-keep : (t : Tables) (calls : List Call) → TablesKept t (run t calls).tables
unfolding run after_reply
calls-keep t [] = same_tables t
calls-keep t (c ∷ rest) = tables_then t (handle_call t c).tables (run (handle_call t c).tables rest).tables (call-keeps t c) (calls-keep (handle_call t c).tables rest)
