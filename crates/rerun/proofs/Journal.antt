-- Document 02, K5: "Replay into empty tables of the same room gives the rows that a day begun on empty tables ended with" (`day-rerun`). The day is any list of calls of every kind, with refused
-- requests, batches that stopped, replays, new days and reporting lists among them; its journal is the text of its accepted requests (`journal_of`); the rows are those of all three tables, each record with
-- its day of booking (K8); the current day is the same too, and the rooms stay; and every line is booked (`Rerun`).
-- More generally (`journal-replayed`): from any sound tables, into any others with the same books.
--
-- The accepted requests are done one after the other from the first tables; from the others they are done with the same replies (SameBooks), without the lineages too (JournalLines); and the journal is
-- read back as just these requests. Assumes nothing.
use Prim.Native.Nat.{ℕ}
use mathlib.Core.Path.{◌≡◌, sym, ◌∙◌, ap}
use mathlib.Core.Bool.{true}
use mathlib.Core.List.{List}
use lib.IntN.{pos}
use lib.ListN.{length, length-map}
use Rattle.rules.specs.Request.{Request}
use Rattle.rules.specs.Reader.{Reading, reading_of}
use Rattle.rules.specs.Replay.{replay_reply, replay_answer, handle_replay}
use Rattle.rules.specs.Books.{Books}
use Rattle.rules.specs.Tables.{Tables, books_of}
use Rattle.rules.specs.Handle.{Answer, answered_by}
use Rattle.rules.specs.Sequence.{Done, Sequence, until_refused}
use Rattle.rules.specs.Call.{Call, replay, handle_call}
use Rattle.rules.specs.Run.{run}
use Rattle.rules.specs.declared.Reply.TheVariants.{Replayed}
use Rattle.lines.specs.LineNumbers.{newlines}
use Rattle.soundness.specs.SoundTables.{SoundTables}
use Rattle.history.specs.History.{accepted_entries}
use Rattle.history.specs.EmptyTables.{EmptyTables, SameRoom}
use Rattle.rerun.specs.Journal.{journal_of, requests_in, journalled}
use Rattle.rerun.specs.Rerun.{Rerun}
use Rattle.history.proofs.Sequences.{DoneFrom, requests_done, done-whole}
use Rattle.rerun.proofs.AcceptedDone.{DoneThese, accepted-done}
use Rattle.rerun.proofs.SameBooks.{DoneAlike, done-alike}
use Rattle.rerun.proofs.JournalLines.{without-lineages, journal-of-accepted, journal-counted}
use Rattle.history.proofs.Empty.{empty-tables-sound, empty-books}

-- A text that is read as requests which are done from these tables is replayed to the end.
replayed-whole : (u end : Tables) (text : List ℕ) (done : List Done) → reading_of text ≡ record { requests = requests_done done; whole = true } → DoneFrom u done end →
    handle_call u (replay text) ≡ answered_by (Replayed (pos (length done))) end
unfolding handle_call handle_replay replay_answer replay_reply
replayed-whole u end text done read from =
    ap (λ (r : Reading). replay_answer (until_refused u r.requests) r.whole) read ∙ ap (λ (s : Sequence). replay_answer s true) (done-whole done u end from)

-- Answers and tables with the same books, field by field.
rerun-of : (journal : List ℕ) (replayed : Answer) (ended : Tables) → replayed.reply ≡ Replayed (pos (newlines journal)) → books_of replayed.tables ≡ books_of ended → Rerun journal replayed ended
unfolding books_of
rerun-of journal replayed ended reply same = record {
  every-line = reply;
  records = ap (λ (b : Books). b.records) same;
  positions = ap (λ (b : Books). b.positions) same;
  processes = ap (λ (b : Books). b.processes) same;
  day = ap (λ (b : Books). b.day) same;
  rooms = record {
    records = ap (λ (b : Books). b.records_room) same;
    positions = ap (λ (b : Books). b.positions_room) same;
    processes = ap (λ (b : Books). b.processes_room) same;
  };
}

-- The day's journal, replayed into other sound tables with the same books: every line is booked, and the rows are those that the day ended with.
pub journal-replayed : (t u : Tables) → SoundTables t → SoundTables u → books_of t ≡ books_of u → (calls : List Call) →
    Rerun (journal_of (accepted_entries t calls)) (handle_call u (replay (journal_of (accepted_entries t calls)))) (run t calls).tables
journal-replayed t u sound-t sound-u same calls =
    let text : List ℕ = journal_of (accepted_entries t calls) in
    let rs : List Request = requests_in (accepted_entries t calls) in
    let a : DoneThese t rs (run t calls).tables = accepted-done t calls in
    let b : DoneAlike u a.done (run t calls).tables = done-alike a.done t u (run t calls).tables sound-t sound-u same a.from in
    let c : DoneThese u (journalled (requests_done a.done)) b.last = without-lineages a.done u b.last b.from in
    let these : requests_done c.done ≡ journalled rs = c.these ∙ ap journalled a.these in
    let is : handle_call u (replay text) ≡ answered_by (Replayed (pos (length c.done))) b.last =
    replayed-whole u b.last text c.done (journal-of-accepted t calls ∙ ap (λ (l : List Request). record { requests = l; whole = true }) (sym these)) c.from in
    let count : length c.done ≡ newlines text =
    sym (length-map c.done (λ (d : Done). d.request)) ∙ ap (λ (l : List Request). length l) these ∙ sym (journal-counted t calls) in
    rerun-of text (handle_call u (replay text)) (run t calls).tables (ap (λ (x : Answer). x.reply) is ∙ ap (λ (n : ℕ). Replayed (pos n)) count)
    (ap (λ (x : Answer). books_of x.tables) is ∙ b.same_books)

-- "Replay into empty tables of the same room gives the rows that a day begun on empty tables ended with."
pub day-rerun : (t u : Tables) → EmptyTables t → EmptyTables u → SameRoom t u → (calls : List Call) →
    Rerun (journal_of (accepted_entries t calls)) (handle_call u (replay (journal_of (accepted_entries t calls)))) (run t calls).tables
day-rerun t u e f room calls = journal-replayed t u (empty-tables-sound t e) (empty-tables-sound u f) (empty-books t u e f room) calls
