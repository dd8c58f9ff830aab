-- K3, give-ups: "from tables in which it holds, empty ones to begin with, and after any list of requests of every kind: a record has status 3 exactly where a process that is pending
-- or claimed names it, and then just one does" (`Matched`). Whatever the tables, a request keeps it, refused or accepted, and so does every list of calls, batches, stopped or
-- not, and replays among them; tables without rows have it; and the sentence is read back from it, both ways. A refused request changes nothing; an accepted step finds sound tables (tests 1, 2 and 19); beside
-- any process table the other requests do what they do beside one without rows. Assumes nothing.
use Prim.Native.Nat.{ℕ}
use mathlib.Core.Path.{◌≡◌, refl, sym, ◌∙◌, ap, subst}
use mathlib.Core.Bool.{Bool, true, false, cond}
use mathlib.Core.List.{List, [], ◌∷◌}
use mathlib.Core.Logic.{◌⊎◌, inl, inr}
use mathlib.Core.Option.{Option, none, some}
use native.Mathlib.Omega.{arith}
use lib.IntN.{ℤ, pos}
use lib.ListN.{get_elem?}
use Rattle.integers.proofs.Parts.{eq_z-true, true-eq_z}
use Rattle.rules.specs.Figures.{under_give_up}
use Rattle.rules.specs.Keyed.{Key, find}
use Rattle.rules.specs.Rows.{key_of, record_key}
use Rattle.rules.specs.Refusal.{Test}
use Rattle.rules.specs.Request.{Request, trade, separate, transfer, merge, lineage, give_up, new_day, is_step}
use Rattle.rules.specs.Books.{Books, view_of}
use Rattle.rules.specs.Touching.{touches_all}
use Rattle.rules.specs.GiveUp.{give_up_plan}
use Rattle.rules.specs.Layout.{count_of}
use Rattle.rules.specs.Tables.{Tables, tables_of, sound_processes, records_layout, processes_layout, books_of}
use Rattle.rules.specs.Handle.{Answer, answer, handle, plan_of}
use Rattle.rules.specs.Sequence.{Done, Sequence, until_refused}
use Rattle.rules.specs.Batch.{trades_of, batch_refusal, batch_answer, handle_batch}
use Rattle.rules.specs.Reader.{reading_of}
use Rattle.rules.specs.Replay.{replay_answer, handle_replay}
use Rattle.rules.specs.Call.{Call, one, trades, replay, reportable, handle_call}
use Rattle.rules.specs.Run.{after_reply, run}
use Rattle.rules.specs.declared.Record.{Record}
use Rattle.rules.specs.declared.ProcessRow.{ProcessRow}
use Rattle.rules.specs.declared.Step.{Step}
use Rattle.keys.proofs.Split.{split, clash, cond-true}
use Rattle.keys.proofs.Clauses.{find-nil}
use Rattle.soundness.specs.SoundTables.{SoundTables}
use Rattle.history.specs.History.{is_accepted}
use Rattle.history.specs.UnderGiveUp.{is_open_for, open_for, is_under_give_up, Matched, JustOne}
use Rattle.history.proofs.Accepted.{refused-tables, accepted-rows, all_sound, booked-on-sound, sound-or-same}
use Rattle.history.proofs.Effects.{leaves-day}
use Rattle.history.proofs.DayAlone.{day-books, list-stays}
use Rattle.history.proofs.Step.{sound-books, step-books}
use Rattle.history.proofs.ProcessesApart.{apart-promised}
use Rattle.history.proofs.TableExchange.{accepts-as, no-processes-sound}
use Rattle.history.proofs.Sequences.{DoneFrom, done-from}
use Rattle.history.proofs.Empty.{no_rows}
use Rattle.history.proofs.OpenProcesses.{open_for-nil, counted, just-one}
use Rattle.history.proofs.RecordsUnder.{under_at, under-found, under-absent, under_stays}
use Rattle.history.proofs.StepMatched.{step-matched}

-- ---- one request

-- One that is no step, beside sound processes: no record comes under give-up, and none ceases to be.
under_same : (t : Tables) → sound_processes t.processes ≡ true → (r : Request) → is_step r ≡ false → touches_all r ≡ false → is_accepted t r ≡ true → (k : Key) →
    under_at k (books_of (handle t r).tables).records ≡ under_at k (books_of t).records
under_same t h r no_step not-all ok k = go (sound-or-same t r h (leaves-day (view_of (books_of t)) r not-all) ok)
  where
    go : (SoundTables t) ⊎ ((handle t r).tables ≡ t) → under_at k (books_of (handle t r).tables).records ≡ under_at k (books_of t).records
    go (inl sound) = ap (λ (b : Books). under_at k b.records) (step-books t sound r ok) ∙ under_stays (books_of t) (sound-books t sound) r no_step (accepted-rows t r ok) k
    go (inr same) = ap (λ (u : Tables). under_at k (books_of u).records) same

-- Beside any: its answer is that beside no rows, and every process stays.
other-matched : (t : Tables) (r : Request) → is_step r ≡ false → touches_all r ≡ false → is_accepted t r ≡ true → Matched (books_of t) → Matched (books_of (handle t r).tables)
unfolding books_of
other-matched t r no_step not-all ok m =
    let two : Tables = tables_of t.records t.positions in
    subst (λ (a : Answer). Matched (books_of a.tables)) (sym (apart-promised t r no_step))
    (record {
      at = λ id suffix.
          m.at id suffix
          ∙ ap (λ (u : Bool). cond u 1 0)
          (sym (under_same two no-processes-sound r no_step not-all (sym (accepts-as t.processes two r no_step) ∙ ok) (key_of id suffix)));
    })

give-up-matched : (t : Tables) (step : Step) (process id suffix giving taking series : ℤ) → is_accepted t (give_up step process id suffix giving taking series) ≡ true →
    Matched (books_of t) → Matched (books_of (handle t (give_up step process id suffix giving taking series)).tables)
unfolding plan_of give_up_plan is_step
give-up-matched t step process id suffix giving taking series ok m =
    let r : Request = give_up step process id suffix giving taking series in
    let sound : SoundTables t = all_sound t r (booked-on-sound t r _ _ refl ok) ((booked-on-sound t r _ _ refl ok).processes refl) in
    subst Matched (sym (step-books t sound r ok)) (step-matched (books_of t) (sound-books t sound) step process id suffix giving taking series (accepted-rows t r ok) m)

accepted-matched : (t : Tables) (r : Request) → is_accepted t r ≡ true → Matched (books_of t) → Matched (books_of (handle t r).tables)
unfolding is_step touches_all
accepted-matched t (trade id account series side quantity price) ok m = other-matched t (trade id account series side quantity price) refl refl ok m
accepted-matched t (separate id suffix account series parts) ok m = other-matched t (separate id suffix account series parts) refl refl ok m
accepted-matched t (transfer id suffix from to series) ok m = other-matched t (transfer id suffix from to series) refl refl ok m
accepted-matched t (merge id account series pairs) ok m = other-matched t (merge id account series pairs) refl refl ok m
accepted-matched t (lineage id suffix) ok m = other-matched t (lineage id suffix) refl refl ok m
accepted-matched t (give_up step process id suffix giving taking series) ok m = give-up-matched t step process id suffix giving taking series ok m
accepted-matched t (new_day day) ok m = subst Matched (sym (day-books t day ok)) (record { at = m.at })

-- "from tables in which it holds", whatever the tables and the request, refused or accepted
pub request-matched : (t : Tables) (r : Request) → Matched (books_of t) → Matched (books_of (handle t r).tables)
request-matched t r m = go (split (is_accepted t r))
  where
    go : (is_accepted t r ≡ true) ⊎ (is_accepted t r ≡ false) → Matched (books_of (handle t r).tables)
    go (inl ok) = accepted-matched t r ok m
    go (inr not-ok) = subst (λ (u : Tables). Matched (books_of u)) (sym (refused-tables t r not-ok)) m

-- ---- calls

done-matched : (done : List Done) (t end : Tables) → DoneFrom t done end → Matched (books_of t) → Matched (books_of end)
done-matched [] t end h m = subst (λ (u : Tables). Matched (books_of u)) h m
done-matched (d ∷ rest) t end h m = done-matched rest (handle t d.request).tables end h.1 (request-matched t d.request m)

call-matched : (t : Tables) (c : Call) → Matched (books_of t) → Matched (books_of (handle_call t c).tables)
unfolding handle_call handle_batch handle_replay answer batch_answer replay_answer
call-matched t (one r) m = request-matched t r m
call-matched t (trades figures cells) m = go (batch_refusal t figures cells)
  where
    s : Sequence
    s = until_refused t (trades_of figures)

    go : (o : Option Test) → Matched (books_of (answer o t (batch_answer s)).tables)
    go none = done-matched s.done t s.tables (done-from t (trades_of figures)) m
    go (some x) = m
call-matched t (replay text) m =
    let s : Sequence = until_refused t (reading_of text).requests in
    done-matched s.done t s.tables (done-from t (reading_of text).requests) m
call-matched t (reportable cells) m = subst (λ (u : Tables). Matched (books_of u)) (sym (list-stays t cells)) m

-- "and after any list of requests of every kind"
pub calls-matched : (t : Tables) (calls : List Call) → Matched (books_of t) → Matched (books_of (run t calls).tables)
unfolding run after_reply
calls-matched t [] m = m
calls-matched t (c ∷ rest) m = calls-matched (handle_call t c).tables rest (call-matched t c m)

-- ---- empty tables

-- "empty ones to begin with"
pub empty-matched : (t : Tables) → count_of t.records ≡ pos 0 → count_of t.processes ≡ pos 0 → Matched (books_of t)
unfolding books_of
empty-matched t no-records no-processes = record {
  at = λ id suffix.
      ap (open_for (key_of id suffix)) (no_rows processes_layout t.processes no-processes)
      ∙ open_for-nil (key_of id suffix)
      ∙ ap (λ (u : Bool). cond u 1 0)
      (sym (ap (under_at (key_of id suffix)) (no_rows records_layout t.records no-records) ∙ under-absent (key_of id suffix) [] (find-nil record_key (key_of id suffix))));
}

-- ---- the sentence

found-under : (o : Option Record) → is_under_give_up o ≡ true → (r : Record) × (o ≡ some r) × (r.status ≡ under_give_up)
unfolding is_under_give_up
found-under none h = clash h refl
found-under (some r) h = (r, refl, eq_z-true r.status under_give_up h)

module _ (b : Books) (m : Matched b) (id suffix : ℤ) where
  abbrev k : Key
  k = key_of id suffix

  -- "and then just one does": their number at a record of status 3
  pub named-once : (r : Record) → find record_key k b.records ≡ some r → r.status ≡ under_give_up → open_for k b.processes ≡ 1
  named-once r f s = m.at id suffix ∙ cond-true 1 0 (under-found k b.records r f ∙ true-eq_z r.status under_give_up s)

  -- "a record has status 3" only "where a process that is pending or claimed names it, and then just one does"
  pub named-by-one : (r : Record) → find record_key k b.records ≡ some r → r.status ≡ under_give_up → JustOne k b.processes
  named-by-one r f s = just-one k b.processes (named-once r f s)

  -- and "where a process that is pending or claimed names it", there is the record and has status 3
  pub open-names-under : (place : ℕ) (p : ProcessRow) → get_elem? b.processes place ≡ some p → is_open_for k p ≡ true →
      (r : Record) × (find record_key k b.records ≡ some r) × (r.status ≡ under_give_up)
  open-names-under place p e h = go (split (under_at k b.records))
    where
      go : (under_at k b.records ≡ true) ⊎ (under_at k b.records ≡ false) → (r : Record) × (find record_key k b.records ≡ some r) × (r.status ≡ under_give_up)
      go (inl u) = found-under (find record_key k b.records) u
      go (inr u) =
          let none_open : open_for k b.processes ≡ 0 = m.at id suffix ∙ ap (λ (x : Bool). cond x 1 0) u in
          absurd (omega (arith, none_open, counted k b.processes place p e h))
