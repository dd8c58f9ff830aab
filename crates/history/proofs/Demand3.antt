-- Demand 3. From any tables, sound or not, hand in any list of requests, batches of trades, replays of texts and reporting lists among them; a batch that stopped, and a replay, stands as the requests
-- that it booked. Take the accepted ones in any other order in which touching requests keep their order, and hand those in from the same tables: each is accepted again with the same whole answer, what it
-- writes to a lent output too, and every cell of all three tables is the same at the end, those past the last row too.
--
-- The claim is about one list of any length. Refused requests may stand anywhere in the first list. Both runs are of `handle`, the rules of document 01: a program that always
-- refuses, or does nothing, is shut out by the rules themselves (demand 2), and not by this theorem, which such a program would satisfy.
--
-- By the exchange of neighbours (TableExchange), carried to any reordering (Replay). Assumes nothing.
use Prim.Native.Nat.{ℕ, zero, suc}
use mathlib.Core.Path.{◌≡◌, refl, sym, ◌∙◌, ap, ap₂, subst}
use mathlib.Core.Bool.{Bool, true, false, cond}
use mathlib.Core.List.{List, [], ◌∷◌, ◌++◌, map}
use mathlib.Core.Logic.{◌⊎◌, inl, inr}
use mathlib.Core.Option.{Option, none, some}
use lib.ListN.{get_elem?}
use Rattle.rules.specs.Keyed.{is_some}
use Rattle.rules.specs.Refusal.{Test}
use Rattle.rules.specs.Tables.{Tables}
use Rattle.rules.specs.Handle.{answer, handle}
use Rattle.rules.specs.Sequence.{Done, Sequence, until_refused}
use Rattle.rules.specs.Batch.{trades_of, batch_refusal, batch_answer, handle_batch}
use Rattle.rules.specs.Reader.{reading_of}
use Rattle.rules.specs.Replay.{replay_answer, handle_replay}
use Rattle.rules.specs.Call.{Call, one, trades, replay, reportable, handle_call}
use Rattle.rules.specs.Run.{after_reply, run}
use Rattle.keys.proofs.Split.{split, cond-true, cond-false, none-some, some_inj}
use Rattle.history.specs.History.{call_accepted, Entry, calls_of, entry_of, as_entry, booked_by, entries_of, accepted_entries, entries_touch, Reordering, AcceptedAs, tables_before, AcceptedAgain}
use Rattle.history.proofs.Accepted.{refused-tables}
use Rattle.history.proofs.DayAlone.{list-stays}
use Rattle.history.proofs.Replay.{Replays, replays-then, replay-reordered}
use Rattle.history.proofs.Sequences.{DoneFrom, done-from, writes_nothing}
use Rattle.history.proofs.Parts.{Does, next, entries-exchanged}

-- Requests that were done as a part of a call stand as entries of their own.
as-entries : (done : List Done) (t end : Tables) → DoneFrom t done end → Replays Does next t (map as_entry done) end
unfolding call_accepted handle_call
as-entries [] t end h = h
as-entries (d ∷ rest) t end h =
    ((h.0.0, λ i. record { call = one d.request; reply = h.0.1 i; output = writes_nothing t d.request i }), as-entries rest (handle t d.request).tables end h.1)

-- What a call that is not accepted as a whole booked leads to the tables that it leaves.
booked-replays : (t : Tables) (c : Call) → call_accepted t c ≡ false → Replays Does next t (booked_by t c) (handle_call t c).tables
unfolding call_accepted handle_call booked_by handle_batch handle_replay is_some answer batch_answer replay_answer
booked-replays t (one r) not-ok = sym (refused-tables t r not-ok)
booked-replays t (trades figures cells) not-ok = go (batch_refusal t figures cells)
  where
    s : Sequence
    s = until_refused t (trades_of figures)

    go : (o : Option Test) → Replays Does next t (cond (is_some o) [] (map as_entry s.done)) (answer o t (batch_answer s)).tables
    go none = as-entries s.done t s.tables (done-from t (trades_of figures))
    go (some x) = refl
booked-replays t (replay text) not-ok =
    let s : Sequence = until_refused t (reading_of text).requests in
    as-entries s.done t s.tables (done-from t (reading_of text).requests)
booked-replays t (reportable cells) not-ok = sym (list-stays t cells)

-- A call, as it stands among the accepted ones, leads to the tables that it leaves.
call-replays : (t : Tables) (c : Call) → Replays Does next t (entries_of t c) (handle_call t c).tables
unfolding entries_of
call-replays t c = go (split (call_accepted t c))
  where
    go : (call_accepted t c ≡ true) ⊎ (call_accepted t c ≡ false) → Replays Does next t (entries_of t c) (handle_call t c).tables
    go (inl ok) = subst (λ (l : List Entry). Replays Does next t l (handle_call t c).tables) (sym (cond-true (entry_of t c ∷ []) (booked_by t c) ok)) ((ok, refl), refl)
    go (inr not-ok) = subst (λ (l : List Entry). Replays Does next t l (handle_call t c).tables) (sym (cond-false (entry_of t c ∷ []) (booked_by t c) not-ok)) (booked-replays t c not-ok)

-- A history is a replay of its accepted entries: what was refused drops out.
pub history-replays : (t : Tables) (calls : List Call) → Replays Does next t (accepted_entries t calls) (run t calls).tables
unfolding accepted_entries run after_reply
history-replays t [] = refl
history-replays t (c ∷ rest) =
    replays-then Does next (entries_of t c) (accepted_entries (handle_call t c).tables rest) t (handle_call t c).tables _ (call-replays t c) (history-replays (handle_call t c).tables rest)

-- A replay is a history in which every call is accepted: at each place on the tables that the calls before it leave,
each-accepted : (entries : List Entry) (t end : Tables) → Replays Does next t entries end → (place : ℕ) (e : Entry) → get_elem? entries place ≡ some e → AcceptedAs (tables_before t entries place) e
unfolding run after_reply
each-accepted [] t end h place e found = none-some refl found
each-accepted (x ∷ rest) t end h zero e found =
    subst (λ (y : Entry). AcceptedAs t y) (some_inj refl found) (record { accepted = h.0.0; reply = ap (λ (y : Entry). y.reply) h.0.1; output = ap (λ (y : Entry). y.output) h.0.1 })
each-accepted (x ∷ rest) t end h (suc place) e found = each-accepted rest (next t x) end h.1 place e found

-- and its accepted entries are those that were handed in, no more and no fewer.
replayed : (entries : List Entry) (t end : Tables) → Replays Does next t entries end →
    (accepted_entries t (calls_of entries) ≡ entries) × ((run t (calls_of entries)).tables ≡ end)
unfolding accepted_entries entries_of run after_reply
replayed [] t end h = (refl, h)
replayed (e ∷ rest) t end h =
    let again : (accepted_entries (next t e) (calls_of rest) ≡ rest) × ((run (next t e) (calls_of rest)).tables ≡ end) = replayed rest (next t e) end h.1 in
    let this : entries_of t e.call ≡ e ∷ [] = cond-true (entry_of t e.call ∷ []) (booked_by t e.call) h.0.0 ∙ ap (λ (x : Entry). x ∷ []) h.0.1 in
    (ap₂ (λ (l m : List Entry). l ++ m) this again.0, again.1)

accepted-again : (entries : List Entry) (t end : Tables) → Replays Does next t entries end → AcceptedAgain t entries end
accepted-again entries t end h = record { each = each-accepted entries t end h; same-cells = (replayed entries t end h).1 }

-- Every order is such a reordering of itself.
pub own-order : {Item : Type 0} (touches : Item → Item → Bool) (items : List Item) → Reordering touches items items
own-order touches items = record {
  size = refl;
  from = λ j. j;
  within = λ j l. l;
  once = λ i j k l e. e;
  same = λ j l. refl;
  kept = λ i j x y l f g t. l;
}

-- In the order of the first list itself, with what was refused left out.
pub without-refused : (t : Tables) (calls : List Call) → AcceptedAgain t (accepted_entries t calls) (run t calls).tables
without-refused t calls = accepted-again (accepted_entries t calls) t (run t calls).tables (history-replays t calls)

module _ (t : Tables) (calls : List Call) (new : List Entry) (order : Reordering entries_touch (accepted_entries t calls) new) where
  in-new-order : Replays Does next t new (run t calls).tables
  in-new-order = replay-reordered Does next entries_touch entries-exchanged new (accepted_entries t calls) t (run t calls).tables order (history-replays t calls)

  pub demand-3 : AcceptedAgain t new (run t calls).tables
  demand-3 = accepted-again new t (run t calls).tables in-new-order

  -- So the second run's accepted entries are the new list: nothing in it is refused, or stands as anything but itself.
  pub same_entries : accepted_entries t (calls_of new) ≡ new
  same_entries = (replayed new t (run t calls).tables in-new-order).0

  -- And the reporting list (document 02, K8) that is asked for afterwards, at the day's end, is the same whichever of these orders the day's requests had: its reply, its pairs and every cell.
  pub list-at-day's-end : (cells : ℕ) → handle_call (run t (calls_of new)).tables (reportable cells) ≡ handle_call (run t calls).tables (reportable cells)
  list-at-day's-end cells = ap (λ (u : Tables). handle_call u (reportable cells)) demand-3.same-cells
