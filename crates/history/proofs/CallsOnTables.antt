-- Demand 2 on the cells of the tables, of every call: sound tables stay sound, and cell 0 of the records table grows by the rows that the call booked, on any tables. Those are the rows that the
-- answer names: for a batch the trades that it booked, stopped or not; for a replay, whose answer names lines, those of the requests that it booked. By the same of its requests (OnTables).
-- Assumes nothing.
use Prim.Native.Nat.{ℕ, zero, suc, ◌+◌}
use native.Mathlib.Omega.{arith}
use mathlib.Core.Path.{◌≡◌, refl, sym, ◌∙◌, ap, subst}
use mathlib.Core.Bool.{Bool, true, false}
use mathlib.Core.List.{List, [], ◌∷◌}
use mathlib.Core.Option.{Option, none, some}
use lib.IntN.{ℤ, pos, ◌+ℤ◌, +ℤ_idr, +ℤ_assoc}
use lib.ListN.{length}
use Rattle.rules.specs.Refusal.{Test}
use Rattle.rules.specs.Reply.{refused_by}
use Rattle.rules.specs.Request.{Request}
use Rattle.rules.specs.Plan.{plan_reply}
use Rattle.rules.specs.Trade.{trade_reply, trade_plan}
use Rattle.rules.specs.Layout.{count_of, decode}
use Rattle.rules.specs.Tables.{Tables}
use Rattle.rules.specs.Handle.{answer, handle, refusal_of, plan_of}
use Rattle.rules.specs.Sequence.{Done, Sequence, goes_on, until_refused}
use Rattle.rules.specs.Batch.{trade_at, trade_count, trades_of, batch_refusal, batch_reply, batch_answer, handle_batch}
use Rattle.rules.specs.Reader.{reading_of}
use Rattle.rules.specs.Replay.{replay_answer, handle_replay}
use Rattle.rules.specs.Call.{Call, one, trades, replay, reportable, handle_call}
use Rattle.rules.specs.declared.Reply.{Reply}
use Rattle.soundness.specs.RowsAnswered.{rows_answered}
use Rattle.soundness.specs.SoundTables.{SoundTables}
use Rattle.history.specs.History.{is_accepted}
use Rattle.history.specs.RowsBooked.{rows_of_all, rows_booked}
use Rattle.history.proofs.Accepted.{none-accepted, accepted-reply}
use Rattle.history.proofs.DayAlone.{list-stays, list-adds-none}
use Rattle.history.proofs.OnTables.{stays-sound, count-grows}
use Rattle.history.proofs.Sequences.{DoneFrom, done-from}

done-sound : (done : List Done) (t end : Tables) → DoneFrom t done end → SoundTables t → SoundTables end
done-sound [] t end h sound = subst (λ (u : Tables). SoundTables u) h sound
done-sound (d ∷ rest) t end h sound = done-sound rest (handle t d.request).tables end h.1 (stays-sound t sound d.request)

-- From tables that pass tests 1, 2 and 19, whatever the call, the tables afterwards pass them.
pub calls-stay-sound : (t : Tables) → SoundTables t → (c : Call) → SoundTables (handle_call t c).tables
unfolding handle_call handle_batch handle_replay answer batch_answer replay_answer
calls-stay-sound t sound (one r) = stays-sound t sound r
calls-stay-sound t sound (trades figures cells) = go (batch_refusal t figures cells)
  where
    s : Sequence
    s = until_refused t (trades_of figures)

    go : (o : Option Test) → SoundTables (answer o t (batch_answer s)).tables
    go none = done-sound s.done t s.tables (done-from t (trades_of figures)) sound
    go (some x) = sound
calls-stay-sound t sound (replay text) =
    let s : Sequence = until_refused t (reading_of text).requests in
    done-sound s.done t s.tables (done-from t (reading_of text).requests) sound
calls-stay-sound t sound (reportable cells) = subst (λ (u : Tables). SoundTables u) (sym (list-stays t cells)) sound

-- ---- cell 0

one-row : (error : Bool) (excess : ℤ) → rows_answered (trade_reply error excess) ≡ pos 1
unfolding trade_reply
one-row true excess = refl
one-row false excess = refl

-- An accepted trade answers one row.
trade-adds-one : (t : Tables) (figures : List ℤ) (at : ℕ) → is_accepted t (trade_at figures at) ≡ true → rows_answered (handle t (trade_at figures at)).reply ≡ pos 1
unfolding plan_of trade_plan plan_reply
trade-adds-one t figures at ok = ap (λ (r : Reply). rows_answered r) (accepted-reply t (trade_at figures at) ok) ∙ one-row _ _

trades-grow : (n at : ℕ) (figures : List ℤ) (t : Tables) →
    count_of (until_refused t (decode trade_at 6 n at figures)).tables.records ≡ count_of t.records +ℤ pos (length (until_refused t (decode trade_at 6 n at figures)).done)
unfolding until_refused goes_on
trades-grow zero at figures t = sym (+ℤ_idr (count_of t.records))
trades-grow (suc n) at figures t = go (refusal_of t (trade_at figures at)) refl (trades-grow n (at + 6) figures (handle t (trade_at figures at)).tables)
  where
    r : Request
    r = trade_at figures at

    later : Sequence
    later = until_refused (handle t r).tables (decode trade_at 6 n (at + 6) figures)

    go : (o : Option Test) → refusal_of t r ≡ o → count_of later.tables.records ≡ count_of (handle t r).tables.records +ℤ pos (length later.done) →
        count_of (goes_on t r o later).tables.records ≡ count_of t.records +ℤ pos (length (goes_on t r o later).done)
    go none e again =
        again
        ∙ ap (λ (c : ℤ). c +ℤ pos (length later.done)) (count-grows t r ∙ ap (λ (c : ℤ). count_of t.records +ℤ c) (trade-adds-one t figures at (none-accepted t r e)))
        ∙ +ℤ_assoc (count_of t.records) (pos 1) (pos (length later.done))
        ∙ ap (λ (k : ℕ). count_of t.records +ℤ pos k) (omega arith)
    go (some x) e again = sym (+ℤ_idr (count_of t.records))

booked-rows : (n : ℕ) (o : Option Test) → rows_answered (batch_reply n o) ≡ pos n
unfolding batch_reply
booked-rows n none = refl
booked-rows n (some x) = refl

-- Requests that were done as a part of a call: cell 0 grows by the rows that their answers name.
done-grows : (done : List Done) (t end : Tables) → DoneFrom t done end → count_of end.records ≡ count_of t.records +ℤ rows_of_all done
unfolding rows_of_all
done-grows [] t end h = ap (λ (u : Tables). count_of u.records) (sym h) ∙ sym (+ℤ_idr (count_of t.records))
done-grows (d ∷ rest) t end h =
    done-grows rest (handle t d.request).tables end h.1
    ∙ ap (λ (c : ℤ). c +ℤ rows_of_all rest) (count-grows t d.request ∙ ap (λ (r : Reply). count_of t.records +ℤ rows_answered r) h.0.1)
    ∙ +ℤ_assoc (count_of t.records) (rows_answered d.reply) (rows_of_all rest)

-- Whatever the tables and the call, cell 0 grows by the rows that it booked.
pub calls-count-grows : (t : Tables) (c : Call) → count_of (handle_call t c).tables.records ≡ count_of t.records +ℤ rows_booked t c
unfolding handle_call handle_batch handle_replay answer batch_answer replay_answer refused_by trades_of rows_booked
calls-count-grows t (one r) = count-grows t r
calls-count-grows t (trades figures cells) = go (batch_refusal t figures cells)
  where
    s : Sequence
    s = until_refused t (trades_of figures)

    go : (o : Option Test) → count_of (answer o t (batch_answer s)).tables.records ≡ count_of t.records +ℤ rows_answered (answer o t (batch_answer s)).reply
    go none = trades-grow (trade_count figures) 0 figures t ∙ ap (λ (c : ℤ). count_of t.records +ℤ c) (sym (booked-rows (length s.done) s.stop))
    go (some x) = sym (+ℤ_idr (count_of t.records))
calls-count-grows t (replay text) =
    let s : Sequence = until_refused t (reading_of text).requests in
    done-grows s.done t s.tables (done-from t (reading_of text).requests)
calls-count-grows t (reportable cells) =
    ap (λ (u : Tables). count_of u.records) (list-stays t cells) ∙ sym (ap (λ (rows : ℤ). count_of t.records +ℤ rows) (list-adds-none t cells) ∙ +ℤ_idr (count_of t.records))
