-- A call that is accepted as a whole is the requests that it is made of, done one after the other; and the other way round. So two calls that don't touch are exchanged
-- by exchanging their requests. Assumes nothing.
use Prim.Native.Nat.{ℕ, zero, suc, ◌%◌}
use native.Mathlib.Omega.{arith}
use mathlib.Core.Path.{◌≡◌, refl, sym, ◌∙◌, ap, subst}
use mathlib.Core.Bool.{true, false, not, ◌&&◌}
use mathlib.Core.List.{List, [], ◌∷◌}
use mathlib.Core.Option.{Option, none}
use lib.Dec.{eqb, leb}
use lib.IntN.{ℤ}
use lib.ListN.{length, get_or}
use borrow.Author.Tests.{not-true, not-false}
use Rattle.rules.specs.Keyed.{is_some}
use Rattle.rules.specs.Refusal.{Test}
use Rattle.rules.specs.Request.{Request}
use Rattle.rules.specs.Trade.{trade_plan}
use Rattle.rules.specs.Tables.{Tables}
use Rattle.rules.specs.Layout.{decode}
use Rattle.rules.specs.Handle.{Answer, answer, handle, plan_of}
use Rattle.rules.specs.Sequence.{Done, Sequence, until_refused}
use Rattle.rules.specs.Batch.{trade_at, trade_count, trades_of, batch_figures, batch_tests, batch_refusal, excesses_of, batch_reply, batch_answer, handle_batch}
use Rattle.rules.specs.Call.{Call, one, trades, replay, reportable, handle_call, requests_of}
use Rattle.rules.specs.Touching.{call_touches_all}
use Rattle.rules.specs.declared.Reply.{Reply}
use Rattle.keys.proofs.Split.{clash, and_left, and_right, and_intro}
use Rattle.keys.proofs.Counts.{is_some-absent}
use Rattle.keys.proofs.Clauses.{is_some-none}
use Rattle.history.specs.History.{is_accepted, call_accepted, Entry, entry_of, entries_touch}
use Rattle.history.proofs.Accepted.{BookedOn, booked-on-sound}
use Rattle.history.proofs.Apart.{done_touch, neither-all, calls-apart}
use Rattle.history.proofs.DayAlone.{list-stays}
use Rattle.history.proofs.Replay.{AllApart, lists-exchanged}
use Rattle.history.proofs.Refusals.{no-refusal, test-passes, rest-passes, passes-test}
use Rattle.history.proofs.Sequences.{DoesOne, next_one, DoneFrom, requests_done, whole, done-from, whole-list, done-whole, done-exchanged, writes_nothing}

-- The call is accepted as a whole on these tables with the entry's answer.
abbrev pub Does : Tables → Entry → Type 0
Does t e = (call_accepted t e.call ≡ true) × (entry_of t e.call ≡ e)

abbrev pub next : Tables → Entry → Tables
next t e = (handle_call t e.call).tables

-- What the answer of a call that is accepted as a whole says of its requests' replies; no tables are named. No replay is: it stands as the requests that it booked.
-- The reporting list is made of no request, and touches everything: what it answers is asked of no other order.
abbrev Made : Call → Reply → List ℤ → List Done → Type 0
Made (one r) reply output done = (done ≡ record { request = r; reply = reply } ∷ []) × (output ≡ [])
Made (trades figures cells) reply output done =
    (batch_figures figures cells ≡ true) × (requests_done done ≡ trades_of figures) × (reply ≡ batch_reply (length done) none) × (output ≡ excesses_of done)
Made (replay text) reply output done = ⊥
Made (reportable cells) reply output done = done ≡ []

-- An entry, done from these tables to those by its requests.
pub record InParts (t : Tables) (e : Entry) (end : Tables) : Type 0 where
  pub done : List Done
  pub from : DoneFrom t done end
  pub made : Made e.call e.reply e.output done

-- ---- tests 1 to 3 of a batch

absent : (o : Option Test) → not (is_some o) ≡ true → o ≡ none
absent o h = is_some-absent o (not-true (is_some o) h)

none-absent : (o : Option Test) → o ≡ none → not (is_some o) ≡ true
none-absent o h = ap (λ (p : Option Test). not (is_some p)) h ∙ ap not (is_some-none Test)

pub figures-pass : (t : Tables) (figures : List ℤ) (cells : ℕ) → batch_refusal t figures cells ≡ none → batch_figures figures cells ≡ true
unfolding batch_tests
figures-pass t figures cells h = not-false (batch_figures figures cells) (test-passes 3 _ _ (rest-passes _ _ (rest-passes _ _ h)))

batch-passes : (t : Tables) (figures : List ℤ) (cells : ℕ) → BookedOn t (trade_at figures 0) → batch_figures figures cells ≡ true → batch_refusal t figures cells ≡ none
unfolding batch_tests
batch-passes t figures cells sound ok =
    passes-test 1 _ _ (ap not sound.records) (passes-test 2 _ _ (ap not sound.positions) (passes-test 3 _ _ (ap not ok) no-refusal))

-- ---- a call in parts

call-parts : (t : Tables) (c : Call) → call_accepted t c ≡ true → InParts t (entry_of t c) (handle_call t c).tables
unfolding call_accepted handle_call handle_batch answer batch_answer
call-parts t (one r) ok = record {
  done = record { request = r; reply = (handle t r).reply } ∷ [];
  from = ((ok, refl), refl);
  made = (refl, writes_nothing t r);
}
call-parts t (trades figures cells) ok =
    let s : Sequence = until_refused t (trades_of figures) in
    let passes : batch_refusal t figures cells ≡ none = absent (batch_refusal t figures cells) (and_left (not (is_some (batch_refusal t figures cells))) (not (is_some s.stop)) ok) in
    let stop : s.stop ≡ none = absent s.stop (and_right (not (is_some (batch_refusal t figures cells))) (not (is_some s.stop)) ok) in
    let is : handle_batch t figures cells ≡ batch_answer s = ap (λ (o : Option Test). answer o t (batch_answer s)) passes in
    record {
      done = s.done;
      from = subst (λ (u : Tables). DoneFrom t s.done u) (sym (ap (λ (a : Answer). a.tables) is)) (done-from t (trades_of figures));
      made = (
        figures-pass t figures cells passes,
        whole-list t (trades_of figures) stop,
        ap (λ (a : Answer). a.reply) is ∙ ap (λ (o : Option Test). batch_reply (length s.done) o) stop,
        ap (λ (a : Answer). a.output) is,
      );
    }
call-parts t (replay text) ok = clash ok refl
call-parts t (reportable cells) ok = record { done = []; from = sym (list-stays t cells); made = refl }

pub in_parts : (t : Tables) (e : Entry) → Does t e → InParts t e (next t e)
in_parts t e h = subst (λ (x : Entry). InParts t x (next t e)) h.1 (call-parts t e.call h.0)

pub made-requests : (c : Call) (reply : Reply) (output : List ℤ) (done : List Done) → Made c reply output done → requests_done done ≡ requests_of c
unfolding requests_of
made-requests (one r) reply output done m = ap requests_done m.0
made-requests (trades figures cells) reply output done m = m.1
made-requests (replay text) reply output done m = absurd m
made-requests (reportable cells) reply output done m = ap requests_done m

-- ---- and the other way round

-- A batch has a first trade, which is accepted on sound records and positions alone.
some-trade : (figures : List ℤ) (cells : ℕ) → batch_figures figures cells ≡ true → (rest : List Request) × (trades_of figures ≡ trade_at figures 0 ∷ rest)
unfolding batch_figures trades_of
some-trade figures cells h =
    let n : ℕ = trade_count figures in
    let listed : (eqb (length figures % 6) 0 && leb 1 n) ≡ true = and_left _ (leb n 1000) (and_left _ (leb n cells) h) in
    go n (and_right (eqb (length figures % 6) 0) (leb 1 n) listed)
  where
    go : (n : ℕ) → leb 1 n ≡ true → (rest : List Request) × (decode trade_at 6 n 0 figures ≡ trade_at figures 0 ∷ rest)
    go zero k = clash k refl
    go (suc n) k = (decode trade_at 6 n 6 figures, refl)

trade-on-sound : (t : Tables) (figures : List ℤ) → is_accepted t (trade_at figures 0) ≡ true → BookedOn t (trade_at figures 0)
unfolding plan_of trade_plan
trade-on-sound t figures ok = booked-on-sound t (trade_at figures 0) _ _ refl ok

batch-on-sound : (t end : Tables) (figures : List ℤ) (cells : ℕ) (done : List Done) → batch_figures figures cells ≡ true → requests_done done ≡ trades_of figures → DoneFrom t done end → BookedOn t (trade_at figures 0)
batch-on-sound t end figures cells done ok these from = go done these from
  where
    first : (rest : List Request) × (trades_of figures ≡ trade_at figures 0 ∷ rest)
    first = some-trade figures cells ok

    none-listed : {X : Type 0} → [] ≡ trade_at figures 0 ∷ first.0 → X
    none-listed e = let z : 0 ≡ suc (length first.0) = ap (λ (l : List Request). length l) e in absurd (omega arith)

    go : (d : List Done) → requests_done d ≡ trades_of figures → DoneFrom t d end → BookedOn t (trade_at figures 0)
    go [] e f = none-listed (e ∙ first.1)
    go (d ∷ rest) e f =
        trade-on-sound t figures
        (subst (λ (r : Request). is_accepted t r ≡ true) (ap (λ (l : List Request). get_or l 0 d.request) (e ∙ first.1)) f.0.0)

whole-call : (t end : Tables) (c : Call) → call_touches_all c ≡ false → (reply : Reply) (output : List ℤ) (done : List Done) → DoneFrom t done end → Made c reply output done →
    (call_accepted t c ≡ true) × (entry_of t c ≡ record { call = c; reply = reply; output = output }) × ((handle_call t c).tables ≡ end)
unfolding call_accepted handle_call handle_batch answer batch_answer call_touches_all
whole-call t end (one r) n reply output done from made =
    let f : DoneFrom t (record { request = r; reply = reply } ∷ []) end = subst (λ (d : List Done). DoneFrom t d end) made.0 from in
    (f.0.0, λ i. record { call = one r; reply = f.0.1 i; output = (writes_nothing t r ∙ sym made.1) i }, f.1)
whole-call t end (trades figures cells) n reply output done from made =
    let sound : BookedOn t (trade_at figures 0) = batch-on-sound t end figures cells done made.0 made.1 from in
    let passes : batch_refusal t figures cells ≡ none = batch-passes t figures cells sound made.0 in
    let all : until_refused t (trades_of figures) ≡ whole done end = ap (λ (l : List Request). until_refused t l) (sym made.1) ∙ done-whole done t end from in
    let is : handle_batch t figures cells ≡ batch_answer (whole done end) =
    ap (λ (o : Option Test). answer o t (batch_answer (until_refused t (trades_of figures)))) passes ∙ ap batch_answer all in (
      and_intro (none-absent _ passes) (none-absent _ (ap (λ (s : Sequence). s.stop) all)),
      λ i. record {
        call = trades figures cells;
        reply = (ap (λ (a : Answer). a.reply) is ∙ sym made.2) i;
        output = (ap (λ (a : Answer). a.output) is ∙ sym made.3) i;
      },
      ap (λ (a : Answer). a.tables) is,
    )
whole-call t end (replay text) n reply output done from made = absurd made
whole-call t end (reportable cells) n reply output done from made = clash refl n

-- ---- the exchange

pub entries-exchanged : (t : Tables) (x y : Entry) → entries_touch y x ≡ false → Does t x → Does (next t x) y →
    (Does t y) × (Does (next t y) x) × (next (next t y) x ≡ next (next t x) y)
unfolding entries_touch
entries-exchanged t x y free ok-x ok-y =
    let neither : (call_touches_all y.call ≡ false) × (call_touches_all x.call ≡ false) = neither-all y.call x.call free in
    let px : InParts t x (next t x) = in_parts t x ok-x in
    let py : InParts (next t x) y (next (next t x) y) = in_parts (next t x) y ok-y in
    let apart : AllApart done_touch py.done px.done =
    calls-apart y.call x.call py.done px.done (made-requests _ _ _ _ py.made) (made-requests _ _ _ _ px.made) free in
    let v : (between : Tables) × (DoneFrom t py.done between) × (DoneFrom between px.done (next (next t x) y)) =
    lists-exchanged DoesOne next_one done_touch done-exchanged py.done px.done t (next t x) (next (next t x) y) apart px.from py.from in
    let wy : (call_accepted t y.call ≡ true) × (entry_of t y.call ≡ y) × (next t y ≡ v.0) = whole-call t v.0 y.call neither.0 y.reply y.output py.done v.1 py.made in
    let wx : (call_accepted v.0 x.call ≡ true) × (entry_of v.0 x.call ≡ x) × (next v.0 x ≡ next (next t x) y) =
    whole-call v.0 (next (next t x) y) x.call neither.1 x.reply x.output px.done v.2 px.made in
    ((wy.0, wy.1), subst (λ (u : Tables). Does u x) (sym wy.2) (wx.0, wx.1), ap (λ (u : Tables). next u x) wy.2 ∙ wx.2)
