-- Of a batch that stopped after k trades, the writing call that is handed the figures of the first k writes the lines of the entries that stand for it in the list of the accepted ones
-- (`stopped-written`; document 02, K5: "a batch as its booked trades"). Assumes nothing.
use Prim.Native.Nat.{ℕ, zero, suc, ◌+◌, ◌*◌, ◌%◌, ◌≤◌}
use native.Mathlib.Nat.{suc-mul}
use native.Mathlib.Omega.{arith}
use mathlib.Core.Path.{◌≡◌, refl, sym, ◌∙◌, ap, subst}
use mathlib.Core.Bool.{true, false, not, ◌&&◌}
use mathlib.Core.List.{List, [], ◌∷◌, map, flat_map}
use mathlib.Core.Option.{Option, none, some}
use borrow.Author.Tests.{leb-true, le-leb, eq-eqb}
use lib.Dec.{eqb, leb}
use lib.IntN.{ℤ, pos}
use lib.ListN.{length, take, length-take}
use lib.Seq.{get_or-take}
use Rattle.rules.specs.Keyed.{is_some}
use Rattle.rules.specs.Refusal.{Test, all_of}
use Rattle.rules.specs.Reply.{refused_by}
use Rattle.rules.specs.Request.{Request}
use Rattle.rules.specs.Layout.{decode}
use Rattle.rules.specs.Tables.{Tables}
use Rattle.rules.specs.Handle.{answer}
use Rattle.rules.specs.Sequence.{Done, Sequence, until_refused}
use Rattle.rules.specs.Batch.{trade_at, trade_count, trades_of, batch_figures, batch_refusal, batch_reply, batch_answer, handle_batch}
use Rattle.rules.specs.Line.{line_of, passes_test3}
use Rattle.rules.specs.Call.{trades, handle_call}
use Rattle.rules.specs.Writing.{write_trades}
use Rattle.rules.specs.declared.Reply.TheVariants.{Stopped}
use Rattle.keys.proofs.Split.{is_false, clash, and_intro, and_left, and_right, cond-false}
use Rattle.keys.proofs.Clauses.{is_some-none, is_some-some}
use Rattle.cells.proofs.Decode.{length-decode, take-decode}
use Rattle.history.specs.History.{call_accepted, entry_of, as_entry, booked_by, entries_of}
use Rattle.history.proofs.Sequences.{requests_done, done-from}
use Rattle.history.proofs.Parts.{figures-pass}
use Rattle.rerun.specs.Journal.{journal_of}
use Rattle.rerun.specs.LinesLeft.{lines_left, first_trades}
use Rattle.rerun.proofs.PartBooked.{done_first, done-within, lines-of-done}
use Rattle.rerun.proofs.JournalWritten.{writing-passes, each-passes-test-3}

-- ---- the first trades of a list

trade-first : (figures : List ℤ) (most at : ℕ) → at + 6 ≤ most → trade_at (take most figures) at ≡ trade_at figures at
trade-first figures most at h =
    rw (
      get_or-take most figures at (pos 0) (omega arith),
      get_or-take most figures (at + 1) (pos 0) (omega arith),
      get_or-take most figures (at + 2) (pos 0) (omega arith),
      get_or-take most figures (at + 3) (pos 0) (omega arith),
      get_or-take most figures (at + 4) (pos 0) (omega arith),
      get_or-take most figures (at + 5) (pos 0) (omega arith),
    )

trades-first : (n at most : ℕ) (figures : List ℤ) → at + n * 6 ≤ most → decode trade_at 6 n at (take most figures) ≡ decode trade_at 6 n at figures
trades-first zero at most figures h = refl
trades-first (suc n) at most figures h =
    let less : at + 6 + n * 6 ≤ most = omega (arith, suc-mul n 6) in
    rw (trade-first figures most at (omega arith), trades-first n (at + 6) most figures less)

module _ (figures : List ℤ) (k : ℕ) (within : k ≤ trade_count figures) where
  first-length : length (first_trades k figures) ≡ 6 * k
  unfolding first_trades
  first-length = simp length-take (omega arith)

  first_count : trade_count (first_trades k figures) ≡ k
  first_count = let size : length (first_trades k figures) ≡ 6 * k = first-length in omega arith

  trades-of-first : trades_of (first_trades k figures) ≡ take k (trades_of figures)
  unfolding trades_of first_trades
  trades-of-first =
      ap (λ (n : ℕ). decode trade_at 6 n 0 (first_trades k figures)) first_count
      ∙ trades-first k 0 (6 * k) figures (omega arith)
      ∙ sym (take-decode trade_at 6 k (trade_count figures) 0 figures within)

  first-figures : (cells : ℕ) → batch_figures figures cells ≡ true → 1 ≤ k → batch_figures (first_trades k figures) (trade_count (first_trades k figures)) ≡ true
  unfolding batch_figures
  first-figures cells h some-trade =
      let size : length (first_trades k figures) ≡ 6 * k = first-length in
      let count : trade_count (first_trades k figures) ≡ k = first_count in
      let n : ℕ = trade_count figures in
      let most : n ≤ 1000 = leb-true n 1000 (and_right (eqb (length figures % 6) 0 && leb 1 n) (leb n 1000) (and_left (eqb (length figures % 6) 0 && leb 1 n && leb n 1000) (leb n cells) h)) in
      let m : ℕ = trade_count (first_trades k figures) in
      and_intro
      (and_intro (and_intro (eq-eqb (length (first_trades k figures) % 6) 0 (omega arith)) (le-leb 1 m (omega arith))) (le-leb m 1000 (omega arith)))
      (le-leb m m (omega arith))

-- ---- the entries of a stopped batch

module _ (t : Tables) (figures : List ℤ) (cells : ℕ) where
  abbrev s : Sequence
  s = until_refused t (trades_of figures)

  -- What the answer says.
  record Stop (k : ℕ) : Type 0 where
    pub passes : batch_refusal t figures cells ≡ none
    pub stop : Test
    pub stopped : s.stop ≡ some stop
    pub count : length s.done ≡ k

  stop-told : (k : ℕ) (number place : ℤ) → (handle_call t (trades figures cells)).reply ≡ Stopped (pos k) number place → Stop k
  unfolding handle_call handle_batch answer batch_answer batch_reply refused_by
  stop-told k number place h = by-refusal (batch_refusal t figures cells) refl h
    where
      by-stop : (o : Option Test) → s.stop ≡ o → batch_refusal t figures cells ≡ none → batch_reply (length s.done) o ≡ Stopped (pos k) number place → Stop k
      by-stop none e p g = let z : ◌≡◌ {A = ℕ} 0 1 = cc in absurd (omega arith)
      by-stop (some x) e p g = record { passes = p; stop = x; stopped = e; count = cc }

      by-refusal : (o : Option Test) → batch_refusal t figures cells ≡ o → (answer o t (batch_answer s)).reply ≡ Stopped (pos k) number place → Stop k
      by-refusal none e g = by-stop s.stop refl e g
      by-refusal (some x) e g = let z : ◌≡◌ {A = ℕ} 0 1 = cc in absurd (omega arith)

  module _ (k : ℕ) (w : Stop k) where
    not-accepted : call_accepted t (trades figures cells) ≡ false
    unfolding call_accepted
    not-accepted =
        is_false (call_accepted t (trades figures cells))
        (λ ok. clash (and_right (not (is_some (batch_refusal t figures cells))) (not (is_some s.stop)) ok) (ap (λ (o : Option Test). not (is_some o)) w.stopped ∙ ap not (is_some-some w.stop)))

    -- It stands as the trades that it booked.
    stands : entries_of t (trades figures cells) ≡ map as_entry s.done
    unfolding entries_of booked_by
    stands =
        cond-false (entry_of t (trades figures cells) ∷ []) (booked_by t (trades figures cells)) not-accepted
        ∙ cond-false [] (map as_entry s.done) (ap is_some w.passes ∙ is_some-none Test)

    booked-within : k ≤ trade_count figures
    unfolding trades_of
    booked-within =
        omega (arith, w.count, done-within t (trades_of figures), length-decode trade_at 6 (trade_count figures) 0 figures)

    booked-trades : requests_done s.done ≡ trades_of (first_trades k figures)
    booked-trades = done_first t (trades_of figures) ∙ ap (λ (n : ℕ). take n (trades_of figures)) w.count ∙ sym (trades-of-first figures k booked-within)

-- ---- their lines

pub stopped-written : (t : Tables) (figures : List ℤ) (cells k : ℕ) (number place : ℤ) → (handle_call t (trades figures cells)).reply ≡ Stopped (pos k) number place → 1 ≤ k →
    (buffer : List ℕ) → length (journal_of (entries_of t (trades figures cells))) ≤ length buffer →
    write_trades (first_trades k figures) buffer ≡ lines_left (journal_of (entries_of t (trades figures cells))) buffer
unfolding write_trades
stopped-written t figures cells k number place h some-trade buffer fits =
    let w : Stop t figures cells k = stop-told t figures cells k number place h in
    let done : List Done = (s t figures cells).done in
    let these : requests_done done ≡ trades_of (first_trades k figures) = booked-trades t figures cells k w in
    let lines : journal_of (entries_of t (trades figures cells)) ≡ flat_map line_of (trades_of (first_trades k figures)) =
    ap journal_of (stands t figures cells k w) ∙ lines-of-done done ∙ ap (λ (l : List Request). flat_map line_of l) these in
    let each : all_of (map passes_test3 (trades_of (first_trades k figures))) ≡ true =
    subst (λ (l : List Request). all_of (map passes_test3 l) ≡ true) these (each-passes-test-3 done t (s t figures cells).tables (done-from t (trades_of figures))) in
    writing-passes _ (flat_map line_of (trades_of (first_trades k figures))) buffer
    (and_intro (first-figures figures k (booked-within t figures cells k w) cells (figures-pass t figures cells w.passes) some-trade) each)
    (subst (λ (l : List ℕ). length l ≤ length buffer) lines fits)
    ∙ ap (λ (l : List ℕ). lines_left l buffer) (sym lines)
