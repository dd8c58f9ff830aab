-- A batch of trades (document 02, K1) neither reads nor changes the process table, for none of its trades does: whatever that table's cells, the answer is the same and they stay. Its call is not lent the table, and
-- promises the answer beside one without rows; `batch-promised` says that this is the answer beside any, and so the one that demand 3 speaks of. By induction over the requests handed in one after the other
-- (`in-turn-apart`, of any requests that are no steps of a give-up). Assumes nothing.
use Prim.Native.Nat.{ℕ, zero, suc, ◌+◌}
use mathlib.Core.Path.{◌≡◌, refl, ◌∙◌, ap}
use mathlib.Core.Bool.{false}
use mathlib.Core.List.{List, [], ◌∷◌}
use mathlib.Core.Option.{Option, none, some}
use lib.IntN.{ℤ}
use Rattle.rules.specs.Refusal.{Test}
use Rattle.rules.specs.Request.{Request, is_step}
use Rattle.rules.specs.Layout.{decode}
use Rattle.rules.specs.Tables.{Tables, tables_of, with_processes}
use Rattle.rules.specs.Handle.{Answer, handle, refusal_of}
use Rattle.rules.specs.Sequence.{Sequence, goes_on, until_refused}
use Rattle.rules.specs.Batch.{trade_at, trade_count, trades_of, batch_tests, batch_refusal, batch_answer, handle_batch}
use Rattle.history.specs.Beside.{with_answer}
use Rattle.history.proofs.ProcessesApart.{answer-apart, refusal-apart, processes-apart}

-- None of these requests is a step of a give-up.
abbrev pub NoSteps : List Request → Type 0
NoSteps [] = Unit {0}
NoSteps (r ∷ rest) = (is_step r ≡ false) × (NoSteps rest)

-- What they did, beside another process table.
abbrev pub beside_processes : (processes : List ℤ) → Sequence → Sequence
beside_processes processes s = record { done = s.done; stop = s.stop; tables = with_processes processes s.tables }

module _ (processes : List ℤ) where
  goes-on-apart : (t : Tables) (r : Request) → is_step r ≡ false → (o : Option Test) (later : Sequence)
      → goes_on (with_processes processes t) r o (beside_processes processes later) ≡ beside_processes processes (goes_on t r o later)
  unfolding goes_on
  goes-on-apart t r n none later =
      ap (λ (a : Answer). record { done = record { request = r; reply = a.reply } ∷ later.done; stop = later.stop; tables = with_processes processes later.tables })
      (processes-apart processes t r n)
  goes-on-apart t r n (some x) later = refl

  pub in-turn-apart : (requests : List Request) (t : Tables) → NoSteps requests
      → until_refused (with_processes processes t) requests ≡ beside_processes processes (until_refused t requests)
  unfolding until_refused
  in-turn-apart [] t n = refl
  in-turn-apart (r ∷ rest) t n =
      let other : Tables = with_processes processes t in
      ap (λ (o : Option Test). goes_on other r o (until_refused (handle other r).tables rest)) (refusal-apart processes t r n.0)
      ∙ ap (λ (a : Answer). goes_on other r (refusal_of t r) (until_refused a.tables rest)) (processes-apart processes t r n.0)
      ∙ ap (λ (s : Sequence). goes_on other r (refusal_of t r) s) (in-turn-apart rest (handle t r).tables n.1)
      ∙ goes-on-apart t r n.0 (refusal_of t r) (until_refused (handle t r).tables rest)

-- ---- a batch

trades-no-steps : (n at : ℕ) (figures : List ℤ) → NoSteps (decode trade_at 6 n at figures)
unfolding is_step
trades-no-steps zero at figures = tt
trades-no-steps (suc n) at figures = (refl, trades-no-steps n (at + 6) figures)

-- Beside another process table: the same answer, and every cell of that table stays.
pub batch-apart : (processes : List ℤ) (t : Tables) (figures : List ℤ) (cells : ℕ) → handle_batch (with_processes processes t) figures cells ≡ with_answer processes (handle_batch t figures cells)
unfolding handle_batch batch_tests batch_answer trades_of
batch-apart processes t figures cells =
    answer-apart processes t (batch_refusal t figures cells) (batch_answer (until_refused (with_processes processes t) (trades_of figures))) (batch_answer (until_refused t (trades_of figures)))
    (ap batch_answer (in-turn-apart processes (trades_of figures) t (trades-no-steps (trade_count figures) 0 figures)))

-- On any tables, by the answer that the call promises: that beside a process table without rows.
pub batch-promised : (t : Tables) (figures : List ℤ) (cells : ℕ)
    → handle_batch t figures cells ≡ with_answer t.processes (handle_batch (tables_of t.records t.positions) figures cells)
batch-promised t figures cells = batch-apart t.processes (tables_of t.records t.positions) figures cells
