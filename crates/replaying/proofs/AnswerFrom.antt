-- The answer to a replay of which so many lines are booked: from these tables and this text on it is the answer to the whole. One law for each way that the next line goes. Assumes nothing.
use Prim.Native.Nat.{ℕ, suc, ◌+◌, ◌<◌, ◌≤◌}
use native.Mathlib.Omega.{arith}
use mathlib.Core.Path.{◌≡◌, ◌∙◌, ap}
use mathlib.Core.Bool.{Bool}
use mathlib.Core.List.{List}
use mathlib.Core.Option.{Option, none, some}
use lib.IntN.{pos}
use lib.ListN.{length, drop, drop_of_length-le}
use Rattle.text.specs.Scan.{taken}
use Rattle.rules.specs.Refusal.{Test}
use Rattle.rules.specs.Request.{Request}
use Rattle.rules.specs.Tables.{Tables}
use Rattle.rules.specs.Handle.{Answer, answered_by, handle, refusal_of}
use Rattle.rules.specs.Sequence.{Sequence, goes_on, until_refused}
use Rattle.rules.specs.Reader.{Reading, take_request, reading_of}
use Rattle.rules.specs.Replay.{replay_reply, replay_answer, handle_replay}
use Rattle.rules.specs.declared.Reply.TheVariants.{Replayed, BadLine, LineRefused}
use Rattle.lines.proofs.Journals.{reading-end, reading-bad, reading-next}

-- The answer to these requests, and to a text that they are read from, where so many lines were booked before.
abbrev answer_to : ℕ → Sequence → Bool → Answer
answer_to n s whole = answered_by (replay_reply (n + length s.done) s.stop whole) s.tables

abbrev reads : ℕ → Tables → Reading → Answer
reads n t r = answer_to n (until_refused t r.requests) r.whole

unfoldable pub answer_from : ℕ → Tables → List ℕ → Answer
answer_from n t text = reads n t (reading_of text)

-- At the beginning.
pub from_start : (t : Tables) (text : List ℕ) → answer_from 0 t text ≡ handle_replay t text
unfolding answer_from handle_replay replay_answer
from_start t text =
    let s : Sequence = until_refused t (reading_of text).requests in
    let e : 0 + length s.done ≡ length s.done = omega arith in
    ap (λ (k : ℕ). answered_by (replay_reply k s.stop (reading_of text).whole) s.tables) e

-- At the end of the text.
pub at-end : (n : ℕ) (t : Tables) (text : List ℕ) (at : ℕ) → length text ≤ at → answer_from n t (drop at text) ≡ answered_by (Replayed (pos n)) t
unfolding answer_from until_refused replay_reply
at-end n t text at over =
    let e : n + 0 ≡ n = omega arith in
    ap (λ (l : List ℕ). reads n t (reading_of l)) (drop_of_length-le text over)
    ∙ ap (λ (r : Reading). reads n t r) reading-end
    ∙ ap (λ (k : ℕ). answered_by (Replayed (pos k)) t) e

-- A bad line.
pub line-bad : (n : ℕ) (t : Tables) (text : List ℕ) → 0 < length text → take_request text ≡ none → answer_from n t text ≡ answered_by (BadLine (pos (n + 1))) t
unfolding answer_from until_refused replay_reply
line-bad n t text more bad =
    let e : suc (n + 0) ≡ n + 1 = omega arith in
    ap (λ (r : Reading). reads n t r) (reading-bad text more bad) ∙ ap (λ (k : ℕ). answered_by (BadLine (pos k)) t) e

module _ (n : ℕ) (t : Tables) (text rest : List ℕ) (r : Request) (read : take_request text ≡ some (taken r rest)) where
  abbrev later : Sequence
  later = until_refused (handle t r).tables (reading_of rest).requests

  next : answer_from n t text ≡ answer_to n (goes_on t r (refusal_of t r) later) (reading_of rest).whole
  unfolding answer_from until_refused
  next = ap (λ (x : Reading). reads n t x) (reading-next text (taken r rest) read)

  -- A line whose request is refused.
  pub line_refused : (x : Test) → refusal_of t r ≡ some x → answer_from n t text ≡ answered_by (LineRefused (pos (n + 1)) (pos x.number) (pos x.place)) t
  unfolding goes_on replay_reply
  line_refused x refused =
      let e : suc (n + 0) ≡ n + 1 = omega arith in
      next ∙ ap (λ (o : Option Test). answer_to n (goes_on t r o later) (reading_of rest).whole) refused
      ∙ ap (λ (k : ℕ). answered_by (LineRefused (pos k) (pos x.number) (pos x.place)) t) e

  -- A line whose request is booked.
  pub line-booked : refusal_of t r ≡ none → answer_from n t text ≡ answer_from (n + 1) (handle t r).tables rest
  unfolding goes_on answer_from
  line-booked accepted =
      let e : n + suc (length later.done) ≡ n + 1 + length later.done = omega arith in
      next ∙ ap (λ (o : Option Test). answer_to n (goes_on t r o later) (reading_of rest).whole) accepted
      ∙ ap (λ (k : ℕ). answered_by (replay_reply k later.stop (reading_of rest).whole) later.tables) e
