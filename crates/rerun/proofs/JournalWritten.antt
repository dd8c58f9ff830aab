-- What the writing calls write of an accepted call is its lines in the journal (`lines_of`): it passes test 3, so that only a short buffer is refused, and the bytes past the lines stay. A new day is a request
-- like the others (`request-written`), a step of a give-up is named by its letter (`step-written`). A batch that stopped: StoppedWritten. Of a replay each booked request is accepted by itself.
-- Written one after the other they are the journal of the day (`journal-in-turn`, `accepted-lines`). Assumes nothing.
use Prim.Native.Nat.{ℕ, ◌≤◌, ◌%◌}
use native.Mathlib.Omega.{arith}
use mathlib.Core.Path.{◌≡◌, refl, sym, ◌∙◌, ap, subst}
use mathlib.Core.Bool.{Bool, true, not, ◌&&◌}
use mathlib.Core.List.{List, [], ◌∷◌, ◌++◌, map, flat_map, append-nil}
use mathlib.Core.Option.{Option}
use borrow.Author.Tests.{le-leb, le-ltb}
use lib.Dec.{eqb, leb, ltb}
use lib.IntN.{ℤ, pos}
use lib.ListN.{length}
use Rattle.rules.specs.Refusal.{Test, all_of}
use Rattle.rules.specs.Keyed.{is_some}
use Rattle.rules.specs.Request.{Request, give_up}
use Rattle.rules.specs.Tables.{Tables}
use Rattle.rules.specs.Handle.{handle}
use Rattle.rules.specs.Sequence.{Done}
use Rattle.rules.specs.Batch.{trade_count, trades_of, batch_figures}
use Rattle.rules.specs.Line.{step_letter, line_of, passes_test3}
use Rattle.rules.specs.Reader.{step_of_letter}
use Rattle.rules.specs.Call.{Call, one, trades, handle_call, requests_of}
use Rattle.rules.specs.Writing.{left_in, writing, step_named, or_open, write_request, write_trades, write_give_up}
use Rattle.rules.specs.declared.Step.{Step}
use Rattle.rules.specs.declared.Step.TheVariants.{Open, Claim, Cancel, Refuse, ApproveGiver, ApproveTaker}
use Rattle.keys.proofs.Split.{and_intro, and_left, cond-true}
use Rattle.keys.proofs.Clauses.{all_of-nil, all_of-intro}
use Rattle.history.specs.History.{call_accepted, Entry, entry_of, booked_by, entries_of, accepted_entries}
use Rattle.rerun.specs.Journal.{lines_of, journal_of}
use Rattle.rerun.specs.LinesLeft.{lines_left}
use Rattle.history.proofs.Refusals.{no-refusal, passes-test}
use Rattle.history.proofs.Sequences.{DoneFrom, requests_done}
use Rattle.history.proofs.Parts.{InParts, in_parts}
use Rattle.rerun.proofs.JournalLines.{flat_map-append, accepted-passes-test-3}

pub writing-passes : (valid : Bool) (lines buffer : List ℕ) → valid ≡ true → length lines ≤ length buffer → writing valid lines buffer ≡ lines_left lines buffer
unfolding writing left_in
writing-passes valid lines buffer h fits =
    ap (λ (o : Option Test). left_in buffer lines o) (passes-test 3 (not valid) _ (ap not h) (passes-test 14 (ltb (length buffer) (length lines)) [] (le-ltb _ _ fits) no-refusal))

-- ---- the journal, call by call

-- Each call adds the lines of its entries.
pub journal-in-turn : (t : Tables) (c : Call) (rest : List Call) →
    journal_of (accepted_entries t (c ∷ rest)) ≡ journal_of (entries_of t c) ++ journal_of (accepted_entries (handle_call t c).tables rest)
unfolding journal_of accepted_entries
journal-in-turn t c rest = flat_map-append (λ (e : Entry). lines_of e.call) (entries_of t c) (accepted_entries (handle_call t c).tables rest)

-- Those of a call that is accepted as a whole are its own.
pub accepted-lines : (t : Tables) (c : Call) → call_accepted t c ≡ true → journal_of (entries_of t c) ≡ lines_of c
unfolding journal_of entries_of flat_map
accepted-lines t c ok = ap journal_of (cond-true (entry_of t c ∷ []) (booked_by t c) ok) ∙ append-nil (lines_of c)

-- ---- a request

pub request-written : (t : Tables) (r : Request) → call_accepted t (one r) ≡ true → (buffer : List ℕ) → length (lines_of (one r)) ≤ length buffer →
    write_request r buffer ≡ lines_left (lines_of (one r)) buffer
unfolding call_accepted write_request lines_of requests_of flat_map
request-written t r ok buffer fits =
    let line : line_of r ++ [] ≡ line_of r = append-nil (line_of r) in
    writing-passes (passes_test3 r) (line_of r) buffer (accepted-passes-test-3 t r ok) (subst (λ (l : List ℕ). length l ≤ length buffer) line fits)
    ∙ ap (λ (l : List ℕ). lines_left l buffer) (sym line)

-- ---- a step of a give-up, by its letter

-- The writing call that is handed the number of the step's letter writes what is written of that step, for all figures and any buffer.
pub letter-written : (step : Step) (process id suffix giving taking series : ℤ) (buffer : List ℕ) →
    write_give_up (pos (step_letter step)) process id suffix giving taking series buffer ≡ write_request (give_up step process id suffix giving taking series) buffer
unfolding write_give_up write_request step_named step_of_letter or_open is_some passes_test3
letter-written Open process id suffix giving taking series buffer = refl
letter-written Claim process id suffix giving taking series buffer = refl
letter-written Cancel process id suffix giving taking series buffer = refl
letter-written Refuse process id suffix giving taking series buffer = refl
letter-written ApproveGiver process id suffix giving taking series buffer = refl
letter-written ApproveTaker process id suffix giving taking series buffer = refl

pub step-written : (t : Tables) (step : Step) (process id suffix giving taking series : ℤ) → call_accepted t (one (give_up step process id suffix giving taking series)) ≡ true →
    (buffer : List ℕ) → length (lines_of (one (give_up step process id suffix giving taking series))) ≤ length buffer →
    write_give_up (pos (step_letter step)) process id suffix giving taking series buffer ≡ lines_left (lines_of (one (give_up step process id suffix giving taking series))) buffer
step-written t step process id suffix giving taking series ok buffer fits =
    letter-written step process id suffix giving taking series buffer ∙ request-written t (give_up step process id suffix giving taking series) ok buffer fits

-- ---- a batch

pub each-passes-test-3 : (done : List Done) (t end : Tables) → DoneFrom t done end → all_of (map passes_test3 (requests_done done)) ≡ true
each-passes-test-3 [] t end h = all_of-nil
each-passes-test-3 (d ∷ rest) t end h =
    all_of-intro (passes_test3 d.request) (map passes_test3 (requests_done rest)) (accepted-passes-test-3 t d.request h.0.0)
    (each-passes-test-3 rest (handle t d.request).tables end h.1)

-- No excesses are lent for writing.
figures-alone : (figures : List ℤ) (cells : ℕ) → batch_figures figures cells ≡ true → batch_figures figures (trade_count figures) ≡ true
unfolding batch_figures
figures-alone figures cells h =
    let n : ℕ = trade_count figures in
    and_intro (and_left (eqb (length figures % 6) 0 && leb 1 n && leb n 1000) (leb n cells) h) (le-leb n n (omega arith))

pub trades-written : (t : Tables) (figures : List ℤ) (cells : ℕ) → call_accepted t (trades figures cells) ≡ true → (buffer : List ℕ) →
    length (lines_of (trades figures cells)) ≤ length buffer → write_trades figures buffer ≡ lines_left (lines_of (trades figures cells)) buffer
unfolding write_trades lines_of requests_of
trades-written t figures cells ok buffer fits =
    let c : Call = trades figures cells in
    let parts : InParts t (entry_of t c) (handle_call t c).tables = in_parts t (entry_of t c) (ok, refl) in
    let each : all_of (map passes_test3 (trades_of figures)) ≡ true =
    subst (λ (l : List Request). all_of (map passes_test3 l) ≡ true) parts.made.1 (each-passes-test-3 parts.done t (handle_call t c).tables parts.from) in
    writing-passes (batch_figures figures (trade_count figures) && all_of (map passes_test3 (trades_of figures))) (flat_map line_of (trades_of figures)) buffer
    (and_intro (figures-alone figures cells parts.made.0) each) fits
