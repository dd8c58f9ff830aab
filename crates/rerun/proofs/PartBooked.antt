-- What was done of a list of requests up to a refusal is the first of them, and stands in the journal as their lines. So the lines that a replay booked are the first of its text, as they stand there
-- (`replayed-lines`). Assumes nothing.
use Prim.Native.Nat.{ℕ, ◌+◌, ◌≤◌}
use mathlib.Core.Path.{◌≡◌, refl, sym, ◌∙◌, ap}
use mathlib.Core.List.{List, [], ◌∷◌, ◌++◌, map, flat_map, append-nil}
use mathlib.Core.Option.{Option, none, some}
use native.Mathlib.Omega.{arith}
use lib.ListN.{length, take, length-take, length-map}
use Rattle.rules.specs.Refusal.{Test}
use Rattle.rules.specs.Request.{Request}
use Rattle.rules.specs.Tables.{Tables}
use Rattle.rules.specs.Handle.{refusal_of, handle}
use Rattle.rules.specs.Sequence.{Done, Sequence, goes_on, until_refused}
use Rattle.rules.specs.Line.{line_of}
use Rattle.rules.specs.Reader.{reading_of}
use Rattle.rules.specs.Call.{replay, requests_of}
use Rattle.lines.specs.LineNumbers.{from_line}
use Rattle.lines.proofs.LineNumbers.{first-lines}
use Rattle.history.specs.History.{call_accepted, as_entry, booked_by, entries_of}
use Rattle.history.proofs.Sequences.{requests_done}
use Rattle.rerun.specs.Journal.{lines_of, journal_of}

pub done_first : (t : Tables) (requests : List Request) → requests_done (until_refused t requests).done ≡ take (length (until_refused t requests).done) requests
unfolding until_refused goes_on
done_first t [] = refl
done_first t (r ∷ rest) = go (refusal_of t r) (done_first (handle t r).tables rest)
  where
    later : Sequence
    later = until_refused (handle t r).tables rest

    go : (o : Option Test) → requests_done later.done ≡ take (length later.done) rest → requests_done (goes_on t r o later).done ≡ take (length (goes_on t r o later).done) (r ∷ rest)
    go none again = ap (λ (l : List Request). r ∷ l) again
    go (some x) again = refl

pub done-within : (t : Tables) (requests : List Request) → length (until_refused t requests).done ≤ length requests
done-within t requests =
    let done : List Done = (until_refused t requests).done in
    let those : length done ≡ length (take (length done) requests) = sym (length-map done (λ (d : Done). d.request)) ∙ ap (λ (l : List Request). length l) (done_first t requests) in
    omega (arith, length-take (length done) requests)

pub lines-of-done : (done : List Done) → journal_of (map as_entry done) ≡ flat_map line_of (requests_done done)
unfolding journal_of lines_of requests_of flat_map
lines-of-done [] = refl
lines-of-done (d ∷ rest) =
    ap (λ (l : List ℕ). l ++ journal_of (map as_entry rest)) (append-nil (line_of d.request)) ∙ ap (λ (l : List ℕ). line_of d.request ++ l) (lines-of-done rest)

-- The lines that a replay booked, and what follows them in its text.
pub replayed-lines : (t : Tables) (text : List ℕ) → text ≡ journal_of (entries_of t (replay text)) ++ from_line (length (entries_of t (replay text)) + 1) text
unfolding entries_of call_accepted booked_by
replayed-lines t text =
    let requests : List Request = (reading_of text).requests in
    let done : List Done = (until_refused t requests).done in
    let lines : flat_map line_of (take (length done) requests) ≡ journal_of (map as_entry done) = ap (λ (l : List Request). flat_map line_of l) (sym (done_first t requests)) ∙ sym (lines-of-done done) in
    first-lines text (length done) (done-within t requests)
    ∙ ap (λ (l : List ℕ). l ++ from_line (length done + 1) text) lines
    ∙ ap (λ (n : ℕ). journal_of (map as_entry done) ++ from_line (n + 1) text) (sym (length-map done as_entry))
