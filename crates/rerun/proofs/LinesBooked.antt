-- What a replay answers, told by the lines of its text as a person counts them: the line that it names is the first that is bad or refused, those before it are booked, and where it names none every line
-- is booked (`replay-tells`; by the answer `bad-line-told`, `refused-line-told`, `replayed-told`). For any tables and any text.
--
-- Request by request: the lines booked so far, and that each request that is left is that of its line (lines/proofs/LineNumbers). Assumes nothing.
use Prim.Native.Nat.{ℕ, suc, ◌+◌}
use mathlib.Core.Path.{◌≡◌, refl, subst}
use mathlib.Core.Bool.{Bool, true, false}
use mathlib.Core.List.{List, [], ◌∷◌}
use mathlib.Core.Option.{Option, none, some}
use native.Mathlib.Omega.{arith}
use lib.IntN.{ℤ, pos}
use lib.ListN.{length, get_elem?}
use Rattle.rules.specs.Refusal.{Test}
use Rattle.rules.specs.Request.{Request}
use Rattle.rules.specs.Reply.{refused_by}
use Rattle.rules.specs.Tables.{Tables}
use Rattle.rules.specs.Handle.{refusal_of, handle}
use Rattle.rules.specs.Sequence.{Sequence, goes_on, until_refused}
use Rattle.rules.specs.Reader.{reading_of}
use Rattle.rules.specs.Replay.{replay_reply, replay_answer, handle_replay}
use Rattle.rules.specs.Call.{replay, handle_call}
use Rattle.rules.specs.declared.Reply.{Reply}
use Rattle.rules.specs.declared.Reply.TheVariants.{Replayed, BadLine, LineRefused}
use Rattle.lines.specs.LineNumbers.{newlines, from_line, LineIs, LineIsBad}
use Rattle.lines.proofs.LineNumbers.{line-is, line-bad, last_line, whole-counted}
use Rattle.history.proofs.Accepted.{none-accepted, refused-reply}
use Rattle.rerun.specs.LinesBooked.{LinesBooked, no_line, one_more, StopsAtBad, StopsAtRefused, EveryLineBooked, Tells}

module _ (t : Tables) (text : List ℕ) where
  -- Each of these requests is that of its line, the first that of line n + 1.
  abbrev TheirLines : ℕ → List Request → Type 0
  TheirLines n requests = (j : ℕ) (r : Request) → get_elem? requests j ≡ some r → LineIs text (suc (n + j)) r

  -- After the last request the text is at its end, or the line is bad.
  abbrev AfterAll : ℕ → Bool → Type 0
  AfterAll n true = (newlines text ≡ n) × (from_line (n + 1) text ≡ [])
  AfterAll n false = LineIsBad text (n + 1)

  as_many : (n m : ℕ) (end : Tables) → n ≡ m → LinesBooked t text n end → LinesBooked t text m end
  as_many n m end e booked = subst (λ (k : ℕ). LinesBooked t text k end) e booked

  at-line : (n m : ℕ) (r : Request) → n ≡ m → LineIs text n r → LineIs text m r
  at-line n m r e line = subst (λ (k : ℕ). LineIs text k r) e line

  at_last : (n : ℕ) (end : Tables) (whole : Bool) → LinesBooked t text n end → AfterAll n whole → Tells t text (replay_reply n none whole) end
  unfolding replay_reply
  at_last n end true booked after = record { lines = after.0; nothing-after = after.1; booked = booked }
  at_last n end false booked after = record { from-1 = omega arith; before = as_many n _ end (omega arith) booked; bad = subst (LineIsBad text) (omega arith) after }

  at-refused : (n : ℕ) (end : Tables) (whole : Bool) (r : Request) (x : Test) → LinesBooked t text n end → LineIs text (suc n) r → refusal_of end r ≡ some x →
      Tells t text (replay_reply n (some x) whole) end
  unfolding replay_reply refused_by
  at-refused n end whole r x booked line refused =
      record { from-1 = omega arith; before = as_many n _ end (omega arith) booked; request = r; line = line; refused = refused-reply end r x refused }

  -- With n lines booked and these requests left.
  from-here : (requests : List Request) (n : ℕ) (u : Tables) (whole : Bool) → LinesBooked t text n u → TheirLines n requests → AfterAll (n + length requests) whole →
      Tells t text (replay_reply (n + length (until_refused u requests).done) (until_refused u requests).stop whole) (until_refused u requests).tables
  unfolding until_refused goes_on
  from-here [] n u whole booked lines after =
      let all : n + 0 ≡ n = omega arith in
      rw all (at_last n u whole booked (subst (λ (k : ℕ). AfterAll k whole) all after))
  from-here (r ∷ rest) n u whole booked lines after = go (refusal_of u r) refl (lines 0 r refl) (from-here rest (suc n) (handle u r).tables whole)
    where
      later : Sequence
      later = until_refused (handle u r).tables rest

      go : (o : Option Test) → refusal_of u r ≡ o → LineIs text (suc (n + 0)) r →
          (LinesBooked t text (suc n) (handle u r).tables → TheirLines (suc n) rest → AfterAll (suc n + length rest) whole →
          Tells t text (replay_reply (suc n + length later.done) later.stop whole) later.tables) →
          Tells t text (replay_reply (n + length (goes_on u r o later).done) (goes_on u r o later).stop whole) (goes_on u r o later).tables
      go none e line onward =
          let more : n + suc (length rest) ≡ suc n + length rest = omega arith in
          let done : n + suc (length later.done) ≡ suc n + length later.done = omega arith in
          rw done
          (onward (one_more r booked (at-line (suc (n + 0)) _ r (omega arith) line) (none-accepted u r e))
          (λ j s h. at-line (suc (n + suc j)) _ s (omega arith) (lines (suc j) s h))
          (subst (λ (k : ℕ). AfterAll k whole) more after))
      go (some x) e line onward = let all : n + 0 ≡ n = omega arith in rw all (at-refused n u whole r x booked (at-line (suc (n + 0)) _ r (omega arith) line) e)

  after-all : (whole : Bool) → (reading_of text).whole ≡ whole → AfterAll (0 + length (reading_of text).requests) whole
  after-all true h =
      let all : 0 + length (reading_of text).requests ≡ length (reading_of text).requests = omega arith in
      rw all (whole-counted text h, last_line text h)
  after-all false h = let all : 0 + length (reading_of text).requests ≡ length (reading_of text).requests = omega arith in rw all (line-bad text h)

  -- The theorem.
  pub replay-tells : Tells t text (handle_call t (replay text)).reply (handle_call t (replay text)).tables
  unfolding handle_call handle_replay replay_answer
  replay-tells =
      let s : Sequence = until_refused t (reading_of text).requests in
      let all : 0 + length s.done ≡ length s.done = omega arith in
      subst (λ (k : ℕ). Tells t text (replay_reply k s.stop (reading_of text).whole) s.tables) all
      (from-here (reading_of text).requests 0 t (reading_of text).whole no_line
      (λ j r h. at-line (j + 1) _ r (omega arith) (line-is text j r h))
      (after-all (reading_of text).whole refl))

  pub bad-line-told : (n : ℕ) → (handle_call t (replay text)).reply ≡ BadLine (pos n) → StopsAtBad t text n (handle_call t (replay text)).tables
  bad-line-told n e = subst (λ (reply : Reply). Tells t text reply (handle_call t (replay text)).tables) e replay-tells

  pub refused-line-told : (n : ℕ) (number place : ℤ) → (handle_call t (replay text)).reply ≡ LineRefused (pos n) number place →
      StopsAtRefused t text n number place (handle_call t (replay text)).tables
  refused-line-told n number place e = subst (λ (reply : Reply). Tells t text reply (handle_call t (replay text)).tables) e replay-tells

  pub replayed-told : (n : ℕ) → (handle_call t (replay text)).reply ≡ Replayed (pos n) → EveryLineBooked t text n (handle_call t (replay text)).tables
  replayed-told n e = subst (λ (reply : Reply). Tells t text reply (handle_call t (replay text)).tables) e replay-tells
