-- Document 02, K5: a replay hands in the requests of a text, line by line, up to the first line that is bad or refused; "those before stay booked".
use Rattle.std.specs.Prelude.{ℕ, suc, Bool, true, false, List, pos, length}
use Rattle.std.proofs.Math.Option.{Option, none, some}
use Rattle.rules.specs.Refusal.{Test}
use Rattle.rules.specs.Tables.{Tables}
use Rattle.rules.specs.Handle.{Answer, answered_by}
use Rattle.rules.specs.Sequence.{Sequence, until_refused}
use Rattle.rules.specs.Reader.{reading_of}
use Rattle.rules.specs.declared.Reply.{Reply}
use Rattle.rules.specs.declared.Reply.TheVariants.{Replayed, BadLine, LineRefused}

-- It "names the first line, from 1, that is bad, or refused with its number": so many lines are booked, then one is refused, or all lines are, or the next is bad.
unfoldable pub replay_reply : ℕ → Option Test → (whole : Bool) → Reply
replay_reply booked (some refusal) whole = LineRefused (pos (suc booked)) (pos refusal.number) (pos refusal.place)
replay_reply booked none true = Replayed (pos booked)
replay_reply booked none false = BadLine (pos (suc booked))

unfoldable pub replay_answer : Sequence → Bool → Answer
replay_answer s whole = answered_by (replay_reply (length s.done) s.stop whole) s.tables

unfoldable pub handle_replay : Tables → List ℕ → Answer
handle_replay t text = replay_answer (until_refused t (reading_of text).requests) (reading_of text).whole
