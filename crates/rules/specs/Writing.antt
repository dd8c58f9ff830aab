-- Document 02, K5: "The writing call answers the length written; a request failing test 3 is refused 3, then a short buffer 14." It reads and changes no table.
use Rattle.std.specs.Prelude.{ℕ, Bool, not, ◌&&◌, ltb, ℤ, pos, negsuc, length, drop}
use mathlib.Core.List.{List, [], ◌∷◌, ◌++◌, map, flat_map}
use Rattle.std.proofs.Math.Option.{Option, none, some}
use Rattle.rules.specs.Keyed.{is_some}
use Rattle.rules.specs.Refusal.{Test, test, all_of, first_refusal}
use Rattle.rules.specs.Reply.{refused_by}
use Rattle.rules.specs.Request.{Request, give_up}
use Rattle.rules.specs.GiveUp.{give_up_figures}
use Rattle.rules.specs.Batch.{trade_count, trades_of, batch_figures}
use Rattle.rules.specs.Line.{line_of, passes_test3}
use Rattle.rules.specs.Reader.{step_of_letter}
use Rattle.rules.specs.declared.Step.{Step}
use Rattle.rules.specs.declared.Step.TheVariants.{Open}
use Rattle.rules.specs.declared.Reply.{Reply}
use Rattle.rules.specs.declared.Reply.TheVariants.{Written}

-- The reply, and every byte of the lent buffer.
pub record TextLeft : Type 0 where
  pub reply : Reply
  pub text : List ℕ

abbrev pub text_left : Reply → List ℕ → TextLeft
text_left reply text = record { reply = reply; text = text }

-- A refusal leaves the buffer; otherwise the bytes past what is written stay.
unfoldable pub left_in : List ℕ → List ℕ → Option Test → TextLeft
left_in buffer lines none = text_left (Written (pos (length lines))) (lines ++ drop (length lines) buffer)
left_in buffer lines (some refusal) = text_left (refused_by refusal) buffer

unfoldable pub writing : (valid : Bool) → (lines buffer : List ℕ) → TextLeft
writing valid lines buffer = left_in buffer lines (first_refusal (test 3 (not valid) ∷ test 14 (ltb (length buffer) (length lines)) ∷ []))

unfoldable pub write_request : Request → List ℕ → TextLeft
write_request r buffer = writing (passes_test3 r) (line_of r) buffer

-- "a batch as its booked trades": a line for each; 1 to 1,000 trades of six figures, each of which passes test 3
unfoldable pub write_trades : List ℤ → List ℕ → TextLeft
write_trades figures buffer =
    writing (batch_figures figures (trade_count figures) && all_of (map passes_test3 (trades_of figures))) (flat_map line_of (trades_of figures)) buffer

-- A step by the number of its letter; another number is a figure out of range.
unfoldable pub step_named : ℤ → Option Step
step_named (pos b) = step_of_letter b
step_named (negsuc b) = none

unfoldable pub or_open : Option Step → Step
or_open none = Open
or_open (some step) = step

unfoldable pub write_give_up : (step process id suffix giving taking series : ℤ) → List ℕ → TextLeft
write_give_up step process id suffix giving taking series buffer =
    writing (is_some (step_named step) && give_up_figures process id suffix giving taking series)
    (line_of (give_up (or_open (step_named step)) process id suffix giving taking series)) buffer
