-- The answer to a replay where the records are not sound: an empty text is replayed, a first line that is bad is named as such, and any other is refused 1.
use Rattle.std.specs.Prelude.{ℕ, cond, List, eqb, pos, length}
use Rattle.std.proofs.Math.Option.{Option, none, some}
use Rattle.text.specs.Scan.{Taken}
use Rattle.rules.specs.Request.{Request}
use Rattle.rules.specs.Reader.{take_request}
use Rattle.rules.specs.declared.Reply.{Reply}
use Rattle.rules.specs.declared.Reply.TheVariants.{Replayed, BadLine, LineRefused}

abbrev pub first_line : Option (Taken Request) → Reply
first_line none = BadLine (pos 1)
first_line (some t) = LineRefused (pos 1) (pos 1) (pos 0)

unfoldable pub refused_at_once : List ℕ → Reply
refused_at_once text = cond (eqb (length text) 0) (Replayed (pos 0)) (first_line (take_request text))
