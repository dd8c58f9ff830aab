-- The lines of a text as a person counts them (document 02, K5: "names the first line, from 1, that is bad"): each ends in its newline, and the first is line 1.
use Rattle.std.specs.Prelude.{ℕ, zero, suc, ◌+◌, ◌-◌, ◌<◌, ◌≡◌, true, cond, List, [], ◌∷◌, ◌++◌, eqb, length}
use Rattle.std.proofs.Math.Option.{none}
use Rattle.text.specs.Fields.{newline}
use Rattle.rules.specs.Request.{Request}
use Rattle.rules.specs.Line.{line_of, is_journalled, passes_test3}
use Rattle.rules.specs.Reader.{take_request}

-- How many newlines a text has; so many lines, where the last byte is one.
unfoldable pub newlines : List ℕ → ℕ
newlines [] = 0
newlines (b ∷ rest) = cond (eqb b newline) (suc (newlines rest)) (newlines rest)

-- What stands after the first newline, nothing where there is none; and after so many of them.
unfoldable pub after_newline : List ℕ → List ℕ
after_newline [] = []
after_newline (b ∷ rest) = cond (eqb b newline) rest (after_newline rest)

unfoldable pub after_newlines : ℕ → List ℕ → List ℕ
after_newlines zero text = text
after_newlines (suc n) text = after_newlines n (after_newline text)

-- The text from line n on.
unfoldable pub from_line : ℕ → List ℕ → List ℕ
from_line n text = after_newlines (n - 1) text

-- One line, "ended by a newline", and no other newline in it.
pub record OneLine (line : List ℕ) : Type 0 where
  pub front : List ℕ
  pub ended : line ≡ front ++ (newline ∷ [])
  pub no_other : newlines front ≡ 0

-- Line n of a text is the line written of this request, which a journal has and which passes test 3; line n + 1 follows it.
pub record LineIs (text : List ℕ) (n : ℕ) (r : Request) : Type 0 where
  pub written : from_line n text ≡ line_of r ++ from_line (n + 1) text
  pub passes : passes_test3 r ≡ true
  pub journalled : is_journalled r ≡ true

-- Something stands on line n of a text, and the reader does not accept it.
pub record LineIsBad (text : List ℕ) (n : ℕ) : Type 0 where
  pub there : 0 < length (from_line n text)
  pub not-accepted : take_request (from_line n text) ≡ none
