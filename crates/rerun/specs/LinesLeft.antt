-- What a writing call leaves in its buffer, and which trades of a batch that stopped are handed to it (document 02, K5: "a batch as its booked trades").
use Rattle.std.specs.Prelude.{ℕ, ◌*◌, List, ◌++◌, ℤ, pos, length, take, drop}
use Rattle.rules.specs.Writing.{TextLeft, text_left}
use Rattle.rules.specs.declared.Reply.TheVariants.{Written}

-- "The writing call answers the length written": these lines, from the first byte on, and the bytes past them as they were.
abbrev pub lines_left : (lines buffer : List ℕ) → TextLeft
lines_left lines buffer = text_left (Written (pos (length lines))) (lines ++ drop (length lines) buffer)

-- The figures of the first so many trades of a batch, six of each.
unfoldable pub first_trades : ℕ → List ℤ → List ℤ
first_trades count figures = take (6 * count) figures
