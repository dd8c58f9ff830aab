-- The journal of a day (document 02, K5).
use Rattle.std.specs.Prelude.{ℕ, cond}
use mathlib.Core.List.{List, [], ◌∷◌, flat_map}
use Rattle.rules.specs.Call.{Call, requests_of}
use Rattle.rules.specs.Line.{line_of, is_journalled}
use Rattle.rules.specs.Request.{Request}
use Rattle.history.specs.History.{Entry}

-- "Write each accepted request that changes a table as a line of text (a batch as its booked trades)"
unfoldable pub lines_of : Call → List ℕ
lines_of c = flat_map line_of (requests_of c)

unfoldable pub journal_of : List Entry → List ℕ
journal_of entries = flat_map (λ (e : Entry). lines_of e.call) entries

-- The requests that these entries are made of, and those of them that have a line.
unfoldable pub requests_in : List Entry → List Request
requests_in entries = flat_map (λ (e : Entry). requests_of e.call) entries

unfoldable pub journalled : List Request → List Request
journalled [] = []
journalled (r ∷ rest) = cond (is_journalled r) (r ∷ journalled rest) (journalled rest)
