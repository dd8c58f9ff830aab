-- What reading a request from a place of a text on promises: the request that is taken off the text there, its figures at the front of the lent cells.
use Rattle.std.specs.Prelude.{ℕ, ◌≤◌, ◌≡◌, true, List, ℤ, length, take, drop}
use Rattle.std.specs.Prelude.{Option as Answer, Some, None}
use Rattle.std.proofs.Math.Option.{Option, none, some}
use Rattle.text.specs.Scan.{Taken, taken}
use Rattle.rules.specs.Request.{Request}
use Rattle.rules.specs.Reader.{request_named, is_valid_line, take_request}
use Rattle.reader.specs.declared.LineRead.{LineRead}

abbrev pub request_as : List ℕ → List ℤ → Answer LineRead → Option (Taken Request)
request_as text figures (Some l) = some (taken (request_named l.heading (take l.count figures)) (drop l.next text))
request_as text figures None = none

-- The line that was read is valid, and lies within what was lent.
abbrev pub ValidWithin : List ℕ → List ℤ → Answer LineRead → Type 0
ValidWithin text figures (Some l) = (is_valid_line l.heading (take l.count figures) ≡ true) × (l.count ≤ length figures) × (l.next ≤ length text)
ValidWithin text figures None = Unit {0}

pub record RequestReadAs (text : List ℕ) (at : ℕ) (figures : List ℤ) (r : Answer LineRead) : Type 0 where
  pub request : request_as text figures r ≡ take_request (drop at text)
  pub within : ValidWithin text figures r
  pub cells : length figures ≡ 2003
