-- What the reading functions answer, as what was taken off the text: the place after it stands for the rest.
use Rattle.std.specs.Prelude.{ℕ, ◌≤◌, ◌≡◌, List, ℤ, length, take, drop}
use Rattle.std.specs.Prelude.{Option as Answer, Some, None}
use Rattle.std.proofs.Math.Option.{Option, none, some}
use Rattle.text.specs.Scan.{Taken, taken}
use Rattle.rules.specs.Reader.{Line, take_line}
use Rattle.reader.specs.declared.Taken.{Taken as TakenTo}
use Rattle.reader.specs.declared.LineRead.{LineRead}

abbrev pub digits_as : List ℕ → TakenTo ℕ → Taken ℕ
digits_as text d = taken d.value (drop d.next text)

-- A number without a sign, a number, or a heading; or none stands there.
abbrev pub taken_as : {A : Type 0} → List ℕ → Answer (TakenTo A) → Option (Taken A)
taken_as text (Some t) = some (taken t.value (drop t.next text))
taken_as text None = none

-- The figures that were read lie at the front of the lent cells.
abbrev pub fields_as : List ℕ → List ℤ → TakenTo ℕ → Taken (List ℤ)
fields_as text figures f = taken (take f.value figures) (drop f.next text)

abbrev pub line_as : List ℕ → List ℤ → Answer LineRead → Option (Taken Line)
line_as text figures (Some l) = some (taken (record { heading = l.heading; figures = take l.count figures }) (drop l.next text))
line_as text figures None = none

-- How many figures a line was found to have, and the place after it, lie within what was lent.
abbrev pub Within : List ℕ → List ℤ → Answer LineRead → Type 0
Within text figures (Some l) = (l.count ≤ length figures) × (l.next ≤ length text)
Within text figures None = Unit {0}

-- What reading a line from a place on promises: the line that is taken off the text there, its figures at the front of the lent cells.
pub record LineReadAs (text : List ℕ) (at : ℕ) (figures : List ℤ) (r : Answer LineRead) : Type 0 where
  pub line : line_as text figures r ≡ take_line (drop at text)
  pub within : Within text figures r
  pub cells : length figures ≡ 2003
