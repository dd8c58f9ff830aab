-- What the answer of a replay says of the lines of its text (document 02, K5): it "names the first line, from 1, that is bad, or refused with its number; those before stay booked".
use Rattle.std.specs.Prelude.{ℕ, suc, ◌+◌, ◌-◌, ◌≤◌, ◌≡◌, true, List, [], ℤ, pos, negsuc}
use Rattle.rules.specs.Request.{Request}
use Rattle.rules.specs.Tables.{Tables}
use Rattle.rules.specs.Handle.{handle}
use Rattle.rules.specs.declared.Reply.{Reply}
use Rattle.rules.specs.declared.Reply.TheVariants.{Booked, ClosingError, Lineage, Refused, Stopped, Written, Replayed, BadLine, LineRefused, Listed}
use Rattle.lines.specs.LineNumbers.{newlines, from_line, LineIs, LineIsBad}
use Rattle.history.specs.History.{is_accepted}

-- Lines 1 to n of a text are booked, from these tables to those: each is the line of a request that is accepted on the tables that the lines before it left.
pub data LinesBooked (t : Tables) (text : List ℕ) : ℕ → Tables → Type 0 where
  no_line : LinesBooked t text 0 t
  one_more : {n : ℕ} {u : Tables} (r : Request) → LinesBooked t text n u → LineIs text (suc n) r → is_accepted u r ≡ true → LinesBooked t text (suc n) (handle u r).tables

-- Line n is bad, and those before it are booked.
pub record StopsAtBad (t : Tables) (text : List ℕ) (n : ℕ) (end : Tables) : Type 0 where
  pub from-1 : 1 ≤ n
  pub before : LinesBooked t text (n - 1) end
  pub bad : LineIsBad text n

-- Line n is that of a request which, on the tables that the lines before it left, is refused with this number and place.
pub record StopsAtRefused (t : Tables) (text : List ℕ) (n : ℕ) (number place : ℤ) (end : Tables) : Type 0 where
  pub from-1 : 1 ≤ n
  pub before : LinesBooked t text (n - 1) end
  pub request : Request
  pub line : LineIs text n request
  pub refused : (handle end request).reply ≡ Refused number place

-- The text has n lines, the last byte is the newline of the last, and all are booked.
pub record EveryLineBooked (t : Tables) (text : List ℕ) (n : ℕ) (end : Tables) : Type 0 where
  pub lines : newlines text ≡ n
  pub nothing-after : from_line (n + 1) text ≡ []
  pub booked : LinesBooked t text n end

-- By the answer; a replay has no other. `end`: the tables that it leaves.
abbrev pub Tells : (t : Tables) (text : List ℕ) → Reply → (end : Tables) → Type 0
Tells t text (Replayed (pos n)) end = EveryLineBooked t text n end
Tells t text (Replayed (negsuc n)) end = ⊥
Tells t text (BadLine (pos n)) end = StopsAtBad t text n end
Tells t text (BadLine (negsuc n)) end = ⊥
Tells t text (LineRefused (pos n) number place) end = StopsAtRefused t text n number place end
Tells t text (LineRefused (negsuc n) number place) end = ⊥
Tells t text (Booked rows residual) end = ⊥
Tells t text (ClosingError excess) end = ⊥
Tells t text (Lineage price links) end = ⊥
Tells t text (Refused number place) end = ⊥
Tells t text (Stopped booked number place) end = ⊥
Tells t text (Written bytes) end = ⊥
Tells t text (Listed records) end = ⊥
