-- What the lookup says of a key (document 02, K2). Present: its row, the greatest suffix of its id, and the row where the id's next suffix belongs. Absent: the row where the key belongs, and the greatest
-- suffix of its id or that it has none.
use Rattle.std.specs.Prelude.{ℕ, ℤ, Result, Ok, Err}
use Rattle.lookup.specs.Greatest.{Greatest, greatest_told}
use Rattle.lookup.specs.declared.Present as There
use Rattle.lookup.specs.declared.Absent as Lacking

pub data Sought : Type 0 where
  Present : (row : ℕ) (greatest : ℤ) (next : ℕ) → Sought
  Absent : (place : ℕ) (greatest : Greatest) → Sought

abbrev pub sought_told : Result There.Present Lacking.Absent → Sought
sought_told (Ok p) = Present p.row p.greatest p.next
sought_told (Err a) = Absent a.place (greatest_told a.greatest)
