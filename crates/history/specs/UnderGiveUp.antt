-- What the give-ups of document 02, K3, keep; it follows from its rules and is none of its sentences: "a record has status 3 exactly where a process that is pending or claimed names it,
-- and then just one does".
use Rattle.std.specs.Prelude.{ℕ, ◌+◌, ◌≡◌, Bool, true, false, cond, ◌&&◌, ◌||◌, List, [], ◌∷◌, ℤ}
use Rattle.std.proofs.Math.Option.{Option, none, some}
use Rattle.std.proofs.Math.ListN.{get_elem?}
use Rattle.integers.specs.Order.{eq_z}
use Rattle.rules.specs.Figures.{under_give_up}
use Rattle.rules.specs.Keyed.{Key, same, find}
use Rattle.rules.specs.Rows.{key_of, record_key}
use Rattle.rules.specs.ProcessRows.{pending, claimed}
use Rattle.rules.specs.GiveUp.{is_at}
use Rattle.rules.specs.Books.{Books}
use Rattle.rules.specs.declared.Record.{Record}
use Rattle.rules.specs.declared.ProcessRow.{ProcessRow}

-- "a process that is pending or claimed names it": the record of this key
unfoldable pub is_open_for : Key → ProcessRow → Bool
is_open_for k p = (is_at pending p || is_at claimed p) && same (key_of p.id p.suffix) k

-- How many of these processes do.
unfoldable pub open_for : Key → List ProcessRow → ℕ
open_for k [] = 0
open_for k (p ∷ rest) = cond (is_open_for k p) 1 0 + open_for k rest

-- "a record has status 3": what was found at a key is a record of this status
unfoldable pub is_under_give_up : Option Record → Bool
is_under_give_up none = false
is_under_give_up (some r) = eq_z r.status under_give_up

-- "a record has status 3 exactly where a process that is pending or claimed names it, and then just one does": one at the key of a record of status 3, none at any other key
pub record Matched (b : Books) : Type 0 where
  pub at : (id suffix : ℤ) → open_for (key_of id suffix) b.processes ≡ cond (is_under_give_up (find record_key (key_of id suffix) b.records)) 1 0

-- "just one does": the place of a row that names the record, and no other place has one
pub record JustOne (k : Key) (rows : List ProcessRow) : Type 0 where
  pub place : ℕ
  pub process : ProcessRow
  pub stands : get_elem? rows place ≡ some process
  pub names : is_open_for k process ≡ true
  pub only : (other : ℕ) (p : ProcessRow) → get_elem? rows other ≡ some p → is_open_for k p ≡ true → other ≡ place
