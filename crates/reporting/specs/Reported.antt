-- Document 02, K8, which records are reported, as a statement about the rows of a table: "By 002 a record of the current day is reported when its status at day end is adjustable, or when it is inverse
-- and its parent was booked on an earlier day. Status 3 counts as adjustable (house)."
use Rattle.std.specs.Prelude.{ℕ, ◌≡◌, List, ℤ, ◌<ℤ◌}
use Rattle.std.proofs.Math.Option.{some}
use Rattle.std.proofs.Math.ListN.{get_elem?}
use Rattle.rules.specs.Figures.{adjustable, inverse, under_give_up}
use Rattle.rules.specs.declared.Record.{Record}

-- It stands in the list, at some place.
pub record Stands {Item : Type 0} (items : List Item) (x : Item) : Type 0 where
  pub place : ℕ
  pub there : get_elem? items place ≡ some x

-- "its parent": the record of its id with its parent suffix; an inverse with suffix 0 is its own.
pub record Parent (records : List Record) (r p : Record) : Type 0 where
  pub stands : Stands records p
  pub same_id : p.id ≡ r.id
  pub by-suffix : p.suffix ≡ r.parent

pub data StatusReported (today : ℤ) (records : List Record) (r : Record) : Type 0 where
  -- "its status at day end is adjustable"
  is-adjustable : r.status ≡ adjustable → StatusReported today records r
  -- "Status 3 counts as adjustable (house)."
  is-under-give-up : r.status ≡ under_give_up → StatusReported today records r
  -- "it is inverse and its parent was booked on an earlier day"
  is-inverse : r.status ≡ inverse → (p : Record) → Parent records r p → p.day <ℤ today → StatusReported today records r

pub record Reportable (today : ℤ) (records : List Record) (r : Record) : Type 0 where
  pub of-today : r.day ≡ today
  pub by-status : StatusReported today records r
