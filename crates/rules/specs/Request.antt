-- The five requests of document 01, with the figures and lists that each names, in its order; and a step of a give-up (document 02, K3), which "names process, transaction,
-- both accounts and series"; and a new day (K8).
use Rattle.std.specs.Prelude.{Bool, true, false, List, ℤ}
use Rattle.rules.specs.declared.Step.{Step}

pub data Request : Type 0 where
  trade : (id account series side quantity price : ℤ) → Request
  separate : (id suffix account series : ℤ) (parts : List ℤ) → Request
  transfer : (id suffix from to series : ℤ) → Request
  merge : (id account series : ℤ) (pairs : List ℤ) → Request
  lineage : (id suffix : ℤ) → Request
  give_up : Step → (process id suffix giving taking series : ℤ) → Request
  new_day : (day : ℤ) → Request

-- A step of a give-up; the others are not lent the process table.
unfoldable pub is_step : Request → Bool
is_step (trade id account series side quantity price) = false
is_step (separate id suffix account series parts) = false
is_step (transfer id suffix from to series) = false
is_step (merge id account series pairs) = false
is_step (lineage id suffix) = false
is_step (give_up step process id suffix giving taking series) = true
is_step (new_day day) = false
