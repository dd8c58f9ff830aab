-- Requests handed in one after the other to the same `handle`, up to the first that is refused. What is made of other requests is defined by it.
use Rattle.std.specs.Prelude.{List, [], ◌∷◌}
use Rattle.std.proofs.Math.Option.{Option, none, some}
use Rattle.rules.specs.Refusal.{Test}
use Rattle.rules.specs.Request.{Request}
use Rattle.rules.specs.Tables.{Tables}
use Rattle.rules.specs.Handle.{refusal_of, handle}
use Rattle.rules.specs.declared.Reply.{Reply}

-- An accepted request with its reply.
pub record Done : Type 0 where
  pub request : Request
  pub reply : Reply

-- The requests that came before the first refusal, that refusal where there is one, and the tables that they leave.
pub record Sequence : Type 0 where
  pub done : List Done
  pub stop : Option Test
  pub tables : Tables

-- "it stops at the first refusal, keeps what came before"
unfoldable pub goes_on : Tables → Request → Option Test → Sequence → Sequence
goes_on t r none later = record { done = record { request = r; reply = (handle t r).reply } ∷ later.done; stop = later.stop; tables = later.tables }
goes_on t r (some refusal) later = record { done = []; stop = some refusal; tables = t }

unfoldable pub until_refused : Tables → List Request → Sequence
until_refused t [] = record { done = []; stop = none; tables = t }
until_refused t (r ∷ rest) = goes_on t r (refusal_of t r) (until_refused (handle t r).tables rest)
