-- A lineage question looks at the records alone and writes nothing, whatever the tables hold. The call of a lineage is lent no other table, and promises the reply of
-- `handle` with empty ones in their place: `lineage-promised` says that this is the answer on any tables, and so the one that demand 3 speaks of. Assumes nothing.
use mathlib.Core.Path.{◌≡◌, refl}
use mathlib.Core.List.{List, []}
use mathlib.Core.Option.{Option, none, some}
use lib.IntN.{ℤ}
use Rattle.rules.specs.Refusal.{Test}
use Rattle.rules.specs.Request.{lineage}
use Rattle.rules.specs.Books.{view_of}
use Rattle.rules.specs.Plan.{plan_tests, plan_reply}
use Rattle.rules.specs.Lineage.{lineage_plan}
use Rattle.rules.specs.Tables.{Tables, all_tables, tables_of, no_processes, books_of}
use Rattle.rules.specs.Handle.{answer, answered_by, handle, plan_of, plan_tables, refusals, soundness_tests}
use Rattle.rules.specs.declared.Reply.{Reply}
use Rattle.history.proofs.Sequences.{writes_nothing}

-- Refused or not, a question leaves the tables, and the reply depends on the refusal and on its own reply alone.
leaves : (t : Tables) (o : Option Test) (reply : Reply) → (answer o t (answered_by reply t)).tables ≡ t
unfolding answer
leaves t none reply = refl
leaves t (some x) reply = refl

replies : (t u : Tables) (o : Option Test) (reply : Reply) →
    (answer o t (answered_by reply t)).reply ≡ (answer o u (answered_by reply u)).reply
unfolding answer
replies t u none reply = refl
replies t u (some x) reply = refl

-- The tables stay as they are.
pub lineage-stays : (t : Tables) (id suffix : ℤ) → (handle t (lineage id suffix)).tables ≡ t
unfolding handle plan_of lineage_plan plan_tables
lineage-stays t id suffix = leaves t _ _

-- The reply is the same whatever the other tables.
pub lineage-apart : (records positions processes positions' processes' : List ℤ) (id suffix : ℤ) →
    (handle (all_tables records positions processes) (lineage id suffix)).reply ≡ (handle (all_tables records positions' processes') (lineage id suffix)).reply
unfolding handle plan_of lineage_plan plan_tables plan_reply plan_tests refusals soundness_tests view_of books_of
lineage-apart records positions processes positions' processes' id suffix = replies (all_tables records positions processes) (all_tables records positions' processes') _ _

-- The whole answer on any tables, by the reply that the call promises.
pub lineage-promised : (t : Tables) (id suffix : ℤ) → handle t (lineage id suffix) ≡ answered_by (handle (tables_of t.records []) (lineage id suffix)).reply t
lineage-promised t id suffix = λ i. record {
  reply = lineage-apart t.records t.positions t.processes [] no_processes id suffix i;
  output = writes_nothing t (lineage id suffix) i;
  tables = lineage-stays t id suffix i;
}
