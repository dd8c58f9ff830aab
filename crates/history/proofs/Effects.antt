-- Any plan as effects: a question's are none, and so are those of a new day, which changes no row. By the definitions. Assumes nothing.
use mathlib.Core.Path.{◌≡◌, refl, sym}
use mathlib.Core.Bool.{false}
use mathlib.Core.List.{List, []}
use mathlib.Core.Option.{none}
use lib.IntN.{pos}
use Rattle.rules.specs.Rows.{record_key, position_key}
use Rattle.rules.specs.Refusal.{Test}
use Rattle.rules.specs.Request.{Request, trade, separate, transfer, merge, lineage, give_up, new_day}
use Rattle.rules.specs.Books.{Books, View}
use Rattle.rules.specs.Plan.{Plan, booking, question, day_move, Effects, put_process, booked, plan_books}
use Rattle.rules.specs.Trade.{trade_plan}
use Rattle.rules.specs.Separation.{separation_plan}
use Rattle.rules.specs.Transfer.{transfer_plan}
use Rattle.rules.specs.Merge.{merge_plan}
use Rattle.rules.specs.Lineage.{lineage_plan}
use Rattle.rules.specs.GiveUp.{give_up_plan}
use Rattle.rules.specs.Touching.{touches_all}
use Rattle.rules.specs.Handle.{plan_of}
use Rattle.rules.specs.declared.Reply.TheVariants.{Booked}
use Rattle.keys.proofs.Split.{clash}
use Rattle.keys.proofs.Clauses.{upsert_all-nil}

abbrev pub effects_of : Plan → Effects
effects_of (booking tests effects) = effects
effects_of (question tests reply) = record { changed = []; added = []; positions = []; process = none; reply = reply }
effects_of (day_move tests day) = record { changed = []; added = []; positions = []; process = none; reply = Booked (pos 0) (pos 0) }

-- A plan's own tests, from 3 to 12, and 18.
abbrev pub own_tests : Plan → List Test
own_tests (booking tests effects) = tests
own_tests (question tests reply) = tests
own_tests (day_move tests day) = tests

-- A plan that leaves the current day; every plan of a request that does not touch everything is one.
abbrev pub LeavesDay : Plan → Type 0
LeavesDay (booking tests effects) = Unit {0}
LeavesDay (question tests reply) = Unit {0}
LeavesDay (day_move tests day) = ⊥

pub leaves-day : (v : View) (r : Request) → touches_all r ≡ false → LeavesDay (plan_of v r)
unfolding plan_of trade_plan separation_plan transfer_plan merge_plan lineage_plan give_up_plan touches_all
leaves-day v (trade id account series side quantity price) h = tt
leaves-day v (separate id suffix account series parts) h = tt
leaves-day v (transfer id suffix from to series) h = tt
leaves-day v (merge id account series pairs) h = tt
leaves-day v (lineage id suffix) h = tt
leaves-day v (give_up step process id suffix giving taking series) h = tt
leaves-day v (new_day day) h = clash refl h

-- The books after such a plan are those after its effects.
pub books-effects : (p : Plan) → LeavesDay p → (b : Books) → plan_books p b ≡ booked (effects_of p) b
unfolding plan_books put_process booked
books-effects (booking tests effects) l b = refl
books-effects (question tests reply) l b = λ i. record {
  records = sym (upsert_all-nil record_key b.records) i;
  positions = sym (upsert_all-nil position_key b.positions) i;
  processes = b.processes;
  records_room = b.records_room;
  positions_room = b.positions_room;
  processes_room = b.processes_room;
  day = b.day;
}
books-effects (day_move tests day) l b = absurd l
