-- The theorem is not hollow: a history of three days, of every kind, of batches, replays and reporting lists, with refused requests, a batch that stops and lines that are refused or bad among them, has
-- the accepted entries stated, another order of them is a reordering, and it goes through with the same answers to the same cells. And a pair that touches does not: exchanged, it answers otherwise. By computation. Assumes nothing.
use mathlib.Core.Path.{◌≡◌, refl, sym, subst}
use mathlib.Core.Bool.{true}
use mathlib.Core.List.{List, [], ◌∷◌}
use lib.IntN.{pos}
use Rattle.rules.specs.Rows.{key_of}
use Rattle.rules.specs.Tables.{books_of}
use Rattle.rules.specs.Touching.{touch}
use Rattle.rules.specs.Call.{one}
use Rattle.rules.specs.Run.{run}
use Rattle.rules.specs.declared.Reply.TheVariants.{Booked, ClosingError, BadLine, LineRefused}
use Rattle.rules.proofs.Computed.{Computed}
use Rattle.history.specs.History.{Entry, is_accepted, call_accepted, booked_by, entries_of, accepted_entries, entries_touch, calls_of, Reordering, AcceptedAgain}
use Rattle.history.specs.ByPlaces.{each_two, may_stand, is_order}
use Rattle.history.specs.UnderGiveUp.{is_open_for, open_for}
use Rattle.history.specs.Sample.{start, up_to_refused, up_to_bad, history, accepted, places, past, another, finish, under_way, ended, buy, sell}
use Rattle.history.proofs.Demand3.{demand-3}
use Rattle.history.proofs.ByPlaces.{by-places}

-- To compute with the definitions of demand 3 too.
unfoldable ComputedHistory : Type 0
unfolding Computed is_accepted call_accepted booked_by entries_of accepted_entries entries_touch each_two may_stand is_order is_open_for open_for
ComputedHistory = Unit {0}

pub sample-accepted : accepted_entries start history ≡ accepted
unfolding ComputedHistory
sample-accepted = refl

pub sample-order : Reordering entries_touch accepted another
unfolding ComputedHistory
sample-order = by-places entries_touch past accepted places refl

pub sample-answers : accepted_entries start (calls_of another) ≡ another
unfolding ComputedHistory
sample-answers = refl

pub sample-cells : (run start history).tables ≡ finish
unfolding ComputedHistory
sample-cells = refl

pub sample-cells-again : (run start (calls_of another)).tables ≡ finish
unfolding ComputedHistory
sample-cells-again = refl

-- The theorem says it of this order without computing.
pub sample-by-demand-3 : AcceptedAgain start another (run start history).tables
sample-by-demand-3 = demand-3 start history another (subst (λ (l : List Entry). Reordering entries_touch l another) (sym sample-accepted) sample-order)

-- The fourth line is refused 4; in the other text the second is bad.
pub replays-named : (run start (up_to_refused ∷ up_to_bad ∷ [])).replies ≡ LineRefused (pos 4) (pos 4) (pos 0) ∷ BadLine (pos 2) ∷ []
unfolding ComputedHistory
replays-named = refl

-- The two touch, and exchanged the sell finds nothing to close.
pub pair-touches : touch buy sell ≡ true
unfolding ComputedHistory
pair-touches = refl

pub pair-in-order : (run start (one buy ∷ one sell ∷ [])).replies ≡ Booked (pos 1) (pos 0) ∷ Booked (pos 1) (pos 0) ∷ []
unfolding ComputedHistory
pair-in-order = refl

pub pair-exchanged : (run start (one sell ∷ one buy ∷ [])).replies ≡ ClosingError (pos 60) ∷ Booked (pos 1) (pos 0) ∷ []
unfolding ComputedHistory
pair-exchanged = refl

-- One process is open for trade 2 while its give-up is under way, and none once it has ended.
pub open-while-under-way : open_for (key_of (pos 2) (pos 0)) (books_of (run start under_way).tables).processes ≡ 1
unfolding ComputedHistory
open-while-under-way = refl

pub none-open-at-the-end : open_for (key_of (pos 2) (pos 0)) (books_of (run start ended).tables).processes ≡ 0
unfolding ComputedHistory
none-open-at-the-end = refl
