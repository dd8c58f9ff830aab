-- Requests handed in up to the first refusal (`until_refused`): what was done is a replay from the first tables to the last; without a stop it is the whole list; and a replay
-- handed in so is done whole. Assumes nothing.
use mathlib.Core.Path.{◌≡◌, refl, ◌∙◌, ap}
use mathlib.Core.Bool.{true, false}
use mathlib.Core.List.{List, [], ◌∷◌, map}
use mathlib.Core.Option.{Option, none, some}
use Rattle.rules.specs.Refusal.{Test}
use Rattle.rules.specs.Request.{Request}
use Rattle.rules.specs.Tables.{Tables}
use Rattle.rules.specs.Touching.{touch}
use Rattle.rules.specs.Handle.{refusal_of, answer, answered_by, handle}
use Rattle.rules.specs.Sequence.{Done, Sequence, goes_on, until_refused}
use Rattle.rules.specs.declared.Reply.{Reply}
use Rattle.keys.proofs.Split.{none-some}
use Rattle.history.specs.History.{is_accepted}
use Rattle.history.proofs.Accepted.{accepted-none, none-accepted}
use Rattle.history.proofs.Replay.{Replays}
use Rattle.history.proofs.TableExchange.{TablesExchanged, tables-exchanged}

-- The request is accepted on these tables with this reply.
abbrev pub DoesOne : Tables → Done → Type 0
DoesOne t d = (is_accepted t d.request ≡ true) × ((handle t d.request).reply ≡ d.reply)

abbrev pub next_one : Tables → Done → Tables
next_one t d = (handle t d.request).tables

-- The requests in turn, each with its reply, from these tables to those.
abbrev pub DoneFrom : Tables → List Done → Tables → Type 0
DoneFrom t done end = Replays DoesOne next_one t done end

abbrev pub requests_done : List Done → List Request
requests_done done = map (λ (d : Done). d.request) done

abbrev pub whole : List Done → Tables → Sequence
whole done end = record { done = done; stop = none; tables = end }

pub done-from : (t : Tables) (requests : List Request) → DoneFrom t (until_refused t requests).done (until_refused t requests).tables
unfolding until_refused goes_on
done-from t [] = refl
done-from t (r ∷ rest) = go (refusal_of t r) refl (done-from (handle t r).tables rest)
  where
    later : Sequence
    later = until_refused (handle t r).tables rest

    go : (o : Option Test) → refusal_of t r ≡ o → DoneFrom (handle t r).tables later.done later.tables → DoneFrom t (goes_on t r o later).done (goes_on t r o later).tables
    go none e again = ((none-accepted t r e, refl), again)
    go (some x) e again = refl

pub whole-list : (t : Tables) (requests : List Request) → (until_refused t requests).stop ≡ none → requests_done (until_refused t requests).done ≡ requests
unfolding until_refused goes_on
whole-list t [] h = refl
whole-list t (r ∷ rest) h = go (refusal_of t r) h (whole-list (handle t r).tables rest)
  where
    later : Sequence
    later = until_refused (handle t r).tables rest

    go : (o : Option Test) → (goes_on t r o later).stop ≡ none → (later.stop ≡ none → requests_done later.done ≡ rest) → requests_done (goes_on t r o later).done ≡ r ∷ rest
    go none k again = ap (λ (l : List Request). r ∷ l) (again k)
    go (some x) k again = none-some k refl

pub done-whole : (done : List Done) (t end : Tables) → DoneFrom t done end → until_refused t (requests_done done) ≡ whole done end
unfolding until_refused goes_on
done-whole [] t end h = ap (λ (u : Tables). whole [] u) h
done-whole (d ∷ rest) t end h =
    let r : Request = d.request in
    let this : ◌≡◌ {A = Done} (record { request = r; reply = (handle t r).reply }) d = λ i. record { request = r; reply = h.0.1 i } in
    ap (λ (o : Option Test). goes_on t r o (until_refused (handle t r).tables (requests_done rest))) (accepted-none t r h.0.0)
    ∙ ap (λ (s : Sequence). goes_on t r none s) (done-whole rest (handle t r).tables end h.1)
    ∙ ap (λ (x : Done). whole (x ∷ rest) end) this

pub done-exchanged : (t : Tables) (x y : Done) → touch y.request x.request ≡ false → DoesOne t x → DoesOne (next_one t x) y →
    (DoesOne t y) × (DoesOne (next_one t y) x) × (next_one (next_one t y) x ≡ next_one (next_one t x) y)
done-exchanged t x y free ok-x ok-y =
    let w : TablesExchanged t x.request y.request = tables-exchanged t x.request y.request free ok-x.0 ok-y.0 in
    ((w.second-accepted, w.second-reply ∙ ok-y.1), (w.first-accepted, w.first-reply ∙ ok-x.1), w.same_tables)

no_output : (t : Tables) (o : Option Test) (reply : Reply) (u : Tables) → (answer o t (answered_by reply u)).output ≡ []
unfolding answer
no_output t none reply u = refl
no_output t (some x) reply u = refl

-- No request of document 01 writes to an output.
pub writes_nothing : (t : Tables) (r : Request) → (handle t r).output ≡ []
unfolding handle answer
writes_nothing t r = no_output t (refusal_of t r) _ _
