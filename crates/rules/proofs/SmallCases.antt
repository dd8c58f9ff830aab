-- What the rules say where a clerk goes wrong (document 01, "Slips a tired clerk makes") and in a few cases more, by computation on the smallest tables that show it. An edit
-- of a definition that goes wrong there is refused here. Assumes nothing.
use mathlib.Core.Path.{◌≡◌, refl}
use mathlib.Core.Bool.{true, false}
use mathlib.Core.List.{[], ◌∷◌, ◌++◌, map}
use lib.IntN.{pos, neg_ℤ}
use Rattle.rules.specs.Request.{trade, separate, transfer, merge}
use Rattle.rules.specs.Handle.{answered_by}
use Rattle.rules.specs.Call.{one, trades, handle_call}
use Rattle.rules.specs.Touching.{touch, calls_touch}
use Rattle.rules.specs.SmallTables.{empty, buy, buy_figures, half_merged, merged_at, run_of, records_after, positions_after}
use Rattle.rules.specs.declared.Record.{Record}
use Rattle.rules.specs.declared.Position.{Position}
use Rattle.rules.specs.declared.Reply.TheVariants.{Booked, Refused, Stopped}
use Rattle.rules.proofs.Computed.{Computed}

-- "Booking the separation's inverse against the position: long drops to 0 and never returns." Long stays, and no row of the separation books anything.
pub separation-leaves-the-position :
    positions_after (empty 57 7) (buy (pos 7) (pos 1) ∷ separate (pos 7) (pos 0) (pos 1) (pos 1) (pos 60 ∷ pos 40 ∷ []) ∷ [])
    ≡ positions_after (empty 57 7) (buy (pos 7) (pos 1) ∷ [])
unfolding Computed
separation-leaves-the-position = refl

pub separation-books-nothing :
    map (λ (r : Record). r.long) (records_after (empty 57 7) (buy (pos 7) (pos 1) ∷ separate (pos 7) (pos 0) (pos 1) (pos 1) (pos 60 ∷ pos 40 ∷ []) ∷ []))
    ≡ pos 100 ∷ pos 0 ∷ pos 0 ∷ pos 0 ∷ []
unfolding Computed
separation-books-nothing = refl

-- "Numbering merge inverses from a count taken once, when two sources share an id." Each takes a suffix of its own.
pub inverses-take-successive-suffixes :
    map (λ (r : Record). r.suffix)
    (records_after (empty 99 7)
    (buy (pos 7) (pos 1)
    ∷ separate (pos 7) (pos 0) (pos 1) (pos 1) (pos 60 ∷ pos 40 ∷ [])
    ∷ merge (pos 8) (pos 1) (pos 1) (pos 7 ∷ pos 2 ∷ pos 7 ∷ pos 3 ∷ [])
    ∷ []))
    ≡ pos 0 ∷ pos 1 ∷ pos 2 ∷ pos 3 ∷ pos 4 ∷ pos 5 ∷ pos 0 ∷ []
unfolding Computed
inverses-take-successive-suffixes = refl

-- "Putting new rows at the end, so the tables depend on who came first." They do not.
pub rows-stand-by-key :
    (run_of (empty 29 14) (buy (pos 7) (pos 1) ∷ buy (pos 6) (pos 2) ∷ [])).tables
    ≡ (run_of (empty 29 14) (buy (pos 6) (pos 2) ∷ buy (pos 7) (pos 1) ∷ [])).tables
unfolding Computed
rows-stand-by-key = refl

-- A refusal is the first that applies: a transfer of a record that is in another account (6), adjusted (7) and held by nobody there (12) is refused 6.
pub first-number-given :
    (run_of (empty 57 14)
    (buy (pos 7) (pos 1)
    ∷ transfer (pos 7) (pos 0) (pos 1) (pos 2) (pos 1)
    ∷ transfer (pos 7) (pos 0) (pos 2) (pos 3) (pos 1)
    ∷ [])).replies
    ≡ (run_of (empty 57 14) (buy (pos 7) (pos 1) ∷ transfer (pos 7) (pos 0) (pos 1) (pos 2) (pos 1) ∷ [])).replies ++ (Refused (pos 6) (pos 0) ∷ [])
unfolding Computed
first-number-given = refl

-- Two trades of different ids on one account and series touch: "they share an id or a position".
pub one-position-touches : touch (buy (pos 7) (pos 1)) (buy (pos 8) (pos 1)) ≡ true
unfolding Computed
one-position-touches = refl

pub another-account-does-not : touch (buy (pos 7) (pos 1)) (buy (pos 8) (pos 2)) ≡ false
unfolding Computed
another-account-does-not = refl

-- Two trades of one id on different accounts touch.
pub one-id-touches : touch (buy (pos 7) (pos 1)) (buy (pos 7) (pos 2)) ≡ true
unfolding Computed
one-id-touches = refl

-- A transfer touches what is on either of its accounts, and nothing on a third.
pub both-accounts-touch :
    map (touch (transfer (pos 7) (pos 0) (pos 1) (pos 2) (pos 1))) (buy (pos 8) (pos 1) ∷ buy (pos 8) (pos 2) ∷ buy (pos 8) (pos 3) ∷ []) ≡ true ∷ true ∷ false ∷ []
unfolding Computed
both-accounts-touch = refl

-- A merge touches what names its new id or the id of any source.
pub sources-touch :
    map (touch (merge (pos 9) (pos 1) (pos 1) (pos 7 ∷ pos 0 ∷ pos 8 ∷ pos 0 ∷ [])))
    (buy (pos 9) (pos 2) ∷ buy (pos 7) (pos 2) ∷ buy (pos 8) (pos 2) ∷ buy (pos 6) (pos 2) ∷ [])
    ≡ true ∷ true ∷ true ∷ false ∷ []
unfolding Computed
sources-touch = refl

-- "A refused request changes nothing": the second trade of an id is refused 4 and leaves every cell.
pub refused-leaves-the-cells :
    (run_of (empty 29 7) (buy (pos 7) (pos 1) ∷ buy (pos 7) (pos 1) ∷ [])).tables ≡ (run_of (empty 29 7) (buy (pos 7) (pos 1) ∷ [])).tables
unfolding Computed
refused-leaves-the-cells = refl

-- The residual "is added to the position's cash": buys of 1 at 0 and 1 at 1 leave 1.
pub residual-in-cash :
    map (λ (p : Position). p.cash)
    (positions_after (empty 71 7)
    (trade (pos 7) (pos 1) (pos 1) (pos 1) (pos 1) (pos 0)
    ∷ trade (pos 8) (pos 1) (pos 1) (pos 1) (pos 1) (pos 1)
    ∷ merge (pos 9) (pos 1) (pos 1) (pos 7 ∷ pos 0 ∷ pos 8 ∷ pos 0 ∷ [])
    ∷ []))
    ≡ pos 1 ∷ []
unfolding Computed
residual-in-cash = refl

-- "A half goes away from zero, so that negating every price negates the average" (02, K4), of buys and of sells: 1 at 1 and 1 at 0 come at 1, and 1 at -1 and 1 at 0 at -1.
pub halves-away-from-zero :
    half_merged (pos 1) (pos 1) ∷ half_merged (pos 1) (neg_ℤ (pos 1)) ∷ half_merged (pos 2) (pos 1) ∷ half_merged (pos 2) (neg_ℤ (pos 1)) ∷ []
    ≡ merged_at (pos 1) (pos 1) ∷ merged_at (neg_ℤ (pos 1)) (neg_ℤ (pos 1)) ∷ merged_at (pos 1) (neg_ℤ (pos 1)) ∷ merged_at (neg_ℤ (pos 1)) (pos 1) ∷ []
unfolding Computed
halves-away-from-zero = refl

-- "row count plus the request's new rows": with room for one row a second trade is refused 14.
pub room-counts-new-rows :
    (run_of (empty 15 14) (buy (pos 7) (pos 1) ∷ buy (pos 8) (pos 2) ∷ [])).replies ≡ Booked (pos 1) (pos 0) ∷ Refused (pos 14) (pos 0) ∷ []
unfolding Computed
room-counts-new-rows = refl

-- Document 02, K1: a batch whose second trade is refused 4 "keeps what came before" and does not go on to the third, which would be accepted.
pub batch-stops :
    handle_call (empty 43 14) (trades (buy_figures (pos 7) (pos 1) ++ buy_figures (pos 7) (pos 2) ++ buy_figures (pos 8) (pos 3)) 3)
    ≡ record { reply = Stopped (pos 1) (pos 4) (pos 0); output = pos 0 ∷ []; tables = (run_of (empty 43 14) (buy (pos 7) (pos 1) ∷ [])).tables }
unfolding Computed
batch-stops = refl

-- "each booked trade's excess, 0 if none": a sell to close of 150 against 100.
pub excess-each :
    handle_call (empty 43 14) (trades (buy_figures (pos 7) (pos 1) ++ (pos 8 ∷ pos 1 ∷ pos 1 ∷ pos 4 ∷ pos 150 ∷ pos 5 ∷ [])) 3)
    ≡ record {
      reply = Booked (pos 2) (pos 0);
      output = pos 0 ∷ pos 50 ∷ [];
      tables = (run_of (empty 43 14) (buy (pos 7) (pos 1) ∷ trade (pos 8) (pos 1) (pos 1) (pos 4) (pos 150) (pos 5) ∷ [])).tables;
    }
unfolding Computed
excess-each = refl

-- "fewer cells than listed trades: 3", and "otherwise refusal 3, after 1 and 2, nothing booked".
pub short-excess-refused :
    handle_call (empty 43 14) (trades (buy_figures (pos 7) (pos 1) ++ buy_figures (pos 8) (pos 2)) 1) ≡ answered_by (Refused (pos 3) (pos 0)) (empty 43 14)
unfolding Computed
short-excess-refused = refl

pub seventh-figure-refused :
    handle_call (empty 43 14) (trades (buy_figures (pos 7) (pos 1) ++ (pos 8 ∷ [])) 9) ≡ answered_by (Refused (pos 3) (pos 0)) (empty 43 14)
unfolding Computed
seventh-figure-refused = refl

-- A batch "names all their ids and positions".
pub batch-names-each-id : calls_touch (trades (buy_figures (pos 7) (pos 1) ++ buy_figures (pos 8) (pos 2)) 2) (one (buy (pos 8) (pos 3))) ≡ true
unfolding Computed
batch-names-each-id = refl

pub batch-names-each-position : calls_touch (one (buy (pos 9) (pos 2))) (trades (buy_figures (pos 7) (pos 1) ++ buy_figures (pos 8) (pos 2)) 2) ≡ true
unfolding Computed
batch-names-each-position = refl
