-- What the rules say of the totals kept beside a position (document 02, K7), by computation on the smallest tables that show it: what each request adds to them, that the sums over the records come to the
-- same, and where refusal 16 begins. An edit of a definition that goes wrong there is refused here. Assumes nothing.
use mathlib.Core.Path.{◌≡◌, refl}
use mathlib.Core.List.{List, [], ◌∷◌, map}
use lib.IntN.{ℤ, pos, neg_ℤ}
use Rattle.rules.specs.Request.{Request, trade, separate, transfer, merge, give_up}
use Rattle.rules.specs.Handle.{handle}
use Rattle.rules.specs.Tables.{Tables, tables_of}
use Rattle.rules.specs.Totals.{total_quantity, total_value}
use Rattle.rules.specs.SmallTables.{empty_cells, empty_tables, records_after, positions_after}
use Rattle.rules.specs.declared.Record.{Record}
use Rattle.rules.specs.declared.Position.{Position}
use Rattle.rules.specs.declared.Step.{Step}
use Rattle.rules.specs.declared.Step.TheVariants.{Open, Claim, ApproveGiver, ApproveTaker}
use Rattle.rules.specs.declared.Reply.{Reply}
use Rattle.rules.specs.declared.Reply.TheVariants.{Booked, Refused}
use Rattle.rules.proofs.Computed.{Computed}

-- The totals that two accounts' rows of series 1 keep after some requests, and the sums over the records.
abbrev kept : Tables → List Request → List (List ℤ)
kept t requests = map (λ (p : Position). p.account ∷ p.quantity ∷ p.value ∷ []) (positions_after t requests)

abbrev summed : Tables → List Request → List ℤ → List (List ℤ)
summed t requests accounts =
    let rows : List Record = records_after t requests in
    map (λ (account : ℤ). account ∷ (total_quantity account (pos 1) rows) ∷ (total_value account (pos 1) rows) ∷ []) accounts

-- Room for eight records, two positions and one process.
abbrev small : Tables
small = empty_tables 113 14 9

-- Trade 7 buys 100 and trade 8 sells 40 at prices 5 and 6, account 1.
abbrev bought : Request
bought = trade (pos 7) (pos 1) (pos 1) (pos 1) (pos 100) (pos 5)

abbrev sold : Request
sold = trade (pos 8) (pos 1) (pos 1) (pos 2) (pos 40) (pos 6)

-- "buys plus, sells minus": 100 - 40, and 500 - 240.
pub buys-plus-sells-minus : kept small (bought ∷ sold ∷ []) ≡ (pos 1 ∷ pos 60 ∷ pos 260 ∷ []) ∷ []
unfolding Computed
buys-plus-sells-minus = refl

pub buys-and-sells-summed : summed small (bought ∷ sold ∷ []) (pos 1 ∷ []) ≡ (pos 1 ∷ pos 60 ∷ pos 260 ∷ []) ∷ []
unfolding Computed
buys-and-sells-summed = refl

-- A transfer takes from the old account's totals and gives to the new one's.
abbrev transferred : List Request
transferred = bought ∷ sold ∷ transfer (pos 8) (pos 0) (pos 1) (pos 2) (pos 1) ∷ []

pub transfer-moves-both : kept small transferred ≡ (pos 1 ∷ pos 100 ∷ pos 500 ∷ []) ∷ (pos 2 ∷ neg_ℤ (pos 40) ∷ neg_ℤ (pos 240) ∷ []) ∷ []
unfolding Computed
transfer-moves-both = refl

pub transfer-summed : summed small transferred (pos 1 ∷ pos 2 ∷ []) ≡ (pos 1 ∷ pos 100 ∷ pos 500 ∷ []) ∷ (pos 2 ∷ neg_ℤ (pos 40) ∷ neg_ℤ (pos 240) ∷ []) ∷ []
unfolding Computed
transfer-summed = refl

-- A separation moves nothing: its parts stand for the record.
abbrev separated : List Request
separated = bought ∷ separate (pos 7) (pos 0) (pos 1) (pos 1) (pos 60 ∷ pos 40 ∷ []) ∷ []

pub separation-moves-nothing : kept small separated ≡ (pos 1 ∷ pos 100 ∷ pos 500 ∷ []) ∷ []
unfolding Computed
separation-moves-nothing = refl

pub separation-summed : summed small separated (pos 1 ∷ []) ≡ (pos 1 ∷ pos 100 ∷ pos 500 ∷ []) ∷ []
unfolding Computed
separation-summed = refl

-- A merge of 1 at 0 and 1 at 1 comes at 1: the value moves by the residual, 1, of buys up and of sells down.
abbrev merged : ℤ → List Request
merged side =
    trade (pos 7) (pos 1) (pos 1) side (pos 1) (pos 0)
    ∷ trade (pos 8) (pos 1) (pos 1) side (pos 1) (pos 1)
    ∷ merge (pos 9) (pos 1) (pos 1) (pos 7 ∷ pos 0 ∷ pos 8 ∷ pos 0 ∷ [])
    ∷ []

pub merge-moves-the-value : kept small (merged (pos 1)) ≡ (pos 1 ∷ pos 2 ∷ pos 2 ∷ []) ∷ []
unfolding Computed
merge-moves-the-value = refl

pub merge-of-sells : kept small (merged (pos 2)) ≡ (pos 1 ∷ neg_ℤ (pos 2) ∷ neg_ℤ (pos 2) ∷ []) ∷ []
unfolding Computed
merge-of-sells = refl

pub merge-summed : summed small (merged (pos 1)) (pos 1 ∷ []) ≡ (pos 1 ∷ pos 2 ∷ pos 2 ∷ []) ∷ []
unfolding Computed
merge-summed = refl

-- "of status 0 or 3": a record under give-up still counts for the old account; the step that completes it moves the totals.
abbrev given : List Step → List Request
given steps = bought ∷ map (λ (step : Step). give_up step (pos 9) (pos 7) (pos 0) (pos 1) (pos 2) (pos 1)) steps

pub give-up-counts : summed small (given (Open ∷ Claim ∷ [])) (pos 1 ∷ []) ≡ (pos 1 ∷ pos 100 ∷ pos 500 ∷ []) ∷ []
unfolding Computed
give-up-counts = refl

pub give-up-leaves-the-totals : kept small (given (Open ∷ Claim ∷ [])) ≡ (pos 1 ∷ pos 100 ∷ pos 500 ∷ []) ∷ []
unfolding Computed
give-up-leaves-the-totals = refl

pub give-up-completed : kept small (given (Open ∷ Claim ∷ ApproveGiver ∷ ApproveTaker ∷ [])) ≡ (pos 1 ∷ pos 0 ∷ pos 0 ∷ []) ∷ (pos 2 ∷ pos 100 ∷ pos 500 ∷ []) ∷ []
unfolding Computed
give-up-completed = refl

-- ---- refusal 16

-- A table with one position, of account 1 and series 1, and room for no other; and the reply to a trade of 1 on it.
abbrev on_position : (long short cash quantity value : ℤ) → Request → Reply
on_position long short cash quantity value r =
    (handle (tables_of (empty_cells 29) (pos 1 ∷ pos 1 ∷ pos 1 ∷ long ∷ short ∷ cash ∷ quantity ∷ value ∷ [])) r).reply

abbrev one_at : (side price : ℤ) → Request
one_at side price = trade (pos 7) (pos 1) (pos 1) side (pos 1) price

abbrev most : ℤ
most = pos 4000000000000000000

-- "Each magnitude stays within 4,000,000,000,000,000,000, tested after the whole request ...; beyond is 16": a figure at the end of its range may come back and may not go on.
pub quantity-at-its-most :
    on_position (pos 1) (pos 0) (pos 0) most (pos 0) (one_at (pos 1) (pos 0)) ∷ on_position (pos 1) (pos 0) (pos 0) most (pos 0) (one_at (pos 2) (pos 0)) ∷ []
    ≡ Refused (pos 16) (pos 0) ∷ Booked (pos 1) (pos 0) ∷ []
unfolding Computed
quantity-at-its-most = refl

pub quantity-at-its-least :
    on_position (pos 1) (pos 0) (pos 0) (neg_ℤ most) (pos 0) (one_at (pos 2) (pos 0)) ∷ on_position (pos 1) (pos 0) (pos 0) (neg_ℤ most) (pos 0) (one_at (pos 1) (pos 0)) ∷ []
    ≡ Refused (pos 16) (pos 0) ∷ Booked (pos 1) (pos 0) ∷ []
unfolding Computed
quantity-at-its-least = refl

pub value-at-its-most :
    on_position (pos 1) (pos 0) (pos 0) (pos 0) most (one_at (pos 1) (pos 1)) ∷ on_position (pos 1) (pos 0) (pos 0) (pos 0) most (one_at (pos 2) (pos 1)) ∷ []
    ≡ Refused (pos 16) (pos 0) ∷ Booked (pos 1) (pos 0) ∷ []
unfolding Computed
value-at-its-most = refl

pub value-at-its-least :
    on_position (pos 1) (pos 0) (pos 0) (pos 0) (neg_ℤ most) (one_at (pos 2) (pos 1)) ∷ on_position (pos 1) (pos 0) (pos 0) (pos 0) (neg_ℤ most) (one_at (pos 1) (pos 1)) ∷ []
    ≡ Refused (pos 16) (pos 0) ∷ Booked (pos 1) (pos 0) ∷ []
unfolding Computed
value-at-its-least = refl

-- "Soundness asks only that range": a total beyond it makes the table unsound (2), one that no record accounts for does not.
pub beyond-is-unsound : on_position (pos 1) (pos 0) (pos 0) (pos 4000000000000000001) (pos 0) (one_at (pos 2) (pos 0)) ≡ Refused (pos 2) (pos 0)
unfolding Computed
beyond-is-unsound = refl
