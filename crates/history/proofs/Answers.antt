-- Accepted and answered are tied, for every kind of request and on any tables: the reply is a refusal exactly where the request is not accepted, and then its number and place
-- are those of the first test that applies. An accepted request's reply is its plan's, and no plan replies with a refusal. Assumes nothing.
use mathlib.Core.Path.{◌≡◌, refl, sym, ◌∙◌, ap}
use mathlib.Core.Bool.{Bool, true, false, cond, not}
use mathlib.Core.Logic.{◌⊎◌, inl, inr}
use mathlib.Core.Option.{Option, none, some}
use lib.IntN.{ℤ, pos}
use Rattle.rules.specs.Refusal.{Test}
use Rattle.rules.specs.Reply.{refused_by}
use Rattle.rules.specs.Request.{Request, trade, separate, transfer, merge, lineage, give_up, new_day}
use Rattle.rules.specs.Books.{View, view_of}
use Rattle.rules.specs.Plan.{Effects, plan_reply}
use Rattle.rules.specs.Trade.{trade_reply, trade_plan}
use Rattle.rules.specs.Separation.{separation_plan}
use Rattle.rules.specs.Transfer.{transfer_plan}
use Rattle.rules.specs.Merge.{merge_plan}
use Rattle.rules.specs.Lineage.{Origin, lineage_reply, lineage_plan}
use Rattle.rules.specs.Day.{day_plan}
use Rattle.rules.specs.GiveUp.{is_complete, give_up_effects, give_up_plan}
use Rattle.rules.specs.Tables.{Tables, books_of}
use Rattle.rules.specs.Handle.{plan_of, refusal_of, handle}
use Rattle.rules.specs.declared.Reply.TheVariants.{Refused}
use Rattle.keys.proofs.Split.{split, clash}
use Rattle.history.specs.History.{is_accepted}
use Rattle.history.specs.Answers.{is_refusal}
use Rattle.history.proofs.Accepted.{refused-some, refused-reply, accepted-reply}

-- ---- no plan replies with a refusal

trade-replies : (error : Bool) (excess : ℤ) → is_refusal (trade_reply error excess) ≡ false
unfolding is_refusal trade_reply
trade-replies true excess = refl
trade-replies false excess = refl

lineage-replies : (o : Option Origin) → is_refusal (lineage_reply o) ≡ false
unfolding is_refusal lineage_reply
lineage-replies none = refl
lineage-replies (some o) = refl

either-replies : (complete : Bool) (e f : Effects) → is_refusal e.reply ≡ false → is_refusal f.reply ≡ false → is_refusal (cond complete e f).reply ≡ false
either-replies true e f h k = h
either-replies false e f h k = k

plan-replies : (v : View) (r : Request) → is_refusal (plan_reply (plan_of v r)) ≡ false
unfolding is_refusal plan_reply plan_of trade_plan separation_plan transfer_plan merge_plan lineage_plan give_up_plan give_up_effects day_plan
plan-replies v (trade id account series side quantity price) = trade-replies _ _
plan-replies v (separate id suffix account series parts) = refl
plan-replies v (transfer id suffix from to series) = refl
plan-replies v (merge id account series pairs) = refl
plan-replies v (lineage id suffix) = lineage-replies _
plan-replies v (give_up step process id suffix giving taking series) = either-replies (is_complete _) _ _ refl refl
plan-replies v (new_day day) = refl

-- ---- the tie

module _ (t : Tables) (r : Request) where
  -- Not accepted: the reply is the refusal with number and place of the first test that applies.
  pub not-accepted-refused : is_accepted t r ≡ false → (first : Test) × (refusal_of t r ≡ some first) × ((handle t r).reply ≡ refused_by first)
  not-accepted-refused h = ((refused-some t r h).0, (refused-some t r h).1, refused-reply t r (refused-some t r h).0 (refused-some t r h).1)

  -- A refusal exactly where the request is not accepted.
  pub refusal-exactly : is_refusal (handle t r).reply ≡ not (is_accepted t r)
  unfolding is_refusal refused_by
  refusal-exactly = go (split (is_accepted t r))
    where
      go : (is_accepted t r ≡ true) ⊎ (is_accepted t r ≡ false) → is_refusal (handle t r).reply ≡ not (is_accepted t r)
      go (inl ok) = ap is_refusal (accepted-reply t r ok) ∙ plan-replies (view_of (books_of t)) r ∙ ap not (sym ok)
      go (inr not-ok) = ap is_refusal (not-accepted-refused not-ok).2 ∙ ap not (sym not-ok)

  -- The other way round: a reply that refuses with a number and a place was not accepted, and these are the number and place of the first test that applies.
  pub refused-not-accepted : (number place : ℤ) → (handle t r).reply ≡ Refused number place →
      (is_accepted t r ≡ false) × ((first : Test) × (refusal_of t r ≡ some first) × (number ≡ pos first.number) × (place ≡ pos first.place))
  unfolding is_refusal refused_by
  refused-not-accepted number place e = go (split (is_accepted t r))
    where
      go : (is_accepted t r ≡ true) ⊎ (is_accepted t r ≡ false) →
          (is_accepted t r ≡ false) × ((first : Test) × (refusal_of t r ≡ some first) × (number ≡ pos first.number) × (place ≡ pos first.place))
      go (inl ok) = clash (ap is_refusal e) (refusal-exactly ∙ ap not ok)
      go (inr not-ok) =
          let w : (first : Test) × (refusal_of t r ≡ some first) × ((handle t r).reply ≡ refused_by first) = not-accepted-refused not-ok in
          let same : Refused number place ≡ refused_by w.0 = sym e ∙ w.2 in
          (not-ok, (w.0, w.1, cc, cc))
