-- Any figure of the records, summed, before and after an accepted request of any kind on sound books (`request-sum`): it gains the figures of the records that the request changes and adds, and loses those of
-- the records that the changed ones replace. No request changes a record twice: a merge by test 9, the others change one at most. A new kind adds a line. Assumes nothing.
use mathlib.Core.Path.{◌≡◌, subst}
use mathlib.Core.Bool.{Bool, true, false, cond}
use mathlib.Core.List.{List}
use lib.IntN.{ℤ, ◌+ℤ◌}
use Rattle.rules.specs.Keyed.{find}
use Rattle.rules.specs.Rows.{key_of, record_key, adjusted_record}
use Rattle.rules.specs.ProcessRows.{process_key}
use Rattle.rules.specs.Refusal.{Test}
use Rattle.rules.specs.Request.{Request, trade, separate, transfer, merge, lineage, give_up, new_day}
use Rattle.rules.specs.Books.{Books, view_of}
use Rattle.rules.specs.Plan.{Effects, Plan, booking, question, day_move, booked}
use Rattle.rules.specs.Handle.{plan_of}
use Rattle.rules.specs.Trade.{trade_plan}
use Rattle.rules.specs.Separation.{separation_plan}
use Rattle.rules.specs.Transfer.{transfer_plan}
use Rattle.rules.specs.Merge.{merge_plan}
use Rattle.rules.specs.Lineage.{lineage_plan}
use Rattle.rules.specs.Day.{day_plan}
use Rattle.rules.specs.GiveUp.{stepped, is_complete, give_up_effects, process_before, give_up_plan}
use Rattle.rules.specs.Totals.{sum_over}
use Rattle.rules.specs.declared.Record.{Record}
use Rattle.keys.proofs.Counts.{distinct, distinct_nil}
use Rattle.soundness.specs.SoundBooks.{SoundBooks, plan_on, Accepts}
use Rattle.soundness.proofs.NamedRecord.{record_of}
use Rattle.soundness.proofs.BookingFacts.{PlanFacts}
use Rattle.soundness.proofs.Requests.{plan-facts}
use Rattle.totals.specs.Replaced.{replaced}
use Rattle.totals.proofs.Sums.{booked-sum}
use Rattle.totals.proofs.EffectsAdd.{once}
use Rattle.totals.proofs.GiveUpTotals.{changed-once}
use Rattle.totals.proofs.MergeTotals.{merge-once}

-- No two of the records that a plan changes have the same key.
abbrev pub ChangesOnce : Plan → Type 0
ChangesOnce (booking tests e) = distinct record_key e.changed ≡ true
ChangesOnce (question tests reply) = Unit {0}
ChangesOnce (day_move tests day) = Unit {0}

pub changes-once : (b : Books) → SoundBooks b → (r : Request) → Accepts b r → ChangesOnce (plan_on b r)
unfolding plan_of trade_plan separation_plan transfer_plan merge_plan lineage_plan give_up_plan give_up_effects day_plan view_of
changes-once b sound (trade id account series side quantity price) accepted = distinct_nil record_key
changes-once b sound (separate id suffix account series parts) accepted = once (adjusted_record (record_of b.records (key_of id suffix)))
changes-once b sound (transfer id suffix from to series) accepted = once (adjusted_record (record_of b.records (key_of id suffix)))
changes-once b sound (merge id account series pairs) accepted = merge-once b sound id account series pairs accepted
changes-once b sound (lineage id suffix) accepted = tt
changes-once b sound (new_day day) accepted = tt
changes-once b sound (give_up step process id suffix giving taking series) accepted =
    go (is_complete (stepped step (process_before step process id suffix giving taking series (find process_key (key_of process id) b.processes))))
    _ _ (once (adjusted_record r)) (changed-once r step)
  where
    r : Record
    r = record_of b.records (key_of id suffix)

    go : (c : Bool) (complete other : Effects) → distinct record_key complete.changed ≡ true → distinct record_key other.changed ≡ true →
        distinct record_key (cond c complete other).changed ≡ true
    go true complete other h k = h
    go false complete other h k = k

pub request-sum : (figure : Record → ℤ) (b : Books) → SoundBooks b → (r : Request) → Accepts b r → (tests : List Test) (e : Effects) → plan_on b r ≡ booking tests e →
    sum_over figure (booked e b).records +ℤ sum_over figure (replaced b.records e.changed) ≡ sum_over figure b.records +ℤ (sum_over figure e.changed +ℤ sum_over figure e.added)
request-sum figure b sound r accepted tests e p =
    booked-sum figure b sound e (subst (λ (plan : Plan). PlanFacts b plan) p (plan-facts b sound r accepted)) (subst ChangesOnce p (changes-once b sound r accepted))
