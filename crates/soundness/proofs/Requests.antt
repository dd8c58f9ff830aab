-- The facts of every kind of request on sound books, where it is accepted. A new kind adds a line. Assumes nothing.
use mathlib.Core.Path.{◌≡◌, refl}
use mathlib.Core.Bool.{not, ◌&&◌}
use mathlib.Core.List.{[], ◌∷◌}
use mathlib.Core.Option.{Option, none, some}
use borrow.Author.Tests.{not-false}
use lib.IntN.{ℤ, pos}
use lib.Signed.{lt_z}
use Rattle.rules.specs.Figures.{valid_day}
use Rattle.rules.specs.Refusal.{test}
use Rattle.rules.specs.Request.{Request, trade, separate, transfer, merge, lineage, give_up, new_day}
use Rattle.rules.specs.Books.{Books, view_of}
use Rattle.rules.specs.Handle.{plan_of}
use Rattle.rules.specs.Plan.{plan_tests}
use Rattle.rules.specs.Day.{day_plan}
use Rattle.rules.specs.Lineage.{Origin, lineage_reply, lineage_plan}
use Rattle.soundness.specs.SoundBooks.{SoundBooks, plan_on, Accepts}
use Rattle.soundness.specs.RowsAnswered.{rows_answered}
use Rattle.soundness.proofs.Accepted.{passed, both}
use Rattle.soundness.proofs.BookingFacts.{PlanFacts}
use Rattle.soundness.proofs.Trade.{trade-facts}
use Rattle.soundness.proofs.Separation.{separation-facts}
use Rattle.soundness.proofs.Transfer.{transfer-facts}
use Rattle.soundness.proofs.Merge.{merge-facts}
use Rattle.soundness.proofs.GiveUp.{give-up-facts}

-- Lineage answers no rows.
no_rows : (o : Option Origin) → rows_answered (lineage_reply o) ≡ pos 0
unfolding lineage_reply
no_rows none = refl
no_rows (some o) = refl

lineage-facts : (b : Books) (id suffix : ℤ) → PlanFacts b (plan_on b (lineage id suffix))
unfolding plan_of lineage_plan
lineage-facts b id suffix = no_rows _

-- A new day has passed test 3.
pub day-facts : (b : Books) (day : ℤ) → Accepts b (new_day day) → PlanFacts b (plan_on b (new_day day))
unfolding plan_of day_plan view_of plan_tests test
day-facts b day a = both (valid_day day) (lt_z b.day day) (not-false (valid_day day && lt_z b.day day) (passed (test 3 (not (valid_day day && lt_z b.day day)) ∷ []) a).0)

pub plan-facts : (b : Books) → SoundBooks b → (r : Request) → Accepts b r → PlanFacts b (plan_on b r)
plan-facts b sound (trade id account series side quantity price) a = trade-facts b sound id account series side quantity price a
plan-facts b sound (separate id suffix account series parts) a = separation-facts b sound id suffix account series parts a
plan-facts b sound (transfer id suffix from to series) a = transfer-facts b sound id suffix from to series a
plan-facts b sound (merge id account series pairs) a = merge-facts b sound id account series pairs a
plan-facts b sound (lineage id suffix) a = lineage-facts b id suffix
plan-facts b sound (give_up step process id suffix giving taking series) a = give-up-facts b sound step process id suffix giving taking series a
plan-facts b sound (new_day day) a = day-facts b day a
