-- What every kind of request, accepted on sound books, adds to the sums over the records, it adds to the stored figures, at every account and series (document 02, K7: "Every request adds to the stored figures
-- what it changes in these sums"). A lineage and a new day add nothing to either. A new kind adds a line. Assumes nothing.
use mathlib.Core.Path.{sym}
use lib.IntN.{ℤ, +ℤ_idr}
use Rattle.rules.specs.Request.{Request, trade, separate, transfer, merge, lineage, give_up, new_day}
use Rattle.rules.specs.Books.{Books, view_of, with_day}
use Rattle.rules.specs.Plan.{plan_books}
use Rattle.rules.specs.Handle.{plan_of}
use Rattle.rules.specs.Day.{day_plan}
use Rattle.rules.specs.Lineage.{lineage_plan}
use Rattle.soundness.specs.SoundBooks.{SoundBooks, Accepts, after}
use Rattle.totals.specs.Amounts.{nothing, amounts_of}
use Rattle.totals.specs.Adds.{Adds}
use Rattle.totals.proofs.TradeTotals.{trade-adds}
use Rattle.totals.proofs.SeparationTotals.{separation-adds}
use Rattle.totals.proofs.TransferTotals.{transfer-adds}
use Rattle.totals.proofs.MergeTotals.{merge-adds}
use Rattle.totals.proofs.GiveUpTotals.{give-up-adds}

-- Nothing is added where nothing changes.
pub same_books : (b : Books) (a s : ℤ) → Adds b b a s nothing
same_books b a s = record {
  quantity-summed = sym (+ℤ_idr _);
  value-summed = sym (+ℤ_idr _);
  quantity-stored = sym (+ℤ_idr _);
  value-stored = sym (+ℤ_idr _);
}

lineage-adds : (b : Books) (id suffix a s : ℤ) → Adds b (after b (lineage id suffix)) a s (amounts_of (view_of b) (lineage id suffix) a s)
unfolding plan_of lineage_plan plan_books amounts_of
lineage-adds b id suffix a s = same_books b a s

-- On another day the records and the positions are the same.
pub another-day : (b : Books) (day a s : ℤ) → Adds b (with_day day b) a s nothing
unfolding view_of
another-day b day a s = record {
  quantity-summed = sym (+ℤ_idr _);
  value-summed = sym (+ℤ_idr _);
  quantity-stored = sym (+ℤ_idr _);
  value-stored = sym (+ℤ_idr _);
}

day-adds : (b : Books) (day a s : ℤ) → Adds b (after b (new_day day)) a s (amounts_of (view_of b) (new_day day) a s)
unfolding plan_of day_plan plan_books amounts_of
day-adds b day a s = another-day b day a s

pub request-adds : (b : Books) → SoundBooks b → (r : Request) → Accepts b r → (a s : ℤ) → Adds b (after b r) a s (amounts_of (view_of b) r a s)
request-adds b sound (trade id account series side quantity price) accepted a s = trade-adds b sound id account series side quantity price accepted a s
request-adds b sound (separate id suffix account series parts) accepted a s = separation-adds b sound id suffix account series parts accepted a s
request-adds b sound (transfer id suffix from to series) accepted a s = transfer-adds b sound id suffix from to series accepted a s
request-adds b sound (merge id account series pairs) accepted a s = merge-adds b sound id account series pairs accepted a s
request-adds b sound (lineage id suffix) accepted a s = lineage-adds b id suffix a s
request-adds b sound (give_up step process id suffix giving taking series) accepted a s = give-up-adds b sound step process id suffix giving taking series accepted a s
request-adds b sound (new_day day) accepted a s = day-adds b day a s
