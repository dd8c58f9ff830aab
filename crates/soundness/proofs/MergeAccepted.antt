-- What an accepted merge has passed: tests 3 to 11, read one by one. By the laws of acceptance. Assumes nothing.
use mathlib.Core.Path.{◌≡◌}
use mathlib.Core.Bool.{true, false}
use mathlib.Core.List.{List, [], map}
use mathlib.Core.Option.{Option, none}
use borrow.Author.Tests.{not-false}
use lib.IntN.{ℤ, pos}
use lib.Signed.{◌≤ℤ◌}
use Rattle.integers.proofs.Order.{lt_z-le}
use Rattle.rules.specs.Figures.{most_quantity}
use Rattle.rules.specs.NamedRecord.{is_elsewhere, is_not_adjustable}
use Rattle.rules.specs.Refusal.{test, test_each, any_of}
use Rattle.rules.specs.Request.{merge}
use Rattle.rules.specs.Books.{Books, view_of}
use Rattle.rules.specs.Handle.{plan_of}
use Rattle.rules.specs.Merge.{Source, pairs_of, merge_figures, sources_of, records_of, is_missing, closes, stood_earlier, first_of, side_differs, sum_of_quantities, status_of_each, merge_plan}
use Rattle.keys.proofs.Counts.{is_some-absent}
use Rattle.soundness.specs.SoundBooks.{Accepts}
use Rattle.soundness.proofs.Accepted.{own-passed}

-- Of the request's figures, the greatest suffix of the new id, and the sources.
pub record MergePassed (id account series : ℤ) (pairs : List ℤ) (new_id : Option ℤ) (sources : List Source) : Type 0 where
  pub figures : merge_figures id account series pairs ≡ true
  pub id-is-new : new_id ≡ none
  pub sources-found : any_of (map is_missing sources) ≡ false
  pub sources-here : any_of (map (is_elsewhere account series) (records_of sources)) ≡ false
  pub sources-adjustable : any_of (map is_not_adjustable (records_of sources)) ≡ false
  pub sources-to-open : any_of (map closes (records_of sources)) ≡ false
  pub sources-differ : any_of (stood_earlier [] sources) ≡ false
  pub sources-on-one-side : any_of (map (side_differs (first_of (records_of sources))) (records_of sources)) ≡ false
  pub sum-small : sum_of_quantities (records_of sources) ≤ℤ pos most_quantity

pub merge-passed : (b : Books) (id account series : ℤ) (pairs : List ℤ) → Accepts b (merge id account series pairs) →
    MergePassed id account series pairs ((view_of b).greatest_suffix id) (sources_of (view_of b) (pairs_of pairs))
unfolding plan_of merge_plan test test_each status_of_each
merge-passed b id account series pairs accepted =
    let sources : List Source = sources_of (view_of b) (pairs_of pairs) in
    let p = own-passed b _ _ accepted in
    record {
      figures = not-false (merge_figures id account series pairs) p.0;
      id-is-new = is_some-absent ((view_of b).greatest_suffix id) p.1.0;
      sources-found = p.1.1.0;
      sources-here = p.1.1.1.0;
      sources-adjustable = p.1.1.1.1.0;
      sources-to-open = p.1.1.1.1.1.0;
      sources-differ = p.1.1.1.1.1.1.0;
      sources-on-one-side = p.1.1.1.1.1.1.1.0;
      sum-small = lt_z-le (pos most_quantity) (sum_of_quantities (records_of sources)) p.1.1.1.1.1.1.1.1.0;
    }
