-- The verdict on a merge that passes tests 3 to 5, and 6 to 10, is that of the tests which remain. Assumes nothing.
use Prim.Native.Nat.{◌/◌, ◌≤◌}
use native.Mathlib.Omega.{arith}
use mathlib.Core.Path.{◌≡◌, ◌∙◌, ap, ap₂}
use mathlib.Core.Bool.{Bool, true, false, not}
use mathlib.Core.List.{List, map}
use borrow.Author.Tests.{not-true}
use lib.IntN.{ℤ, pos}
use lib.ListN.{length}
use lib.Signed.{lt_z, ◌≤ℤ◌}
use Rattle.integers.specs.Average.{residual_of}
use Rattle.integers.specs.Averageable.{Averageable}
use Rattle.integers.proofs.Linear.{zarith}
use Rattle.rules.specs.Figures.{magnitude_at_most, most_quantity, is_buy}
use Rattle.rules.specs.Rows.{by_residual, moved}
use Rattle.rules.specs.declared.Record.{Record}
use Rattle.rules.specs.declared.Position.{Position}
use Rattle.rules.specs.declared.Movement.{Movement}
use Rattle.verdict.specs.MovedReady.{MovedReady}
use Rattle.verdict.proofs.Moves.{merge-moves}
use Rattle.verdict.proofs.Room.{position_read}
use Rattle.verdict.proofs.SoundReads.{position-read-sound}
use Rattle.rules.specs.Keyed.{is_some}
use Rattle.rules.specs.Refusal.{any_of}
use Rattle.rules.specs.Merge.{is_missing, first_of, sum_of_quantities, sum_of_values, merge_residual}
use Rattle.requests.specs.declared.Held.{Held}
use Rattle.verdict.proofs.Remaining.{◌past◌}
use Rattle.merge_sources.specs.Sources.{sources_in, source_records}
use Rattle.merge_sources.specs.declared.Source.{Source}
use Rattle.merge_sources.proofs.MergeFacts.{figures-count}
use Rattle.merge_sources.proofs.MergeVerdict.{merge_position, MergeFrom, merge-tests}
use Rattle.merge_sources.proofs.SourceSums.{sources-averageable}
use Rattle.merge_sources.proofs.SumRanges.{residual-small}
use Rattle.merge.specs.SourcesFound.{SourcesFound}
use Rattle.merge.specs.SourcesPass.{SourcesPass}

module _ {rs ps : List ℤ} {held : Held} {id account series : ℤ} {list : List ℤ} {kept : List Source} (found : SourcesFound rs ps held id account series list kept) where
  pub count : (2 ≤ length list / 2) × (length list ≤ 2000)
  count = figures-count id account series list found.figures-valid

  pub at_6 : MergeFrom rs ps id account series list 6
  unfolding is_some
  at_6 =
      merge-tests rs ps id account series list
      past ap not found.figures-valid
      past ap is_some found.id-new
      past not-true (any_of (map is_missing (sources_in rs list))) found.all-there

  pub at_11 : SourcesPass rs account series list → MergeFrom rs ps id account series list 11
  at_11 p = at_6 past p.none-elsewhere past p.all-adjustable past p.none-to-close past p.none-repeated past p.one-side

  -- ---- the sums

  module _ (p : SourcesPass rs account series list) (least : lt_z (pos most_quantity) (sum_of_quantities (source_records rs list)) ≡ false) where
    abbrev sources : List Record
    sources = source_records rs list

    pub sum_small : sum_of_quantities (source_records rs list) ≤ℤ pos most_quantity
    sum_small = omega (zarith, least)

    pub averageable : Averageable (sum_of_values (source_records rs list)) (sum_of_quantities (source_records rs list))
    averageable = sources-averageable rs list found.records-sound found.all-there p.all-adjustable sum_small (omega (arith, count.0))

    small-residual : magnitude_at_most 1000000 (merge_residual sources) ≡ true
    unfolding merge_residual
    small-residual = residual-small _ (sum_of_values sources) (sum_of_quantities sources) averageable

    pub movable : (m : Movement) (residual : ℤ) → residual ≡ merge_residual (source_records rs list) → m ≡ by_residual residual → MovedReady held.position m
    movable m residual r e =
        rw (found.position-known.read_is, e ∙ ap by_residual r)
        (merge-moves (position_read ps account series) (merge_residual sources) (position-read-sound ps found.positions-sound account series) small-residual)

    pub left-of : (m : Movement) (left : Position) (residual : ℤ) → residual ≡ merge_residual (source_records rs list) → m ≡ by_residual residual → left ≡ moved held.position m →
        left ≡ merge_position ps account series (source_records rs list)
    left-of m left residual r e f = f ∙ ap₂ (λ (x : Position) (y : Movement). moved x y) found.position-known.read_is (e ∙ ap by_residual r)

-- The residual of the code's figures.
pub residual-of : (rs : List Record) (value quantity residual : ℤ) (buy : Bool) → value ≡ sum_of_values rs → quantity ≡ sum_of_quantities rs →
    buy ≡ is_buy (first_of rs).side → residual ≡ residual_of buy value quantity → residual ≡ merge_residual rs
unfolding merge_residual
residual-of rs value quantity residual buy v q b r = r ∙ (λ i. residual_of (b i) (v i) (q i))
