-- The list of a separation and of a merge that pass test 3 is short enough for a line. By the counts of the rules. Assumes nothing.
use Prim.Native.Nat.{◌%◌, ◌≤◌}
use mathlib.Core.Path.{◌≡◌}
use mathlib.Core.Bool.{Bool, true, ◌&&◌}
use mathlib.Core.List.{List, map}
use native.Mathlib.Omega.{arith}
use borrow.Author.Tests.{eqb-true}
use lib.Dec.{eqb}
use lib.IntN.{ℤ}
use lib.ListN.{length}
use Rattle.lines.proofs.ShortFigures.{count_most, pairs-count}
use Rattle.keys.proofs.Split.{and_left, and_right}
use Rattle.rules.specs.Figures.{valid_id, valid_suffix, valid_account, valid_series, valid_quantity, valid_count}
use Rattle.rules.specs.Refusal.{all_of}
use Rattle.rules.specs.Request.{separate, merge}
use Rattle.rules.specs.Separation.{separation_figures}
use Rattle.rules.specs.Merge.{pairs_of, valid_pair, merge_figures}
use Rattle.rules.specs.Line.{passes_test3}

pub parts-few : (id suffix account series : ℤ) (parts : List ℤ) → passes_test3 (separate id suffix account series parts) ≡ true → length parts ≤ 2000
unfolding passes_test3 separation_figures
parts-few id suffix account series parts h =
    let figures : Bool = valid_id id && valid_suffix suffix && valid_account account && valid_series series in
    let counted : (figures && valid_count (length parts)) ≡ true = and_left (figures && valid_count (length parts)) (all_of (map valid_quantity parts)) h in
    omega (arith, count_most (length parts) (and_right figures (valid_count (length parts)) counted))

pub pairs-few : (id account series : ℤ) (pairs : List ℤ) → passes_test3 (merge id account series pairs) ≡ true → length pairs ≤ 2000
unfolding passes_test3 merge_figures
pairs-few id account series pairs h =
    let figures : Bool = valid_id id && valid_account account && valid_series series in
    let even : Bool = eqb (length pairs % 2) 0 in
    let count : Bool = valid_count (length (pairs_of pairs)) in
    let counted : (figures && even && count) ≡ true = and_left (figures && even && count) (all_of (map valid_pair (pairs_of pairs))) h in
    let evenly : length pairs % 2 ≡ 0 = eqb-true (length pairs % 2) 0 (and_right figures even (and_left (figures && even) count counted)) in
    omega (arith, count_most (length (pairs_of pairs)) (and_right (figures && even) count counted), pairs-count pairs evenly)
