use Rattle.std.proofs.Common.{rules, tests, ◌≡◌, map, ◌∙◌, sym, length, ℕ, [], Bool, true, false, get_or, take}
use Rattle.std.proofs.lemmas.Iterator.{first_from_Range}
use Rattle.rules.specs.Merge.{pairs_of, is_among}
use Rattle.merge_sources.specs.Pairs.{pair_of, repeats_from, repeated_place}
use Rattle.merge_sources.proofs.PairList.{pair-count}
use Rattle.merge_sources.proofs.Places.{place-found}
use Rattle.merge_sources.proofs.Earlier.{repeat-count, repeat-listed}
use Rattle.merge_sources.proofs.pairs.first_repeated.Goals as goal

pub returns : goal.returns
unfolding repeated_place
returns c =
    let pairs = c.args.pairs.now in
    let list = c.in_pairs-list.result.now in
    let test : ℕ → Bool = λ i. is_among (pair_of (get_or list i [])) (map pair_of (take i list)) in
    place-found (repeats_from [] (pairs_of pairs)) test (length list) c.find.result (c.in_pairs-list.ensures.as_many ∙ pair-count pairs ∙ sym (repeat-count pairs)) (repeat-listed pairs list c.in_pairs-list.ensures.are_pairs)
    (first_from_Range _ _ _ c.find.result (λ i. test i ≡ true) (λ i. test i ≡ false) c.find.ensures.ran (λ x q k. search (rules, tests)) (λ x q k. search (rules, tests)))
