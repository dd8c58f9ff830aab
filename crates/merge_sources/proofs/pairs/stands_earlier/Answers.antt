use Rattle.std.proofs.Common.{rules, tests, ◌≡◌, map, List, [], ◌∷◌, refl, ◌∙◌, Bool, ℤ, get_or, take}
use Rattle.std.specs.List.{list_any}
use Rattle.std.proofs.lemmas.Iterator.{YieldsList-from_slice}
use Rattle.std.proofs.lemmas.Iterator.Search.{any_from_yields_List}
use Rattle.rules.specs.Keyed.{same}
use Rattle.rules.specs.Merge.{is_among}
use Rattle.merge_sources.specs.Pairs.{pair_of}
use Rattle.merge_sources.proofs.pairs.stands_earlier.Goals as goal

abbrev test : List ℤ → List ℤ → Bool
test pair other = same (pair_of pair) (pair_of other)

among : (pair : List ℤ) (list : List (List ℤ)) → list_any (test pair) list ≡ is_among (pair_of pair) (map pair_of list)
unfolding is_among
among pair [] = refl
among pair (other ∷ rest) = rw (among pair rest) refl

pub returns : goal.returns
returns c =
    let pair = get_or c.args.list.now c.args.place [] in
    any_from_yields_List (test pair) _ _ c.any.result c.any.ensures.ran (YieldsList-from_slice (take c.args.place c.args.list.now) cc) (λ x b q k. search (rules, tests))
    ∙ among pair (take c.args.place c.args.list.now)
