use Rattle.std.proofs.Common.{rules, tests, ◌≡◌, map, List, [], ◌∷◌, refl, ◌∙◌, Bool, ℤ}
use Rattle.std.specs.List.{list_all}
use Rattle.std.proofs.lemmas.Iterator.{YieldsList-from_slice}
use Rattle.std.proofs.lemmas.Iterator.Search.{all_from_yields_List}
use Rattle.rules.specs.Refusal.{all_of}
use Rattle.rules.specs.Merge.{valid_pair}
use Rattle.merge_sources.specs.Pairs.{pair_of}
use Rattle.merge_sources.proofs.pairs.pairs_valid.Goals as goal

abbrev test : List ℤ → Bool
test pair = valid_pair (pair_of pair)

all-pairs : (list : List (List ℤ)) → list_all test list ≡ all_of (map valid_pair (map pair_of list))
unfolding all_of
all-pairs [] = refl
all-pairs (pair ∷ rest) = rw (all-pairs rest) refl

pub returns : goal.returns
unfolding valid_pair
returns c =
    all_from_yields_List test _ _ c.all.result c.all.ensures.ran (YieldsList-from_slice c.args.list.now cc) (λ x b q k. search (rules, tests))
    ∙ all-pairs c.args.list.now
