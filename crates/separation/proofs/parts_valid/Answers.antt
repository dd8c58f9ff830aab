-- `all` is the definition's conjunction.
use Rattle.std.proofs.Common.{◌≡◌, Bool, List, [], ◌∷◌, map, refl, ◌∙◌, rules, tests}
use Rattle.std.specs.List.{list_all}
use Rattle.std.proofs.lemmas.Iterator.{YieldsList-from_slice}
use Rattle.std.proofs.lemmas.Iterator.Search.{all_from_yields_List}
use Rattle.rules.specs.Figures.{valid_quantity}
use Rattle.rules.specs.Refusal.{all_of}
use Rattle.separation.proofs.parts_valid.Goals as goal

all_of-map : {A : Type 0} (test : A → Bool) (xs : List A) → list_all test xs ≡ all_of (map test xs)
unfolding all_of
all_of-map test [] = refl
all_of-map test (x ∷ xs) = rw (all_of-map test xs)

pub returns : goal.returns
returns c =
    let parts = c.args.parts.now in
    all_from_yields_List valid_quantity _ _ c.all.result c.all.ensures.ran (YieldsList-from_slice parts cc) (λ x b q k. search (rules, tests))
    ∙ all_of-map valid_quantity parts
