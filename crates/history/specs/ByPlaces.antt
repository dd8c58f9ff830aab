-- A reordering written as the list of old places, as a test: no place twice, each within the old list, as many as it has, and of two places whose items touch the smaller first.
use Rattle.std.specs.Prelude.{ℕ, Bool, true, not, ◌&&◌, ◌||◌, List, [], ◌∷◌, map, eqb, ltb, length, get_or}
use Rattle.rules.specs.Refusal.{all_of}

-- The relation holds of every two items, the earlier first.
unfoldable pub each_two : {A : Type 0} → (A → A → Bool) → List A → Bool
each_two r [] = true
each_two r (x ∷ rest) = all_of (map (r x) rest) && each_two r rest

-- `other` stands for an item past the end; no place that is tested needs it.
module _ {Item : Type 0} (touches : Item → Item → Bool) (other : Item) (old : List Item) where
  -- Two places, the first of which stands earlier in the new order.
  unfoldable pub may_stand : ℕ → ℕ → Bool
  may_stand p q = not (eqb p q) && (not (touches (get_or old p other) (get_or old q other)) || ltb p q)

  unfoldable pub is_order : List ℕ → Bool
  is_order places = eqb (length places) (length old) && all_of (map (λ (p : ℕ). ltb p (length old)) places) && each_two may_stand places

  abbrev pub in_order : List ℕ → List Item
  in_order places = map (λ (p : ℕ). get_or old p other) places
