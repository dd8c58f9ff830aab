-- No search finds every place in fewer steps than halving takes: each step parts the places in two, so n steps tell at most 2 ^ n places apart; and halving finds them all. Of
-- 4,096 rows, which have 4,097 places, 12 steps can't find each, and 13 do. By induction on the search, and on the steps. Assumes nothing.
use Prim.Native.Nat.{ℕ, zero, suc, ◌+◌, ◌-◌, ◌/◌, ◌^◌, ◌≤◌, ◌<◌, max, min}
use mathlib.Core.Path.{◌≡◌, refl, sym, ◌∙◌}
use mathlib.Core.Bool.{true, false}
use mathlib.Core.Logic.{◌⊎◌, inl, inr}
use native.Mathlib.Nat.{two-pow-succ, le-max_left, le-max_right}
use native.Mathlib.Omega.{arith}
use lib.Dec.{leb}
use lib.Pow.{pow_mono}
use borrow.Author.Tests.{leb-true, leb-false, le-leb, lt-leb}
use Rattle.keys.proofs.Split.{split, cond-true, cond-false}
use Rattle.lookup.specs.Steps.{halvings}
use Rattle.lookup.specs.AnySearch.{Search, answer, look, steps_of, answered, FindsAll, by_halving}
use Rattle.lookup.proofs.Steps.{halvings-within, within-halvings, halvings-of-full-tables}

-- ---- what a step says

module _ (row : ℕ) (before otherwise : Search) (place : ℕ) where
  look-before : place ≤ row → answered (look row before otherwise) place ≡ answered before place
  unfolding answered
  look-before h = cond-true (answered before place) (answered otherwise place) (le-leb place row h)

  look-otherwise : row < place → answered (look row before otherwise) place ≡ answered otherwise place
  unfolding answered
  look-otherwise h = cond-false (answered before place) (answered otherwise place) (lt-leb place row h)

-- ---- how many places a search tells apart

-- From `low` to `high`, all of which it finds.
few-places : (s : Search) (low high : ℕ) → ((place : ℕ) → low ≤ place → place ≤ high → answered s place ≡ place) → high < low + 2 ^ steps_of s
unfolding steps_of answered
few-places (answer place) low high finds = go (split (leb low high))
  where
    go : (leb low high ≡ true) ⊎ (leb low high ≡ false) → high < low + 2 ^ 0
    go (inl t) = let h : low ≤ high = leb-true low high t in omega (arith, finds low (omega arith) h, finds high h (omega arith))
    go (inr t) = omega (arith, leb-false low high t)
few-places (look row before otherwise) low high finds =
    omega (
      arith,
      few-places before low (min high row) (λ place h g. sym (look-before row before otherwise place (omega arith)) ∙ finds place h (omega arith)),
      few-places otherwise (max low (suc row)) high (λ place h g. sym (look-otherwise row before otherwise place (omega arith)) ∙ finds place (omega arith) g),
      two-pow-succ (max (steps_of before) (steps_of otherwise)),
      pow_mono (le-max_left (steps_of before) (steps_of otherwise)),
      pow_mono (le-max_right (steps_of before) (steps_of otherwise)),
    )

places-told-apart : (s : Search) (rows : ℕ) → FindsAll s rows → rows < 2 ^ steps_of s
places-told-apart s rows finds = omega (arith, few-places s 0 rows (λ place h g. finds place (omega arith)))

-- ---- halving finds them

halved : (steps low left place : ℕ) → left < 2 ^ steps → low ≤ place → place ≤ low + left → answered (by_halving steps low left) place ≡ place
unfolding by_halving answered
halved zero low left place h g b = omega arith
halved (suc steps) low left place h g b = go (split (leb place (past - 1))) (λ low'. halved steps low' (left / 2) place (omega (arith, two-pow-succ steps)))
  where
    past : ℕ
    past = low + (left - left / 2)

    go : (leb place (past - 1) ≡ true) ⊎ (leb place (past - 1) ≡ false)
        → ((low' : ℕ) → low' ≤ place → place ≤ low' + left / 2 → answered (by_halving steps low' (left / 2)) place ≡ place)
        → answered (by_halving (suc steps) low left) place ≡ place
    go (inl t) half =
        look-before (past - 1) (by_halving steps low (left / 2)) (by_halving steps past (left / 2)) place (leb-true place (past - 1) t)
        ∙ half low g (omega (arith, leb-true place (past - 1) t))
    go (inr t) half =
        look-otherwise (past - 1) (by_halving steps low (left / 2)) (by_halving steps past (left / 2)) place (leb-false place (past - 1) t)
        ∙ half past (omega (arith, leb-false place (past - 1) t)) (omega arith)

halving-steps : (steps low left : ℕ) → steps_of (by_halving steps low left) ≡ steps
unfolding by_halving steps_of
halving-steps zero low left = refl
halving-steps (suc steps) low left =
    omega (arith, halving-steps steps low (left / 2), halving-steps steps (low + (left - left / 2)) (left / 2))

-- ---- so halving is the shortest

pub no-search-is-shorter : (s : Search) (rows : ℕ) → FindsAll s rows → halvings rows ≤ steps_of s
no-search-is-shorter s rows finds = halvings-within (steps_of s) rows (places-told-apart s rows finds)

pub halving-finds-all : (rows : ℕ) → FindsAll (by_halving (halvings rows) 0 rows) rows × (steps_of (by_halving (halvings rows) 0 rows) ≡ halvings rows)
halving-finds-all rows = (λ place h. halved (halvings rows) 0 rows place (within-halvings rows) (omega arith) (omega arith), halving-steps (halvings rows) 0 rows)

-- ---- of 4,096 rows

pub twelve-steps-do-not : (s : Search) → FindsAll s 4096 → 12 < steps_of s
twelve-steps-do-not s finds = omega (arith, no-search-is-shorter s 4096 finds, halvings-of-full-tables.0)

-- Stopped after 12 steps, halving answers 4,095 for a key that belongs after all rows; a step more, and it has its place.
pub one-step-short : (answered (by_halving 12 0 4096) 4096 ≡ 4095) × (answered (by_halving 13 0 4096) 4096 ≡ 4096)
unfolding by_halving answered
one-step-short = (refl, refl)
