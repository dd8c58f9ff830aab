-- Any search for the place of a key: it looks at one row after another, is told of each whether the key comes before it, and answers a place. So it can be said that no search
-- does with fewer steps than halving.
use Rattle.std.specs.Prelude.{ℕ, zero, suc, ◌+◌, ◌-◌, ◌/◌, ◌≤◌, max, ◌≡◌, cond, leb}

-- It answers; or it looks at a row, and goes on by one search where the key comes before that row, and by another where it does not.
pub data Search : Type 0 where
  answer : (place : ℕ) → Search
  look : (row : ℕ) (before : Search) (otherwise : Search) → Search

-- The most steps that it takes.
unfoldable pub steps_of : Search → ℕ
steps_of (answer place) = 0
steps_of (look row before otherwise) = suc (max (steps_of before) (steps_of otherwise))

-- What it answers for a key that belongs at this place: such a key comes before the row at the place and all after it, and before no other.
unfoldable pub answered : Search → (place : ℕ) → ℕ
answered (answer told) place = told
answered (look row before otherwise) place = cond (leb place row) (answered before place) (answered otherwise place)

-- It finds every place of a table of so many rows, of which there is one more than rows.
abbrev pub FindsAll : Search → (rows : ℕ) → Type 0
FindsAll s rows = (place : ℕ) → place ≤ rows → answered s place ≡ place

-- The search by halving in the rows left from `low` on, stopped after so many steps. It looks where `lookup::place_of` does.
unfoldable pub by_halving : (steps low left : ℕ) → Search
by_halving zero low left = answer low
by_halving (suc steps) low left =
    let past : ℕ = low + (left - left / 2) in
    look (past - 1) (by_halving steps low (left / 2)) (by_halving steps past (left / 2))
