-- How many steps a search takes. Document 02, K6: "the lookup of K2 shall halve its range, each search in at most 13 steps, proved."
--
-- A search is a call of `lookup::place_of`; nothing else searches a table. A step is a turn of its loop, which looks at the key of one row (`before_row`). The loop has a fuel, 13 at first and one less
-- after each turn. The check refuses a subtraction that may wrap, so the loop that runs turns at most 13 times. That 13 suffice for every table that may be searched is shown by `halvings`.
--
-- A look at a row outside the loop is no step. These are all:
-- - `find_row` searches once, and then looks at the row before the place, unless the place is 0. At most 13 + 1 looks.
-- - `find_by_distance` looks at the row that the key has if the id's suffixes rise one by one. If that row has another key, it goes on as `find_row`. At most 1 + 14 looks.
-- - `look_up` searches for the end of the id's rows. It looks at the row at the end, if there is one: at its second figure, for its range alone; and at the row before the end, unless the end is 0, for the
--   greatest suffix. If that row is the id's, it goes on as `find_by_distance` among the rows up to the end; otherwise it has its answer. So it makes two searches at most, the second only where the id has a
--   row and the row by distance has another key, and at most 13 + 2 + 15 = 30 looks.
use Rattle.std.specs.Prelude.{ℕ, zero, suc, ◌/◌}

-- "shall halve its range": how often so many rows are halved, rounded down, until none is left. Each turn of the loop is one such halving, whatever the keys. It takes a row away at least, so there are no more
-- halvings than rows, which the first figure says.
unfoldable pub halvings_up_to : (most rows : ℕ) → ℕ
halvings_up_to zero rows = 0
halvings_up_to (suc most) zero = 0
halvings_up_to (suc most) (suc rows) = suc (halvings_up_to most (suc rows / 2))

unfoldable pub halvings : (rows : ℕ) → ℕ
halvings rows = halvings_up_to rows rows
