-- Tables whose rows are found by a key of two figures: id and suffix of a record, account and series of a position.
-- Everything here is over any row type with a key; no definition needs the rows to be sorted.
use Rattle.std.specs.Prelude.{ℕ, ◌+◌, Bool, true, false, cond, ◌&&◌, ◌||◌, List, [], ◌∷◌, ℤ}
use Rattle.std.proofs.Math.Option.{Option, none, some}
use Rattle.std.specs.Int.Signed.{lt_z, le_z}
use Rattle.integers.specs.Order.{eq_z}

pub record Key : Type 0 where
  pub major : ℤ
  pub minor : ℤ

-- "by id and then suffix", "by account and then series": the first key comes before the second.
unfoldable pub below : Key → Key → Bool
below a b = lt_z a.major b.major || (eq_z a.major b.major && lt_z a.minor b.minor)

unfoldable pub same : Key → Key → Bool
same a b = eq_z a.major b.major && eq_z a.minor b.minor

unfoldable pub is_some : {A : Type 0} → Option A → Bool
is_some none = false
is_some (some a) = true

-- The greater of a number and another, where there is another.
unfoldable pub at_least : ℤ → Option ℤ → ℤ
at_least a none = a
at_least a (some b) = cond (le_z a b) b a

module _ {Row : Type 0} (key : Row → Key) where
  -- "rows strictly rise"
  unfoldable pub rising : List Row → Bool
  rising [] = true
  rising (r ∷ []) = true
  rising (r ∷ s ∷ rest) = below (key r) (key s) && rising (s ∷ rest)

  -- The row with that key.
  unfoldable pub find : Key → List Row → Option Row
  find k [] = none
  find k (r ∷ rest) = cond (same (key r) k) (some r) (find k rest)

  -- The greatest second figure among the keys with that first figure: the greatest suffix of an id.
  unfoldable pub greatest : ℤ → List Row → Option ℤ
  greatest m [] = none
  greatest m (r ∷ rest) = cond (eq_z (key r).major m) (some (at_least (key r).minor (greatest m rest))) (greatest m rest)

  -- "A new row goes where its key belongs; the rows above that place move up by one." A row whose key is there is replaced.
  unfoldable pub upsert : Row → List Row → List Row
  upsert new [] = new ∷ []
  upsert new (r ∷ rest) = cond (below (key new) (key r)) (new ∷ r ∷ rest) (cond (same (key new) (key r)) (new ∷ rest) (r ∷ upsert new rest))

  -- Rows put one after the other.
  unfoldable pub upsert_all : List Row → List Row → List Row
  upsert_all [] table = table
  upsert_all (new ∷ more) table = upsert_all more (upsert new table)

  -- How many of these rows have a key that the table lacks.
  unfoldable pub absent_from : List Row → List Row → ℕ
  absent_from table [] = 0
  absent_from table (r ∷ rest) = cond (is_some (find (key r) table)) 0 1 + absent_from table rest
