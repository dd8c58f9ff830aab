-- One step of the search by halving: the key of any row says on which side of it the place lies. By the keys that rise, read from the cells.
-- Assumes nothing.
use Prim.Native.Nat.{ℕ, ◌+◌, ◌*◌, ◌≤◌, ◌<◌}
use mathlib.Core.Path.{◌≡◌, sym, ap, ◌∙◌}
use mathlib.Core.Bool.{true, false}
use mathlib.Core.List.{List}
use native.Mathlib.Nat.{mul-le-mul_right}
use native.Mathlib.Omega.{arith}
use lib.IntN.{ℤ}
use lib.ListN.{length, get_or}
use Rattle.rules.specs.Keyed.{Key, below}
use Rattle.rules.specs.Layout.{decode}
use Rattle.cells.proofs.Decode.{length-decode, get_or-decode}
use Rattle.keys.proofs.Split.{clash}
use Rattle.keys.proofs.KeyOrder.{Way, lower, level, upper, way}
use Rattle.lookup.specs.Lookup.{key_at, row_place, keys_rise, Searchable}
use Rattle.lookup.proofs.RisingKeys.{place_in, above-from-place, not-above-before, just-before}

-- The key of a row lies within the table.
pub row_within : (header width count : ℕ) (cells : List ℤ) → Searchable header width count cells → (row : ℕ) → row < count → header + row * width + 1 < length cells
row_within header width count cells s row h = omega (arith, mul-le-mul_right width h)

module _ (cells : List ℤ) (header width count : ℕ) where
  pub keys-count : length (decode key_at width count header cells) ≡ count
  keys-count = length-decode key_at width count header cells

  pub row-key : (row : ℕ) (other : Key) → row < count → get_or (decode key_at width count header cells) row other ≡ key_at cells (header + row * width)
  row-key row other h = get_or-decode key_at width count header cells row other h

  pub place-at-most : (k : Key) → row_place header width k count cells ≤ count
  place-at-most k = omega (arith, place_in k (decode key_at width count header cells), keys-count)

  module _ (k : Key) (row : ℕ) (h : row < count) where
    -- The row's key, as the place's laws read it.
    tested : below k (get_or (decode key_at width count header cells) row k) ≡ below k (key_at cells (header + row * width))
    tested = ap (below k) (row-key row k h)

    pub place-to : below k (key_at cells (header + row * width)) ≡ true → row_place header width k count cells ≤ row
    place-to s = above-from-place k (decode key_at width count header cells) row k (tested ∙ s)

    pub place-past : keys_rise header width count cells ≡ true → below k (key_at cells (header + row * width)) ≡ false → row < row_place header width k count cells
    place-past rises s = not-above-before (decode key_at width count header cells) rises k row k (omega (arith, keys-count)) (tested ∙ s)

    -- A key that is not above the row's belongs just past the row or before that.
    pub place-just-past : keys_rise header width count cells ≡ true → below (key_at cells (header + row * width)) k ≡ false → row_place header width k count cells ≤ row + 1
    place-just-past rises s = go (way k (key_at cells (header + row * width)))
      where
        go : Way k (key_at cells (header + row * width)) → row_place header width k count cells ≤ row + 1
        go (lower b _ _) = omega (arith, place-to b)
        go (level e _ _ _) = omega (arith, just-before (decode key_at width count header cells) rises k row k (omega (arith, keys-count)) (row-key row k h ∙ sym e))
        go (upper a _ _) = clash a s
