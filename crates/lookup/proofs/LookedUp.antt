-- What the lookup says of a key, from what its code has seen: the place where the rows of the key's first figure end, the last of these rows, and the row with the key
-- among the rows up to there. By the laws of the place, read from the cells. Assumes nothing.
use Prim.Native.Nat.{ℕ, zero, suc, ◌+◌, ◌*◌, ◌≤◌, ◌<◌}
use mathlib.Core.Path.{◌≡◌, refl, sym, ap, ap₂, ◌∙◌}
use mathlib.Core.Bool.{true, false}
use mathlib.Core.List.{List, [], ◌∷◌}
use mathlib.Core.Logic.{◌⊎◌, inl, inr}
use mathlib.Core.Option.{Option, none, some}
use native.Mathlib.Nat.{eq-or-lt_of_le, lt_of_not-le, mul-le-mul_right}
use native.Mathlib.Omega.{arith}
use lib.IntN.{ℤ, pos, ◌+ℤ◌}
use lib.ListN.{get_or, take}
use lib.Signed.{lt_z}
use mir.Syntax.{w64}
use mir.Val.{SFits}
use Rattle.integers.proofs.Linear.{zarith, +-lin}
use Rattle.rules.specs.Keyed.{Key, below, same, rising, greatest}
use Rattle.rules.specs.Rows.{key_of}
use Rattle.rules.specs.NamedRecord.{next_suffix}
use Rattle.rules.specs.Layout.{decode}
use Rattle.cells.proofs.Decode.{take-decode}
use Rattle.keys.proofs.Split.{clash, is_false}
use Rattle.keys.proofs.Clauses.{below_all, all_of-nil}
use Rattle.keys.proofs.KeyOrder.{same-eq, below-asym, below-major, below-minor, below-cases}
use Rattle.keys.proofs.Rising.{below_all-head, below_all-tail, below_all-intro, rising-tail, rising-head, rising-intro}
use Rattle.lookup.specs.Lookup.{key_at, row_from, place_from, found_or, greatest_found, the_greatest, sought_as, sought_among, row_found, row_place, row_sought, Searchable}
use Rattle.lookup.specs.Found.{Found}
use Rattle.lookup.specs.Greatest.{Suffix, Nothing}
use Rattle.lookup.specs.Sought as Sought
use Rattle.lookup.proofs.RowFound.{row_told, absent-told}
use Rattle.lookup.proofs.RisingKeys.{at_place, before-place}
use Rattle.lookup.proofs.Halving.{keys-count, row-key, place-at-most, place-to, place-past}
use Rattle.lookup.proofs.RowBefore.{last_key, row_at, row_of, no_row, suffix-before, nothing-before, nothing-first, place-to-end}

-- ---- the first rows of a table

below_all-front : (k : Key) (n : ℕ) (keys : List Key) → below_all (λ e. e) k keys ≡ true → below_all (λ e. e) k (take n keys) ≡ true
below_all-front k zero keys a = all_of-nil
below_all-front k (suc n) [] a = a
below_all-front k (suc n) (e ∷ rest) a =
    below_all-intro (λ e. e) k e (take n rest) (below_all-head (λ e. e) k e rest a) (below_all-front k n rest (below_all-tail (λ e. e) k e rest a))

rising-front : (n : ℕ) (keys : List Key) → rising (λ e. e) keys ≡ true → rising (λ e. e) (take n keys) ≡ true
unfolding rising
rising-front zero keys h = refl
rising-front (suc n) [] h = h
rising-front (suc n) (e ∷ rest) h =
    rising-intro (λ e. e) e (take n rest) (below_all-front e n rest (rising-head (λ e. e) e rest h)) (rising-front n rest (rising-tail (λ e. e) e rest h))

-- Where a table can be searched, so can its first rows.
pub front-searchable : (header width count end : ℕ) (cells : List ℤ) → end ≤ count → Searchable header width count cells → Searchable header width end cells
front-searchable header width count end cells h s = record {
  key-within = s.key-within;
  few-rows = omega (arith, s.few-rows);
  rows-within = omega (arith, s.rows-within, mul-le-mul_right width h);
  keys-rise =
      ap (rising (λ e. e)) (sym (take-decode key_at width end count header cells h)) ∙ rising-front end (decode key_at width count header cells) s.keys-rise;
}

-- What a search among the first rows says of a key that belongs there is so of the whole table.
module _ (cells : List ℤ) (header width count end : ℕ) (within : end ≤ count) (s : Searchable header width count cells)
    (k : Key) (belongs : row_place header width k count cells ≤ end) where
  abbrev front : Searchable header width end cells
  front = front-searchable header width count end cells within s

  abbrev p : ℕ
  p = row_place header width k end cells

  abbrev q : ℕ
  q = row_place header width k count cells

  -- The key at a place is above, and those before it are not, of each of the two.
  key-at : (n : ℕ) → row_place header width k n cells < n → below k (key_at cells (header + row_place header width k n cells * width)) ≡ true
  key-at n h =
      ap (below k) (sym (row-key cells header width n (row_place header width k n cells) k h))
      ∙ at_place k (decode key_at width n header cells) k (omega (arith, keys-count cells header width n))

  key-before : (n row : ℕ) → row < row_place header width k n cells → below k (key_at cells (header + row * width)) ≡ false
  key-before n row h =
      ap (below k) (sym (row-key cells header width n row k (omega (arith, place-at-most cells header width n k))))
      ∙ before-place k (decode key_at width n header cells) row k h

  place-front : p ≡ q
  place-front = omega (arith, low, high (eq-or-lt_of_le (place-at-most cells header width end k)))
    where
      high : (p ≡ end) ⊎ (p < end) → q ≤ p
      high (inl e) = omega (arith, belongs)
      high (inr h) = place-to cells header width count k p (omega (arith, within)) (key-at end h)

      low : p ≤ q
      low =
          omega (
            arith,
            lt_of_not-le (λ (h : suc q ≤ p). clash (key-at count (omega (arith, within, place-at-most cells header width end k))) (key-before end q h)),
          )

  row-front : (row : ℕ) → row_from 0 k (decode key_at width end header cells) ≡ some row → row_from 0 k (decode key_at width count header cells) ≡ some row
  row-front row e =
      let w : (row_place header width k end cells ≡ suc row) × (row < end) × (same (key_at cells (header + row * width)) k ≡ true) = row_of cells header width end front.keys-rise k row e in
      row_at cells header width count s.keys-rise k row (omega (arith, w.1, within)) w.2

  none-front : row_from 0 k (decode key_at width end header cells) ≡ none → row_from 0 k (decode key_at width count header cells) ≡ none
  none-front e =
      no_row cells header width count s.keys-rise k
      (λ row at t. let z : ◌≡◌ {A = ℕ} 0 1 = cc (row_at cells header width end front.keys-rise k row (omega (arith, at, belongs)) t) in omega arith)

  pub found_front : (f : Found) → f ≡ row_found header width k end cells → f ≡ row_found header width k count cells
  found_front f e = e ∙ go (row_from 0 k (decode key_at width end header cells)) refl
    where
      go : (o : Option ℕ) → row_from 0 k (decode key_at width end header cells) ≡ o → row_found header width k end cells ≡ row_found header width k count cells
      go (some row) r = ap₂ found_or (r ∙ sym (row-front row r)) place-front
      go none r = ap₂ found_or (r ∙ sym (none-front r)) place-front

-- ---- what is said of a key

-- By the row with the key, where it belongs, and the greatest second figure.
said : (k : Key) (keys : List Key) (o : Option ℕ) (g : Option ℤ) → row_from 0 k keys ≡ o → greatest (λ e. e) k.major keys ≡ g
    → sought_among k keys ≡ sought_as o (place_from 0 k keys) g (place_from 0 (key_of k.major (next_suffix g)) keys)
said k keys o g r e = rw (r, e)

module _ (cells : List ℤ) (header width count : ℕ) (s : Searchable header width count cells) (m minor : ℤ)
    (fits : row_place header width (last_key m) count cells < count → SFits w64 (get_or cells (header + row_place header width (last_key m) count cells * width + 1) (pos 0))) where
  abbrev keys : List Key
  keys = decode key_at width count header cells

  abbrev k : Key
  k = key_of m minor

  -- Where the rows of the first figure end.
  abbrev end : ℕ
  end = row_place header width (last_key m) count cells

  to_end : (z : ℤ) → row_place header width (key_of m z) count cells ≤ end
  to_end z = place-to-end cells header width count s.keys-rise m fits z

  end-within : end ≤ count
  end-within = place-at-most cells header width count (last_key m)

  -- No row has the first figure: the key belongs where its rows would end.
  nothing_said : row_from 0 k keys ≡ none → greatest (λ e. e) m keys ≡ none → row_place header width k count cells ≡ end
      → row_sought header width k count cells ≡ Sought.Absent end Nothing
  unfolding sought_as greatest_found
  nothing_said r g e = said k keys none none r g ∙ ap (λ (p : ℕ). Sought.Absent p Nothing) e

  pub said-first : end ≡ 0 → row_sought header width k count cells ≡ Sought.Absent end Nothing
  said-first e =
      nothing_said (no_row cells header width count s.keys-rise k (λ row at t. omega (arith, to_end minor)))
      (nothing-first cells header width count s.keys-rise m fits e) (omega (arith, to_end minor))

  -- The last row up to there.
  module _ (row : ℕ) (e : end ≡ suc row) where
    abbrev first : ℤ
    first = get_or cells (header + row * width) (pos 0)

    abbrev second : ℤ
    second = get_or cells (header + row * width + 1) (pos 0)

    one_of : row < count
    one_of = omega (arith, end-within)

    -- A key of the first figure that is not below that row's belongs at the end.
    at-end : (z : ℤ) → below (key_of m z) (key_at cells (header + row * width)) ≡ false → row_place header width (key_of m z) count cells ≡ end
    at-end z b = omega (arith, to_end z, place-past cells header width count (key_of m z) row one_of s.keys-rise b)

    module _ (other : first ≡ m → ⊥) where
      not-below : below k (key_at cells (header + row * width)) ≡ false
      not-below = is_false (below k (key_at cells (header + row * width))) (λ t. go (below-cases k (key_at cells (header + row * width)) t))
        where
          go : (lt_z m first ≡ true) ⊎ ((m ≡ first) × (lt_z minor second ≡ true)) → ⊥
          go (inl l) = omega (arith, place-to cells header width count (last_key m) row one_of (below-major (last_key m) (key_at cells (header + row * width)) l))
          go (inr w) = other (sym w.0)

      pub said-nothing : row_sought header width k count cells ≡ Sought.Absent end Nothing
      said-nothing =
          nothing_said
          (no_row cells header width count s.keys-rise k
          (λ i at t.
          let j : row ≡ i = omega (arith, at-end minor not-below) in
          other (ap (λ (n : ℕ). get_or cells (header + n * width) (pos 0)) j ∙ ap (λ (x : Key). x.major) (same-eq (key_at cells (header + i * width)) k t))))
          (nothing-before cells header width count s.keys-rise m fits row e other)
          (at-end minor not-below)

    module _ (own : first ≡ m) where
      figures : greatest (λ e. e) m keys ≡ some second
      figures = suffix-before cells header width count s.keys-rise m fits row e own

      next_place : row_place header width (key_of m (second +ℤ pos 1)) count cells ≡ end
      next_place =
          at-end (second +ℤ pos 1)
          (below-asym (key_at cells (header + row * width)) (key_of m (second +ℤ pos 1))
          (below-minor (key_at cells (header + row * width)) (key_of m (second +ℤ pos 1)) own (omega (zarith, +-lin second (pos 1)))))

      whole : (f : Found) → f ≡ row_found header width k end cells → f ≡ row_found header width k count cells
      whole f h = found_front cells header width count end end-within s k (to_end minor) f h

      pub said-present : (i : ℕ) → Found.Row i ≡ row_found header width k end cells → row_sought header width k count cells ≡ Sought.Present i second end
      unfolding sought_as the_greatest next_suffix
      said-present i f =
          said k keys (some i) (some second) (row_told (row_from 0 k keys) _ i (sym (whole (Found.Row i) f))) figures ∙ ap (Sought.Present i second) next_place

      pub said-absent : (p : ℕ) → Found.Absent p ≡ row_found header width k end cells → row_sought header width k count cells ≡ Sought.Absent p (Suffix second)
      unfolding sought_as greatest_found
      said-absent p f =
          let w : (row_from 0 k keys ≡ none) × (row_place header width k count cells ≡ p) = absent-told (row_from 0 k keys) _ p (sym (whole (Found.Absent p) f)) in
          said k keys none (some second) w.0 figures ∙ ap (λ (n : ℕ). Sought.Absent n (Suffix second)) w.1
