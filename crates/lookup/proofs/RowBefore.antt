-- Where keys rise, what a search looks for can only stand in the row before a place: the row with a key before the key's place, and the greatest second
-- figure of a first figure before the place of the last key with that first figure. By the laws of the place, read from the cells. Assumes nothing.
use Prim.Native.Nat.{ℕ, suc, ◌+◌, ◌*◌, ◌≤◌, ◌<◌}
use mathlib.Core.Path.{◌≡◌, refl, sym, ap, ◌∙◌}
use mathlib.Core.Bool.{true, false}
use mathlib.Core.List.{List}
use mathlib.Core.Option.{Option, none, some}
use mathlib.Core.Logic.{◌⊎◌, inl, inr}
use native.Mathlib.Nat.{eq-or-lt_of_le}
use native.Mathlib.Omega.{arith}
use lib.IntN.{ℤ, pos}
use lib.ListN.{length, get_or}
use lib.Signed.{lt_z}
use mir.Syntax.{w64}
use mir.Val.{SFits}
use Rattle.integers.proofs.Linear.{zarith}
use Rattle.rules.specs.Keyed.{Key, same, greatest}
use Rattle.rules.specs.Rows.{key_of}
use Rattle.rules.specs.Layout.{decode}
use Rattle.keys.proofs.Split.{clash}
use Rattle.keys.proofs.KeyOrder.{same-eq, eq-same, below-major}
use Rattle.lookup.specs.Lookup.{key_at, row_from, found_or, row_found, row_place, keys_rise}
use Rattle.lookup.specs.Found as Found
use Rattle.lookup.proofs.RisingKeys.{found-there, found-place, above-from-place}
use Rattle.lookup.proofs.GreatestPlace.{greater-at, greatest-there, no-greatest}
use Rattle.lookup.proofs.Halving.{keys-count, row-key, place-at-most}

-- The greatest figure that a cell can have, and so the last key of a first figure.
abbrev pub top_figure : ℤ
top_figure = pos 9223372036854775807

abbrev pub last_key : ℤ → Key
last_key m = key_of m top_figure

module _ (cells : List ℤ) (header width count : ℕ) (rises : keys_rise header width count cells ≡ true) where
  abbrev keys : List Key
  keys = decode key_at width count header cells

  -- ---- the row with a key

  module _ (k : Key) where
    -- A row that has the key is the row with the key.
    pub row_at : (row : ℕ) → row < count → same (key_at cells (header + row * width)) k ≡ true → row_from 0 k keys ≡ some row
    row_at row h s =
        let e : get_or keys row k ≡ k = row-key cells header width count row k h ∙ same-eq (key_at cells (header + row * width)) k s in
        ap (λ (x : Key). row_from 0 x keys) (sym e) ∙ found-there keys row k rises (omega (arith, keys-count cells header width count))

    -- The row with the key has it, and stands before the place.
    pub row_of : (row : ℕ) → row_from 0 k keys ≡ some row
        → (row_place header width k count cells ≡ suc row) × (row < count) × (same (key_at cells (header + row * width)) k ≡ true)
    row_of row e =
        let w : (row_place header width k count cells ≡ suc row) × (row < length keys) × (get_or keys row k ≡ k) = found-place keys k row rises e in
        let b : row < count = omega (arith, w.1, keys-count cells header width count) in
        (w.0, b, eq-same (key_at cells (header + row * width)) k (sym (row-key cells header width count row k b) ∙ w.2))

    pub no_row : ((row : ℕ) → row_place header width k count cells ≡ suc row → same (key_at cells (header + row * width)) k ≡ true → ⊥) → row_from 0 k keys ≡ none
    no_row not = go (row_from 0 k keys) refl
      where
        go : (o : Option ℕ) → row_from 0 k keys ≡ o → row_from 0 k keys ≡ none
        go none e = e
        go (some i) e = absurd (not i (row_of i e).0 (row_of i e).2)

    pub found_at : (row : ℕ) → row < count → same (key_at cells (header + row * width)) k ≡ true → row_found header width k count cells ≡ Found.Row row
    unfolding found_or
    found_at row h s = ap (λ (o : Option ℕ). found_or o (row_place header width k count cells)) (row_at row h s)

    absent : row_from 0 k keys ≡ none → row_found header width k count cells ≡ Found.Absent (row_place header width k count cells)
    unfolding found_or
    absent e = ap (λ (o : Option ℕ). found_or o (row_place header width k count cells)) e

    pub absent-before : (row : ℕ) → row_place header width k count cells ≡ suc row → same (key_at cells (header + row * width)) k ≡ false
        → row_found header width k count cells ≡ Found.Absent (row_place header width k count cells)
    absent-before row p s = absent (no_row (λ i q t. let e : i ≡ row = omega arith in clash (ap (λ (n : ℕ). same (key_at cells (header + n * width)) k) (sym e) ∙ t) s))

    pub absent-first : row_place header width k count cells ≡ 0 → row_found header width k count cells ≡ Found.Absent (row_place header width k count cells)
    absent-first p = absent (no_row (λ i q t. omega arith))

  -- ---- the greatest second figure

  module _ (m : ℤ)
      (fits : row_place header width (last_key m) count cells < count → SFits w64 (get_or cells (header + row_place header width (last_key m) count cells * width + 1) (pos 0))) where
    abbrev place : ℕ
    place = row_place header width (last_key m) count cells

    not-above : (z : ℤ) → SFits w64 z → lt_z top_figure z ≡ false
    not-above z f = omega zarith

    bound : place < length keys → lt_z top_figure (get_or keys place (last_key m)).minor ≡ false
    bound h =
        let b : place < count = omega (arith, keys-count cells header width count) in
        ap (λ (k : Key). lt_z top_figure k.minor) (row-key cells header width count place (last_key m) b)
        ∙ not-above (get_or cells (header + place * width + 1) (pos 0)) (fits b)

    -- The key of the row before the place.
    key-before : (row : ℕ) → place ≡ suc row → get_or keys row (last_key m) ≡ key_at cells (header + row * width)
    key-before row p = row-key cells header width count row (last_key m) (omega (arith, place-at-most cells header width count (last_key m)))

    pub suffix-before : (row : ℕ) → place ≡ suc row → get_or cells (header + row * width) (pos 0) ≡ m
        → greatest (λ e. e) m keys ≡ some (get_or cells (header + row * width + 1) (pos 0))
    suffix-before row p e =
        greatest-there keys rises m top_figure bound row p (ap (λ (k : Key). k.major) (key-before row p) ∙ e) ∙ ap (λ (k : Key). some k.minor) (key-before row p)

    pub nothing-before : (row : ℕ) → place ≡ suc row → (get_or cells (header + row * width) (pos 0) ≡ m → ⊥) → greatest (λ e. e) m keys ≡ none
    nothing-before row p n =
        no-greatest keys rises m top_figure bound
        (λ i q e. let s : row ≡ i = omega arith in n (ap (λ (j : ℕ). get_or cells (header + j * width) (pos 0)) s ∙ sym (ap (λ (k : Key). k.major) (key-before i q)) ∙ e))

    pub nothing-first : place ≡ 0 → greatest (λ e. e) m keys ≡ none
    nothing-first p = no-greatest keys rises m top_figure bound (λ i q e. omega arith)

    -- Every key of the first figure belongs at this place or before it: from there on the first figure is greater.
    pub place-to-end : (s : ℤ) → row_place header width (key_of m s) count cells ≤ place
    place-to-end s = go (eq-or-lt_of_le (place-at-most cells header width count (last_key m)))
      where
        go : (place ≡ count) ⊎ (place < count) → row_place header width (key_of m s) count cells ≤ place
        go (inl h) = omega (arith, place-at-most cells header width count (key_of m s))
        go (inr h) =
            above-from-place (key_of m s) keys place (last_key m)
            (below-major (key_of m s) (get_or keys place (last_key m)) (greater-at keys rises m top_figure bound (omega (arith, keys-count cells header width count))))
