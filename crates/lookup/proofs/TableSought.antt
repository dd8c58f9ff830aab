-- What the lookup says of a key, in the rules' words: over any layout whose rows begin with their key. Assumes nothing.
use Prim.Native.Nat.{ℕ, ◌<◌}
use mathlib.Core.Path.{◌≡◌, refl, sym, ap, ◌∙◌}
use mathlib.Core.List.{List}
use mathlib.Core.Option.{Option, none, some}
use native.Mathlib.Omega.{arith}
use lib.IntN.{ℤ, nat_abs}
use lib.ListN.{length}
use lib.Signed.{le_z}
use mathlib.Core.Bool.{true}
use Rattle.rules.specs.Keyed.{Key, find, greatest}
use Rattle.rules.specs.Rows.{key_of}
use Rattle.rules.specs.NamedRecord.{next_suffix}
use Rattle.rules.specs.Layout.{Layout, count_of, decode, row_at, rows_of}
use Rattle.keys.proofs.Greatest.{found-greatest}
use Rattle.lookup.specs.Lookup.{key_at, row_from, place_from, found_or, greatest_found, the_greatest, sought_as, place_in, sought_in}
use Rattle.lookup.specs.SoughtRows.{PresentAt, AbsentAt}
use Rattle.lookup.specs.Greatest.{Greatest}
use Rattle.lookup.specs.Sought as Sought
use Rattle.lookup.proofs.RowFound.{absent-find, greatest-map}
use Rattle.lookup.proofs.TableLookup.{KeyFirst, table-keys, as_row, row-told-of}

-- The parts of an answer.
module _ (o : Option ℕ) (place : ℕ) (g : Option ℤ) (n : ℕ) where
  parts-present : (row : ℕ) (z : ℤ) (next : ℕ) → sought_as o place g n ≡ Sought.Present row z next → (o ≡ some row) × (the_greatest g ≡ z) × (n ≡ next)
  unfolding sought_as
  parts-present row z next e = go o refl
    where
      go : (p : Option ℕ) → o ≡ p → (o ≡ some row) × (the_greatest g ≡ z) × (n ≡ next)
      go none h = let z : ◌≡◌ {A = ℕ} 0 1 = cc (ap (λ (x : Option ℕ). sought_as x place g n) h) in absurd (omega arith)
      go (some i) h =
          let f : Sought.Present i (the_greatest g) n ≡ Sought.Present row z next = ap (λ (x : Option ℕ). sought_as x place g n) (sym h) ∙ e in
          (h ∙ ap some (cc), cc, cc)

  parts-absent : (p : ℕ) (f : Greatest) → sought_as o place g n ≡ Sought.Absent p f → (o ≡ none) × (place ≡ p) × (greatest_found g ≡ f)
  unfolding sought_as
  parts-absent p f e = go o refl
    where
      go : (x : Option ℕ) → o ≡ x → (o ≡ none) × (place ≡ p) × (greatest_found g ≡ f)
      go none h =
          let s : Sought.Absent place (greatest_found g) ≡ Sought.Absent p f = ap (λ (x : Option ℕ). sought_as x place g n) (sym h) ∙ e in
          (h, cc, cc)
      go (some i) h = let z : ◌≡◌ {A = ℕ} 0 1 = cc (ap (λ (x : Option ℕ). sought_as x place g n) h) in absurd (omega arith)

module _ {A : Type 0} (l : Layout A) (key : A → Key) (first : KeyFirst l key) (cells : List ℤ) (k : Key) where
  abbrev keys : List Key
  keys = decode key_at l.width (nat_abs (count_of cells)) l.header cells

  greatest-rows : greatest (λ e. e) k.major keys ≡ greatest key k.major (rows_of l cells)
  greatest-rows = ap (greatest (λ e. e) k.major) (table-keys l key first cells) ∙ greatest-map key k.major (rows_of l cells)

  abbrev suffixes : Option ℤ
  suffixes = greatest (λ e. e) k.major keys

  pub table-present : (row : ℕ) (g : ℤ) (next : ℕ) → sought_in l k cells ≡ Sought.Present row g next → PresentAt l key cells k row g next
  unfolding the_greatest next_suffix found_or
  table-present row g next h =
      let w : (row_from 0 k keys ≡ some row) × (the_greatest suffixes ≡ g) × (place_from 0 (key_of k.major (next_suffix suffixes)) keys ≡ next)
      = parts-present (row_from 0 k keys) (place_in l k cells) suffixes (place_from 0 (key_of k.major (next_suffix suffixes)) keys) row g next h in
      let t : (row < length (rows_of l cells)) × (find key k (rows_of l cells) ≡ some (row_at l cells row)) × (key (row_at l cells row) ≡ k)
      = row-told-of l key first cells k row (as_row l key first cells k (some row) w.0) in
      let f : (z : ℤ) × (greatest key k.major (rows_of l cells) ≡ some z) × (le_z k.minor z ≡ true)
      = found-greatest key k.major k.minor (rows_of l cells) (row_at l cells row) t.1 in
      let there : suffixes ≡ some f.0 = greatest-rows ∙ f.1 in
      let own : f.0 ≡ g = sym (ap the_greatest there) ∙ w.1 in
      record {
        row_within = t.0;
        found = t.1;
        key-is = t.2;
        found-is = ap (λ (o : Option ℕ). found_or o (place_in l k cells)) w.0;
        greatest-is = f.1 ∙ ap some own;
        next-is = sym w.2 ∙ ap (λ (o : Option ℤ). place_in l (key_of k.major (next_suffix o)) cells) (there ∙ ap some own);
      }

  pub table-lacks : (place : ℕ) (g : Greatest) → sought_in l k cells ≡ Sought.Absent place g → AbsentAt l key cells k place g
  table-lacks place g h =
      let w : (row_from 0 k keys ≡ none) × (place_in l k cells ≡ place) × (greatest_found suffixes ≡ g)
      = parts-absent (row_from 0 k keys) (place_in l k cells) suffixes (place_from 0 (key_of k.major (next_suffix suffixes)) keys) place g h in
      record {
        absent = absent-find key k (rows_of l cells) (as_row l key first cells k none w.0);
        place_is = sym w.1;
        greatest-is = ap greatest_found (sym greatest-rows) ∙ w.2;
      }
