-- The loop that reads fields into the lent cells: what holds before each turn, after a field, where there is none, and where the cells are full. Assumes nothing.
use Prim.Native.Nat.{ℕ, zero, suc, ◌+◌, ◌-◌, ◌≤◌, ◌<◌}
use native.Mathlib.Nat.{sub-zero}
use native.Mathlib.Numerals.{add-one}
use native.Mathlib.Omega.{arith}
use mathlib.Core.Path.{◌≡◌, refl, sym, ◌∙◌, ap}
use mathlib.Core.List.{List, [], ◌∷◌, ◌++◌, append-nil, append_assoc}
use mathlib.Core.Option.{Option, none, some}
use lib.IntN.{ℤ}
use lib.ListN.{length, take, drop, set, length-set}
use lib.Seq.{take-suc-set}
use Rattle.text.specs.Scan.{Taken, taken, before, fields_from, take_field, take_fields}

-- ---- one field, or none

no_fields : (room : ℕ) (text : List ℕ) → none ≡ take_field text → take_fields room text ≡ taken [] text
unfolding take_fields fields_from
no_fields zero text h = refl
no_fields (suc room) text h = ap (λ (field : Option (Taken ℤ)). fields_from text field (λ rest. take_fields room rest)) (sym h)

field-more : (room : ℕ) (text : List ℕ) {z : ℤ} {rest : List ℕ} → some (taken z rest) ≡ take_field text → take_fields (suc room) text ≡ before z (take_fields room rest)
unfolding take_fields fields_from
field-more room text h = ap (λ (field : Option (Taken ℤ)). fields_from text field (λ rest. take_fields room rest)) (sym h)

-- ---- the loop

-- Figures before those that are still to be taken.
abbrev pub following : List ℤ → Taken (List ℤ) → Taken (List ℤ)
following figures later = taken (figures ++ later.value) later.rest

one-following : (figures : List ℤ) (z : ℤ) (later : Taken (List ℤ)) → following (figures ++ (z ∷ [])) later ≡ following figures (before z later)
unfolding before
one-following figures z later = ap (λ (all : List ℤ). taken all later.rest) (append_assoc figures (z ∷ []) later.value)

-- So many fields are read, and lie at the front of the cells.
pub record FieldsSoFar (text : List ℕ) (at cells : ℕ) (figures : List ℤ) (count next : ℕ) : Type 0 where
  pub same_size : length figures ≡ cells
  pub within : count ≤ cells
  pub same : following (take count figures) (take_fields (cells - count) (drop next text)) ≡ take_fields cells (drop at text)

pub none_read : {text : List ℕ} {at : ℕ} (figures : List ℤ) → FieldsSoFar text at (length figures) figures 0 at
none_read {text} {at} figures =
    record { same_size = refl; within = omega arith; same = rw (sub-zero (length figures)) refl }

module _ {text : List ℕ} {at cells : ℕ} {figures : List ℤ} {count next : ℕ} (f : FieldsSoFar text at cells figures count next) where
  pub one-read : {z : ℤ} {after : ℕ} → count < length figures → some (taken z (drop after text)) ≡ take_field (drop next text) → FieldsSoFar text at cells (set figures count z) (count + 1) after
  one-read {z} {after} room read =
      let left : cells - count ≡ suc (cells - (count + 1)) = omega (arith, f.same_size) in
      let front : take (count + 1) (set figures count z) ≡ take count figures ++ (z ∷ []) = rw add-one (take-suc-set figures count z room) in
      record {
        same_size = length-set figures count z ∙ f.same_size;
        within = omega (arith, f.same_size);
        same =
            rw front
            (one-following (take count figures) z (take_fields (cells - (count + 1)) (drop after text))
            ∙ ap (λ (later : Taken (List ℤ)). following (take count figures) later) (sym (ap (λ (k : ℕ). take_fields k (drop next text)) left ∙ field-more (cells - (count + 1)) (drop next text) read))
            ∙ f.same);
      }

  ends : take_fields (cells - count) (drop next text) ≡ taken [] (drop next text) → taken (take count figures) (drop next text) ≡ take_fields cells (drop at text)
  ends e =
      ap (λ (all : List ℤ). taken all (drop next text)) (sym (append-nil (take count figures)))
      ∙ ap (λ (later : Taken (List ℤ)). following (take count figures) later) (sym e) ∙ f.same

  pub no-more-fields : none ≡ take_field (drop next text) → taken (take count figures) (drop next text) ≡ take_fields cells (drop at text)
  no-more-fields h = ends (no_fields (cells - count) (drop next text) h)

  pub cells-full : length figures ≤ count → taken (take count figures) (drop next text) ≡ take_fields cells (drop at text)
  unfolding take_fields
  cells-full h =
      let none_left : cells - count ≡ 0 = omega (arith, f.same_size) in
      ends (ap (λ (k : ℕ). take_fields k (drop next text)) none_left)
