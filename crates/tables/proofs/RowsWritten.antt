-- The rows like the first written one after the other over a part of the records table: at each place the rows that are left, written from there on, come to the part
-- with all of them written. Assumes nothing.
use Prim.Native.Nat.{ℕ, ◌+◌, ◌*◌, ◌≤◌, ◌<◌}
use native.Mathlib.Nat.{add-zero}
use native.Mathlib.Numerals.{add-one}
use native.Mathlib.Omega.{arith}
use mathlib.Core.Path.{◌≡◌, refl, sym, ap, ◌∙◌}
use mathlib.Core.List.{List, [], ◌∷◌}
use lib.IntN.{ℤ, pos, ◌+ℤ◌}
use lib.ListN.{length, get_or, drop, take-append-drop, drop_of_length-le}
use lib.Seq.{drop-cons}
use lib.Signed.{◌≤ℤ◌}
use mir.Syntax.{w64}
use mir.Val.{SFits}
use Rattle.integers.proofs.Linear.{zarith, +-lin}
use Rattle.rules.specs.Layout.{encode}
use Rattle.rules.specs.Tables.{record_cells, records_layout}
use Rattle.rules.specs.declared.Record.{Record}
use Rattle.cells.proofs.RowCells.{records-lawful}
use Rattle.shifter.specs.Insertion.{filled, replaced}
use Rattle.shifter.proofs.RowsFilled.{rows_next}
use Rattle.tables.specs.NewRows.{numbered_as, rows_like}

-- The rows of these quantities written from a place on.
abbrev pub written : Record → ℤ → List ℤ → ℕ → List ℤ → List ℤ
written first suffix quantities place part = filled 0 records_layout.width (encode record_cells (rows_like first suffix quantities)) place part

none_written : (first : Record) (suffix : ℤ) (place : ℕ) (part : List ℤ) → written first suffix [] place part ≡ part
unfolding rows_like encode filled
none_written first suffix place part = rw (add-zero (0 + place * records_layout.width)) (take-append-drop (0 + place * records_layout.width) part)

one_written : (first : Record) (suffix q : ℤ) (rest : List ℤ) (place : ℕ) (part : List ℤ) → place * records_layout.width ≤ length part
    → written first suffix (q ∷ rest) place part ≡ written first (suffix +ℤ pos 1) rest (place + 1) (replaced 0 (record_cells (numbered_as first suffix q)) place part)
unfolding rows_like
one_written first suffix q rest place part fits =
    rows_next records_layout records-lawful 0 (numbered_as first suffix q) (rows_like first (suffix +ℤ pos 1) rest) place part (omega arith)

-- The part now, where the next quantity is at this place and its row has this suffix.
pub record WrittenSoFar (before : List ℤ) (place : ℕ) (first : Record) (quantities now : List ℤ) (suffix : ℤ) (i : ℕ) : Type 0 where
  pub within : i ≤ length quantities
  pub same_size : length now ≡ length before
  pub suffix-is : suffix ≡ first.suffix +ℤ pos i
  pub whole : written first suffix (drop i quantities) (place + i) now ≡ written first first.suffix quantities place before

pub written_start : (before : List ℤ) (place : ℕ) (first : Record) (quantities : List ℤ) → WrittenSoFar before place first quantities before first.suffix 0
written_start before place first quantities = record {
  within = omega arith;
  same_size = refl;
  suffix-is = omega (zarith, +-lin first.suffix (pos 0));
  whole = ap (λ (p : ℕ). written first first.suffix quantities p before) (add-zero place);
}

module _ (before : List ℤ) (place : ℕ) (first : Record) (quantities now : List ℤ) (suffix : ℤ) (i : ℕ) (so_far : WrittenSoFar before place first quantities now suffix i) where
  module _ (fits : (place + length quantities) * records_layout.width ≤ length before) (more : i < length quantities) where
    abbrev q : ℤ
    q = get_or quantities i (pos 0)

    next-left : drop i quantities ≡ q ∷ drop (i + 1) quantities
    next-left = rw add-one (drop-cons quantities i (pos 0) more)

    pub row_fits : (place + i + 1) * records_layout.width ≤ length now
    row_fits = omega (arith, so_far.same_size)

    pub suffix-fits : first.suffix ≤ℤ pos 65536 → pos 0 ≤ℤ first.suffix → length quantities ≤ 65535 → SFits w64 (suffix +ℤ pos 1)
    suffix-fits high low few =
        let e : suffix ≡ first.suffix +ℤ pos i = so_far.suffix-is in
        omega (zarith, more, few, +-lin first.suffix (pos i), +-lin suffix (pos 1))

    pub written_next : (after : List ℤ) → after ≡ replaced 0 (record_cells (numbered_as first suffix q)) (place + i) now → length after ≡ length now
        → WrittenSoFar before place first quantities after (suffix +ℤ pos 1) (i + 1)
    written_next after e size =
        let rest : List ℤ = drop (i + 1) quantities in
        let at : place + (i + 1) ≡ place + i + 1 = omega arith in
        let s : suffix ≡ first.suffix +ℤ pos i = so_far.suffix-is in
        record {
          within = omega (arith, more);
          same_size = size ∙ so_far.same_size;
          suffix-is = omega (zarith, +-lin first.suffix (pos i), +-lin suffix (pos 1), +-lin first.suffix (pos (i + 1)));
          whole =
              ap (λ (p : ℕ). written first (suffix +ℤ pos 1) rest p after) at
              ∙ ap (λ (c : List ℤ). written first (suffix +ℤ pos 1) rest (place + i + 1) c) e
              ∙ sym (one_written first suffix q rest (place + i) now (omega (arith, row_fits)))
              ∙ ap (λ (left : List ℤ). written first suffix left (place + i) now) (sym next-left)
              ∙ so_far.whole;
        }

  pub written-end : length quantities ≤ i → now ≡ written first first.suffix quantities place before
  written-end past =
      sym (none_written first suffix (place + i) now)
      ∙ ap (λ (left : List ℤ). written first suffix left (place + i) now) (sym (drop_of_length-le quantities past))
      ∙ so_far.whole
