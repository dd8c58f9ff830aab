-- The tables' layouts are lawful. A row's cells one by one: those read from a place on are the part of the list that begins there.
-- Assumes nothing.
use Prim.Native.Nat.{ℕ, zero, suc, ◌+◌, ◌-◌, ◌≤◌, ◌<◌}
use native.Mathlib.Omega.{arith}
use mathlib.Core.Path.{◌≡◌, refl, sym, ap, ◌∙◌}
use mathlib.Core.List.{List, [], ◌∷◌, ◌++◌}
use lib.IntN.{ℤ, pos}
use lib.ListN.{length, take, drop, get_or}
use lib.Seq.{drop-cons, get_or-append_seam, get_or-append-add}
use Rattle.rules.specs.Tables.{record_at, record_cells, position_at, position_cells, process_at, process_cells, records_layout, positions_layout, processes_layout}
use Rattle.rules.specs.declared.Record.{Record}
use Rattle.rules.specs.declared.Position.{Position}
use Rattle.rules.specs.declared.ProcessRow.{ProcessRow}
use Rattle.cells.specs.Lawful.{Lawful}

-- k cells, the first of them i cells past a place.
abbrev pub cells_from : ℕ → ℕ → ℕ → List ℤ → List ℤ
cells_from zero at i xs = []
cells_from (suc k) at i xs = get_or xs (at + i) (pos 0) ∷ cells_from k at (i + 1) xs

pub cells-from : (k at i : ℕ) (xs : List ℤ) → (at + i) + k ≤ length xs → cells_from k at i xs ≡ take k (drop (at + i) xs)
cells-from zero at i xs h = refl
cells-from (suc k) at i xs h =
    let here : at + i < length xs = omega arith in
    let rest : (at + (i + 1)) + k ≤ length xs = omega arith in
    let e : at + (i + 1) ≡ suc (at + i) = omega arith in
    ap (λ (c : List ℤ). get_or xs (at + i) (pos 0) ∷ c) (cells-from k at (i + 1) xs rest)
    ∙ ap (λ (j : ℕ). get_or xs (at + i) (pos 0) ∷ take k (drop j xs)) e
    ∙ ap (take (suc k)) (sym (drop-cons xs (at + i) (pos 0) here))

-- A first cell, and the cells past it.
pub cells_at : (k at : ℕ) (xs : List ℤ) → at + suc k ≤ length xs → get_or xs at (pos 0) ∷ cells_from k at 1 xs ≡ take (suc k) (drop at xs)
cells_at k at xs h =
    let here : at < length xs = omega arith in
    let rest : (at + 1) + k ≤ length xs = omega arith in
    let e : at + 1 ≡ suc at = omega arith in
    ap (λ (c : List ℤ). get_or xs at (pos 0) ∷ c) (cells-from k at 1 xs rest)
    ∙ ap (λ (j : ℕ). get_or xs at (pos 0) ∷ take k (drop j xs)) e
    ∙ ap (take (suc k)) (sym (drop-cons xs at (pos 0) here))

pub length-record_cells : (r : Record) → length (record_cells r) ≡ records_layout.width
unfolding record_cells
length-record_cells r = refl

pub record_cells-record_at : (xs : List ℤ) (at : ℕ) → at + records_layout.width ≤ length xs → record_cells (record_at xs at) ≡ take records_layout.width (drop at xs)
unfolding record_cells
record_cells-record_at xs at h = cells_at (records_layout.width - 1) at xs h

pub record_at-record_cells : (p q : List ℤ) (r : Record) → record_at (p ++ (record_cells r ++ q)) (length p) ≡ r
unfolding record_cells
record_at-record_cells p q r = simp (get_or-append_seam, get_or-append-add)

pub records-lawful : Lawful records_layout
records-lawful = record {
  wide = omega arith;
  counted = omega arith;
  put-length = length-record_cells;
  put-get = record_cells-record_at;
  get-put = record_at-record_cells;
}

pub length-position_cells : (r : Position) → length (position_cells r) ≡ positions_layout.width
unfolding position_cells
length-position_cells r = refl

pub position_cells-position_at : (xs : List ℤ) (at : ℕ) → at + positions_layout.width ≤ length xs → position_cells (position_at xs at) ≡ take positions_layout.width (drop at xs)
unfolding position_cells
position_cells-position_at xs at h = cells_at (positions_layout.width - 1) at xs h

pub position_at-position_cells : (p q : List ℤ) (r : Position) → position_at (p ++ (position_cells r ++ q)) (length p) ≡ r
unfolding position_cells
position_at-position_cells p q r = simp (get_or-append_seam, get_or-append-add)

pub positions-lawful : Lawful positions_layout
positions-lawful = record {
  wide = omega arith;
  counted = omega arith;
  put-length = length-position_cells;
  put-get = position_cells-position_at;
  get-put = position_at-position_cells;
}

pub length-process_cells : (r : ProcessRow) → length (process_cells r) ≡ processes_layout.width
unfolding process_cells
length-process_cells r = refl

pub process_cells-process_at : (xs : List ℤ) (at : ℕ) → at + processes_layout.width ≤ length xs → process_cells (process_at xs at) ≡ take processes_layout.width (drop at xs)
unfolding process_cells
process_cells-process_at xs at h = cells_at (processes_layout.width - 1) at xs h

pub process_at-process_cells : (p q : List ℤ) (r : ProcessRow) → process_at (p ++ (process_cells r ++ q)) (length p) ≡ r
unfolding process_cells
process_at-process_cells p q r = simp (get_or-append_seam, get_or-append-add)

pub processes-lawful : Lawful processes_layout
processes-lawful = record {
  wide = omega arith;
  counted = omega arith;
  put-length = length-process_cells;
  put-get = process_cells-process_at;
  get-put = process_at-process_cells;
}
