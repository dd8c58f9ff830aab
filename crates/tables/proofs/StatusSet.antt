-- One cell set in a row of the records table, its status: the row's cells are those of the record in that status. Assumes nothing.
use Prim.Native.Nat.{ℕ, suc, ◌+◌, ◌*◌, ◌≤◌}
use native.Mathlib.Nat.{suc-add, zero-add}
use native.Mathlib.Omega.{arith}
use mathlib.Core.Path.{◌≡◌, refl, sym, ap, ◌∙◌}
use mathlib.Core.List.{List, [], ◌∷◌, ◌++◌}
use lib.IntN.{ℤ}
use lib.ListN.{length, take, drop, set}
use lib.Seq.{length-take-le}
use Rattle.rules.specs.Rows.{with_status}
use Rattle.rules.specs.Layout.{start_of, row_at}
use Rattle.rules.specs.Tables.{record_at, record_cells, status_cell, records_layout}
use Rattle.rules.specs.declared.Record.{Record}
use Rattle.cells.proofs.Parts.{around}
use Rattle.cells.proofs.RowCells.{length-record_cells, record_cells-record_at}
use Rattle.shifter.specs.Insertion.{replaced}

-- A cell past the first part.
set_past : {A : Type 0} (xs ys : List A) (n : ℕ) (a : A) → set (xs ++ ys) (length xs + n) a ≡ xs ++ set ys n a
set_past [] ys n a = rw (zero-add n) refl
set_past {A} (x ∷ xs) ys n a = rw (suc-add (length xs) n) (ap {B = List A} (λ l. x ∷ l) (set_past xs ys n a))

-- The status among a record's cells.
status-cell : (s : ℤ) (r : Record) (rest : List ℤ) → set (record_cells r ++ rest) status_cell s ≡ record_cells (with_status s r) ++ rest
unfolding record_cells
status-cell s r rest = refl

status-at : (s : ℤ) (cells : List ℤ) (at : ℕ) → at + records_layout.width ≤ length cells
    → set cells (at + status_cell) s ≡ take at cells ++ (record_cells (with_status s (record_at cells at)) ++ drop (at + records_layout.width) cells)
status-at s cells at fits =
    let before : List ℤ = take at cells in
    let rest : List ℤ = drop (at + records_layout.width) cells in
    let r : Record = record_at cells at in
    let whole : cells ≡ before ++ (record_cells r ++ rest)
    = sym (around cells at records_layout.width) ∙ ap (λ (c : List ℤ). before ++ (c ++ rest)) (sym (record_cells-record_at cells at fits)) in
    let full : length before ≡ at = length-take-le at cells (omega arith) in
    ap (λ (c : List ℤ). set c (at + status_cell) s) whole
    ∙ ap (λ (n : ℕ). set (before ++ (record_cells r ++ rest)) (n + status_cell) s) (sym full)
    ∙ set_past before (record_cells r ++ rest) status_cell s
    ∙ ap (λ (c : List ℤ). before ++ c) (status-cell s r rest)

pub status-set : (s : ℤ) (cells : List ℤ) (row : ℕ) → start_of records_layout (suc row) ≤ length cells
    → set cells (start_of records_layout row + status_cell) s ≡ replaced records_layout.header (record_cells (with_status s (row_at records_layout cells row))) row cells
unfolding replaced
status-set s cells row fits =
    let changed : List ℤ = record_cells (with_status s (row_at records_layout cells row)) in
    let end : start_of records_layout row + records_layout.width ≡ start_of records_layout (suc row) = omega arith in
    status-at s cells (start_of records_layout row) (omega arith)
    ∙ ap (λ (n : ℕ). take (start_of records_layout row) cells ++ (changed ++ drop n cells)) end
    ∙ ap (λ (w : ℕ). take (records_layout.header + row * w) cells ++ (changed ++ drop (records_layout.header + suc row * w) cells))
    (sym (length-record_cells (with_status s (row_at records_layout cells row))))
