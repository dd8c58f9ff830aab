-- The cells of a table after rows were inserted or written anew: of any width, and any number of cells before the rows.
use Rattle.std.specs.Prelude.{ℕ, suc, ◌+◌, ◌-◌, ◌*◌, List, ◌∷◌, ◌++◌, ℤ, pos, length, take, drop}
use Rattle.rules.specs.Layout.{after_count}

-- The first `used` cells moved up by `by`: those below `by` are as they were.
abbrev pub raised : {A : Type 0} → (by used : ℕ) → List A → List A
raised by used cells = take by cells ++ (take used cells ++ drop (used + by) cells)

-- So many rows, with these cells, before row `place` of `count` rows: the count raised, the rows before them, the new rows, the rows above moved up, the cells past the last row.
unfoldable pub inserted : (header width : ℕ) → List ℤ → (added count place : ℕ) → List ℤ → List ℤ
inserted header width new added count place cells =
    pos (count + added)
    ∷ (after_count header cells
    ++ (take (place * width) (drop header cells)
    ++ (new
    ++ (take ((count - place) * width) (drop (header + place * width) cells)
    ++ drop (header + (count + added) * width) cells))))

-- In place of row `place`.
unfoldable pub replaced : (header : ℕ) → List ℤ → (place : ℕ) → List ℤ → List ℤ
replaced header row place cells = take (header + place * length row) cells ++ (row ++ drop (header + suc place * length row) cells)

-- The cells of some rows written from row `place` on.
unfoldable pub filled : (header width : ℕ) → List ℤ → (place : ℕ) → List ℤ → List ℤ
filled header width new place cells = take (header + place * width) cells ++ (new ++ drop (header + place * width + length new) cells)
