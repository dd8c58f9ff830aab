-- Rows put into a table before row k, or a row in place of row k, as cells: what code that shifts cells leaves. Over any lawful layout.
-- With n rows. Assumes nothing.
use Prim.Native.Nat.{ℕ, suc, ◌+◌, ◌-◌, ◌*◌, ◌≤◌, ◌<◌}
use native.Mathlib.Nat.{mul-le-mul_right, add-mul}
use native.Mathlib.Omega.{arith}
use mathlib.Core.Path.{◌≡◌, sym, ap, ◌∙◌}
use mathlib.Core.Bool.{true}
use mathlib.Core.List.{List, ◌∷◌, ◌++◌, append_assoc}
use lib.IntN.{ℤ, pos}
use lib.ListN.{length, take, drop, take-append-drop, length-append, length-drop}
use lib.Seq.{drop-drop, length-take-le}
use Rattle.rules.specs.Layout.{Layout, count_of, after_count, decode, encode, start_of, rows_of, count_is_sound, write}
use Rattle.cells.specs.Lawful.{Lawful}
use Rattle.cells.proofs.Parts.{length-replaced}
use Rattle.cells.proofs.Decode.{length-decode, take-decode, drop-decode}
use Rattle.cells.proofs.Encode.{encode-cons, encode-append, encode-decode}
use Rattle.cells.proofs.Count.{header-then, rows_of-decode, sound-count, sound-rows-cells}
use Rattle.cells.proofs.Write.{write-cells}

-- Rows k to n are the cells of rows k to n.
spans : (k n w : ℕ) → k ≤ n → k * w + (n - k) * w ≡ n * w
spans k n w h =
    let e : k + (n - k) ≡ n = omega arith in
    sym (add-mul k (n - k) w) ∙ ap (λ (j : ℕ). j * w) e

-- Rows with some more put in before row k.
length_run : {A : Type 0} (rows : List A) (k : ℕ) (news : List A) → k ≤ length rows → length (take k rows ++ (news ++ drop k rows)) ≡ length rows + length news
length_run rows k news h =
    length-append (take k rows) (news ++ drop k rows) ∙ omega (arith, length-take-le k rows h, length-append news (drop k rows), length-drop k rows)

module _ {Row : Type 0} (l : Layout Row) (lawful : Lawful l) (cells : List ℤ) (n : ℕ) (long : start_of l n ≤ length cells) where
  -- The cells of the first k rows, and of those from row k on.
  pub encode-take : (k : ℕ) → k ≤ n → encode l.put (take k (decode l.get l.width n l.header cells)) ≡ take (k * l.width) (drop l.header cells)
  encode-take k h =
      let fit : start_of l k ≤ length cells = omega (arith, mul-le-mul_right l.width h) in
      ap (encode l.put) (take-decode l.get l.width k n l.header cells h) ∙ encode-decode l lawful k l.header cells fit

  pub encode-drop : (k : ℕ) → k ≤ n
      → encode l.put (drop k (decode l.get l.width n l.header cells)) ≡ take ((n - k) * l.width) (drop (start_of l k) cells)
  encode-drop k h =
      let fit : start_of l k + (n - k) * l.width ≤ length cells = omega (arith, spans k n l.width h) in
      ap (encode l.put) (drop-decode l.get l.width k n l.header cells h) ∙ encode-decode l lawful (n - k) (start_of l k) cells fit

  -- Some rows before row k: the rows from k on move up by so many rows.
  pub insert-run-cells : (k : ℕ) (news : List Row) → k ≤ n
      → write l cells (take k (decode l.get l.width n l.header cells) ++ (news ++ drop k (decode l.get l.width n l.header cells)))
      ≡ pos (n + length news) ∷ (after_count l.header cells ++ (take (k * l.width) (drop l.header cells)
      ++ (encode l.put news ++ (take ((n - k) * l.width) (drop (start_of l k) cells) ++ drop (start_of l (n + length news)) cells))))
  insert-run-cells k news h =
      let w : ℕ = l.width in
      let m : ℕ = n + length news in
      let rows : List Row = decode l.get w n l.header cells in
      let before : List ℤ = take (k * w) (drop l.header cells) in
      let moved : List ℤ = take ((n - k) * w) (drop (start_of l k) cells) in
      let long-enough : k ≤ length rows = rw (length-decode l.get w n l.header cells) h in
      let size : length (take k rows ++ (news ++ drop k rows)) ≡ m =
      length_run rows k news long-enough ∙ ap (λ (j : ℕ). j + length news) (length-decode l.get w n l.header cells) in
      let coded : encode l.put (take k rows ++ (news ++ drop k rows)) ≡ before ++ (encode l.put news ++ moved) =
      encode-append l.put (take k rows) (news ++ drop k rows)
      ∙ ap (λ (c : List ℤ). encode l.put (take k rows) ++ c) (encode-append l.put news (drop k rows))
      ∙ ap (λ (c : List ℤ). c ++ (encode l.put news ++ encode l.put (drop k rows))) (encode-take k h)
      ∙ ap (λ (c : List ℤ). before ++ (encode l.put news ++ c)) (encode-drop k h) in
      let rest : List ℤ = drop (start_of l m) cells in
      let regroup : (before ++ (encode l.put news ++ moved)) ++ rest ≡ before ++ (encode l.put news ++ (moved ++ rest)) = simp append_assoc in
      write-cells l cells (take k rows ++ (news ++ drop k rows))
      ∙ ap (λ (j : ℕ). pos j ∷ (after_count l.header cells ++ (encode l.put (take k rows ++ (news ++ drop k rows)) ++ drop (start_of l j) cells))) size
      ∙ ap (λ (c : List ℤ). pos m ∷ (after_count l.header cells ++ (c ++ rest))) coded
      ∙ ap (λ (c : List ℤ). pos m ∷ (after_count l.header cells ++ c)) regroup

  -- A row in place of row k: all other cells stay.
  pub replace-cells : (k : ℕ) (new : Row) → count_of cells ≡ pos n → k < n
      → write l cells (take k (decode l.get l.width n l.header cells) ++ (new ∷ drop (suc k) (decode l.get l.width n l.header cells)))
      ≡ take (start_of l k) cells ++ (l.put new ++ drop (start_of l (suc k)) cells)
  replace-cells k new count h =
      let w : ℕ = l.width in
      let rows : List Row = decode l.get w n l.header cells in
      let before : List ℤ = take (k * w) (drop l.header cells) in
      let rest : List ℤ = drop (start_of l (suc k)) cells in
      let m : ℕ = (n - suc k) * w in
      let long-enough : k < length rows = rw (length-decode l.get w n l.header cells) h in
      let size : length (take k rows ++ (new ∷ drop (suc k) rows)) ≡ n =
      length-replaced rows k new long-enough ∙ length-decode l.get w n l.header cells in
      let coded : encode l.put (take k rows ++ (new ∷ drop (suc k) rows)) ≡ before ++ (l.put new ++ take m rest) =
      encode-append l.put (take k rows) (new ∷ drop (suc k) rows)
      ∙ ap (λ (c : List ℤ). encode l.put (take k rows) ++ c) (encode-cons l.put new (drop (suc k) rows))
      ∙ ap (λ (c : List ℤ). c ++ (l.put new ++ encode l.put (drop (suc k) rows))) (encode-take k (omega arith))
      ∙ ap (λ (c : List ℤ). before ++ (l.put new ++ c)) (encode-drop (suc k) h) in
      let reach : start_of l (suc k) + m ≡ start_of l n = omega (arith, spans (suc k) n w h) in
      let behind : drop (start_of l n) cells ≡ drop m rest = sym (drop-drop m (start_of l (suc k)) cells ∙ ap (λ (j : ℕ). drop j cells) reach) in
      let regroup : (before ++ (l.put new ++ take m rest)) ++ drop m rest ≡ before ++ (l.put new ++ (take m rest ++ drop m rest)) = simp append_assoc in
      let header : l.header ≤ length cells = omega arith in
      let front : List ℤ = after_count l.header cells in
      write-cells l cells (take k rows ++ (new ∷ drop (suc k) rows))
      ∙ ap (λ (j : ℕ). pos j ∷ (front ++ (encode l.put (take k rows ++ (new ∷ drop (suc k) rows)) ++ drop (start_of l j) cells))) size
      ∙ ap (λ (c : List ℤ). pos n ∷ (front ++ (c ++ drop (start_of l n) cells))) coded
      ∙ ap (λ (c : List ℤ). pos n ∷ (front ++ ((before ++ (l.put new ++ take m rest)) ++ c))) behind
      ∙ ap (λ (c : List ℤ). pos n ∷ (front ++ c)) regroup
      ∙ ap (λ (c : List ℤ). pos n ∷ (front ++ (before ++ (l.put new ++ c)))) (take-append-drop m rest)
      ∙ ap (λ (c : List ℤ). pos n ∷ c) (sym (append_assoc front before (l.put new ++ rest)))
      ∙ ap (λ (z : ℤ). z ∷ ((front ++ before) ++ (l.put new ++ rest))) (sym count)
      ∙ ap (λ (c : List ℤ). c ++ (l.put new ++ rest)) (header-then l.header cells (k * w) lawful.counted header)

module _ {Row : Type 0} (l : Layout Row) (lawful : Lawful l) (cells : List ℤ) (sound : count_is_sound l cells ≡ true) where
  -- The same of a table whose count is sound, and its rows.
  pub insert-rows : (k : ℕ) (news : List Row) → k ≤ length (rows_of l cells)
      → write l cells (take k (rows_of l cells) ++ (news ++ drop k (rows_of l cells)))
      ≡ pos (length (rows_of l cells) + length news) ∷ (after_count l.header cells ++ (take (k * l.width) (drop l.header cells)
      ++ (encode l.put news ++ (take ((length (rows_of l cells) - k) * l.width) (drop (start_of l k) cells)
      ++ drop (start_of l (length (rows_of l cells) + length news)) cells))))
  insert-rows k news h =
      ap (λ (rows : List Row). write l cells (take k rows ++ (news ++ drop k rows))) (rows_of-decode l cells)
      ∙ insert-run-cells l lawful cells (length (rows_of l cells)) (sound-rows-cells l lawful cells sound) k news h

  pub replace-row : (k : ℕ) (new : Row) → k < length (rows_of l cells)
      → write l cells (take k (rows_of l cells) ++ (new ∷ drop (suc k) (rows_of l cells)))
      ≡ take (start_of l k) cells ++ (l.put new ++ drop (start_of l (suc k)) cells)
  replace-row k new h =
      ap (λ (rows : List Row). write l cells (take k rows ++ (new ∷ drop (suc k) rows))) (rows_of-decode l cells)
      ∙ replace-cells l lawful cells (length (rows_of l cells)) (sound-rows-cells l lawful cells sound) k new (sound-count l lawful cells sound) h
