-- Rows written into a table, over any lawful layout: the table keeps its length and room, its rows are the rows written, a later writing of no fewer rows
-- is all that is seen, and a sound table is what its own rows write. Assumes nothing.
use Prim.Native.Nat.{ℕ, ◌+◌, ◌-◌, ◌*◌, ◌≤◌}
use native.Mathlib.Nat.{mul-le-mul_right}
use native.Mathlib.Omega.{arith}
use mathlib.Core.Path.{◌≡◌, refl, sym, ap, ◌∙◌}
use mathlib.Core.Bool.{true}
use mathlib.Core.List.{List, ◌∷◌, ◌++◌}
use lib.IntN.{ℤ, pos}
use lib.ListN.{length, take, drop, length-append, length-drop, take-append-drop}
use lib.Seq.{drop-drop, drop-append-add, take_at}
use Rattle.rules.specs.Layout.{Layout, count_of, after_count, encode, start_of, room_of, rows_of, count_is_sound, write}
use Rattle.cells.specs.Lawful.{Lawful}
use Rattle.cells.proofs.Parts.{drop_past}
use Rattle.cells.proofs.Encode.{length-encode, encode-decode, decode-encode}
use Rattle.cells.proofs.Count.{header-around, length-after_count, room-by-length, fits-cells, rows_of-count, rows_of-decode, count-sound, sound-header, sound-count, sound-rows-cells}

module _ {Row : Type 0} (l : Layout Row) where
  pub count_of-write : (cells : List ℤ) (rows : List Row) → count_of (write l cells rows) ≡ pos (length rows)
  unfolding write
  count_of-write cells rows = refl

  -- The cells of a written table.
  pub write-cells : (cells : List ℤ) (rows : List Row)
      → write l cells rows ≡ pos (length rows) ∷ (after_count l.header cells ++ (encode l.put rows ++ drop (start_of l (length rows)) cells))
  unfolding write
  write-cells cells rows = refl

module _ {Row : Type 0} (l : Layout Row) (lawful : Lawful l) where
  -- The count and the header's other cells are as many as the header.
  length-header : (cells : List ℤ) (count : ℤ) → l.header ≤ length cells → length (count ∷ after_count l.header cells) ≡ l.header
  length-header cells count h = omega (arith, length-after_count l.header cells lawful.counted h, lawful.counted)

  pub length-write : (cells : List ℤ) (rows : List Row) → l.header ≤ length cells → length rows ≤ room_of l cells → length (write l cells rows) ≡ length cells
  length-write cells rows h fit =
      let u : start_of l (length rows) ≤ length cells = fits-cells l lawful cells (length rows) h fit in
      let rest : List ℤ = encode l.put rows ++ drop (start_of l (length rows)) cells in
      ap length (write-cells l cells rows)
      ∙ length-append (pos (length rows) ∷ after_count l.header cells) rest
      ∙ omega (arith, length-header cells (pos (length rows)) h, length-append (encode l.put rows) (drop (start_of l (length rows)) cells), length-encode l lawful rows, length-drop (start_of l (length rows)) cells)

  pub room-write : (cells : List ℤ) (rows : List Row) → l.header ≤ length cells → length rows ≤ room_of l cells → room_of l (write l cells rows) ≡ room_of l cells
  room-write cells rows h fit = room-by-length l (write l cells rows) cells (length-write cells rows h fit)

  pub rows_write : (cells : List ℤ) (rows : List Row) → l.header ≤ length cells → rows_of l (write l cells rows) ≡ rows
  rows_write cells rows h =
      let rest : List ℤ = drop (start_of l (length rows)) cells in
      ap (rows_of l) (write-cells l cells rows)
      ∙ rows_of-count l (pos (length rows) ∷ (after_count l.header cells ++ (encode l.put rows ++ rest)))
      ∙ decode-encode l lawful rows (pos (length rows) ∷ after_count l.header cells) rest l.header (length-header cells (pos (length rows)) h)

  -- A written table past its header and some cells more.
  past-header : (cells : List ℤ) (rows : List Row) (m : ℕ) → l.header ≤ length cells
      → drop (l.header + m) (write l cells rows) ≡ drop m (encode l.put rows ++ drop (start_of l (length rows)) cells)
  past-header cells rows m h =
      let rest : List ℤ = encode l.put rows ++ drop (start_of l (length rows)) cells in
      let front : List ℤ = pos (length rows) ∷ after_count l.header cells in
      ap (λ (c : List ℤ). drop (l.header + m) c) (write-cells l cells rows)
      ∙ ap (λ (j : ℕ). drop (j + m) (front ++ rest)) (sym (length-header cells (pos (length rows)) h))
      ∙ drop-append-add front rest m

  -- The header's other cells are kept.
  pub after_count-write : (cells : List ℤ) (rows : List Row) → l.header ≤ length cells → after_count l.header (write l cells rows) ≡ after_count l.header cells
  unfolding write
  after_count-write cells rows h =
      take_at (after_count l.header cells) (encode l.put rows ++ drop (start_of l (length rows)) cells) (l.header - 1)
      (length-after_count l.header cells lawful.counted h)

  -- Of two writings the second alone is seen, where it has no fewer rows.
  pub write-write : (cells : List ℤ) (rows rows' : List Row) → l.header ≤ length cells → length rows ≤ length rows'
      → write l (write l cells rows) rows' ≡ write l cells rows'
  write-write cells rows rows' h more =
      let w : ℕ = l.width in
      let n : ℕ = length rows in
      let m : ℕ = length rows' in
      let le : n * w ≤ m * w = mul-le-mul_right w more in
      let reach : start_of l n + (m * w - n * w) ≡ start_of l m = omega arith in
      let inner : drop (start_of l m) (write l cells rows) ≡ drop (start_of l m) cells =
      past-header cells rows (m * w) h
      ∙ drop_past (encode l.put rows) (drop (start_of l n) cells) (n * w) (m * w) (length-encode l lawful rows) le
      ∙ drop-drop (m * w - n * w) (start_of l n) cells
      ∙ ap (λ (j : ℕ). drop j cells) reach in
      write-cells l (write l cells rows) rows'
      ∙ ap (λ (a : List ℤ). pos m ∷ (a ++ (encode l.put rows' ++ drop (start_of l m) (write l cells rows)))) (after_count-write cells rows h)
      ∙ ap (λ (c : List ℤ). pos m ∷ (after_count l.header cells ++ (encode l.put rows' ++ c))) inner
      ∙ sym (write-cells l cells rows')

  -- A table whose count is sound is what its own rows write.
  pub write-own : (cells : List ℤ) → count_is_sound l cells ≡ true → write l cells (rows_of l cells) ≡ cells
  write-own cells sound =
      let w : ℕ = l.width in
      let n : ℕ = length (rows_of l cells) in
      let h : l.header ≤ length cells = sound-header l lawful cells sound in
      let long : start_of l n ≤ length cells = sound-rows-cells l lawful cells sound in
      let own : encode l.put (rows_of l cells) ≡ take (n * w) (drop l.header cells) =
      ap (λ (rows : List Row). encode l.put rows) (rows_of-decode l cells) ∙ encode-decode l lawful n l.header cells long in
      let behind : drop (start_of l n) cells ≡ drop (n * w) (drop l.header cells) = sym (drop-drop (n * w) l.header cells) in
      write-cells l cells (rows_of l cells)
      ∙ ap (λ (c : List ℤ). pos n ∷ (after_count l.header cells ++ (c ++ drop (start_of l n) cells))) own
      ∙ ap (λ (c : List ℤ). pos n ∷ (after_count l.header cells ++ (take (n * w) (drop l.header cells) ++ c))) behind
      ∙ ap (λ (c : List ℤ). pos n ∷ (after_count l.header cells ++ c)) (take-append-drop (n * w) (drop l.header cells))
      ∙ ap (λ (z : ℤ). z ∷ (after_count l.header cells ++ drop l.header cells)) (sym (sound-count l lawful cells sound))
      ∙ header-around l.header cells lawful.counted h

  -- The count of a written table is sound, where the rows fit.
  pub write-sound-count : (cells : List ℤ) (rows : List Row) → l.header ≤ length cells → length rows ≤ room_of l cells → count_is_sound l (write l cells rows) ≡ true
  write-sound-count cells rows h fit =
      let u : l.header ≤ length (write l cells rows) = rw (length-write cells rows h fit) h in
      let v : length rows ≤ room_of l (write l cells rows) = rw (room-write cells rows h fit) fit in
      count-sound l lawful (write l cells rows) (length rows) u (count_of-write l cells rows) v
