-- New rows one after the other: of rows that a table lacks, no two of the same key, the next is absent once those before it are put, and there is room for it
-- where there is room for all; also after puts of rows that were there. Alike for rows that the table may have: there is room for the next where there is room for
-- as many as it lacks. By induction on the rows before. Assumes nothing.
use Prim.Native.Nat.{◌+◌, ◌≤◌}
use native.Mathlib.Omega.{arith}
use mathlib.Core.Path.{◌≡◌, ◌∙◌, ap, subst}
use mathlib.Core.Bool.{Bool, true, not}
use mathlib.Core.List.{List, [], ◌∷◌, ◌++◌}
use mathlib.Core.Option.{none}
use lib.IntN.{ℤ}
use lib.ListN.{length, length-append}
use Rattle.rules.specs.Keyed.{Key, same, rising, find, is_some, upsert, upsert_all, absent_from}
use Rattle.rules.specs.Layout.{Layout, room_of, rows_of}
use Rattle.keys.proofs.Clauses.{upsert_all-nil, upsert_all-cons, absent_from-nil, absent_from-cons, all_of-nil}
use Rattle.keys.proofs.Folds.{Only, only-tail, only-head, only-intro, upsert_all-append}
use Rattle.keys.proofs.Counts.{distinct, distinct_nil, distinct_head, distinct_tail, distinct-intro, has_all, lacks_all, lacks_all-head, lacks_all-upsert, lacks_all-upsert_all, upsert_all-replaces-adds, absent_from-upsert, upsert_all-counts}
use Rattle.cells.specs.Lawful.{Lawful}
use Rattle.verdict.proofs.Puts.{put_all, rows-put, room-put}

module _ {Row : Type 0} (key : Row → Key) where
  -- The first rows of a list have what all have.
  only-first : (p : Key → Bool) (xs ys : List Row) → Only key p (xs ++ ys) → Only key p xs
  only-first p [] ys h = all_of-nil
  only-first p (x ∷ xs) ys h = only-intro key p x xs (only-head key p x (xs ++ ys) h) (only-first p xs ys (only-tail key p x (xs ++ ys) h))

  distinct-first : (xs ys : List Row) → distinct key (xs ++ ys) ≡ true → distinct key xs ≡ true
  distinct-first [] ys d = distinct_nil key
  distinct-first (x ∷ xs) ys d =
      distinct-intro key x xs (only-first (λ (k : Key). not (same (key x) k)) xs ys (distinct_head key x (xs ++ ys) d)) (distinct-first xs ys (distinct_tail key x (xs ++ ys) d))

  -- The next row is absent once those before it are put.
  next-absent : (done : List Row) (x : Row) (rest t : List Row) → distinct key (done ++ (x ∷ rest)) ≡ true → lacks_all key t (done ++ (x ∷ rest)) ≡ true
      → find key (key x) (upsert_all key done t) ≡ none
  next-absent [] x rest t d a = ap (find key (key x)) (upsert_all-nil key t) ∙ lacks_all-head key t x rest a
  next-absent (y ∷ done) x rest t d a =
      ap (find key (key x)) (upsert_all-cons key y done t)
      ∙ next-absent done x rest (upsert key y t) (distinct_tail key y (done ++ (x ∷ rest)) d)
      (lacks_all-upsert key y (done ++ (x ∷ rest)) t (distinct_head key y (done ++ (x ∷ rest)) d) (only-tail key (λ (k : Key). not (is_some (find key k t))) y (done ++ (x ∷ rest)) a))

-- In a table as cells: `changed` are there, `done` and then `rest` are not; `changed` and `done` are put.
module _ {Row : Type 0} (l : Layout Row) (lawful : Lawful l) (key : Row → Key) (cells : List ℤ) (changed done rest : List Row)
    (first : l.header ≤ length cells)
    (rises : rising key (rows_of l cells) ≡ true)
    (there : has_all key (rows_of l cells) changed ≡ true)
    (new : lacks_all key (rows_of l cells) (done ++ rest) ≡ true)
    (differ : distinct key (done ++ rest) ≡ true)
    (room : length (rows_of l cells) + length (done ++ rest) ≤ room_of l cells)
    (now : List ℤ) (so_far : now ≡ put_all l key cells (changed ++ done)) where
  rows-now : rows_of l now ≡ upsert_all key (changed ++ done) (rows_of l cells)
  rows-now = ap (rows_of l) so_far ∙ rows-put l key lawful cells (changed ++ done) first

  length-now : length (upsert_all key (changed ++ done) (rows_of l cells)) ≡ length (rows_of l cells) + length done
  length-now =
      upsert_all-replaces-adds key changed done (rows_of l cells) rises there
      (distinct-first key done rest differ)
      (only-first key (λ (k : Key). not (is_some (find key k (rows_of l cells)))) done rest new)

  room-now : room_of l now ≡ room_of l cells
  room-now = ap (room_of l) so_far ∙ room-put l key lawful cells (changed ++ done) first (omega (arith, length-now, length-append done rest))

  -- Room for all that are left.
  pub left-room : length (rows_of l now) + length rest ≤ room_of l now
  left-room = rw (rows-now, room-now) (omega (arith, length-now, length-append done rest))

  -- The next of them is absent.
  pub insert-absent : (x : Row) (more : List Row) → rest ≡ x ∷ more → find key (key x) (rows_of l now) ≡ none
  insert-absent x more e =
      let t : List Row = upsert_all key changed (rows_of l cells) in
      let d : distinct key (done ++ (x ∷ more)) ≡ true = subst (λ (ys : List Row). distinct key (done ++ ys) ≡ true) e differ in
      let a : lacks_all key t (done ++ (x ∷ more)) ≡ true =
      subst (λ (ys : List Row). lacks_all key t (done ++ ys) ≡ true) e (lacks_all-upsert_all key changed (done ++ rest) (rows_of l cells) there new) in
      ap (find key (key x)) (rows-now ∙ upsert_all-append key changed done (rows_of l cells)) ∙ next-absent key done x more t d a

-- ---- rows that are there or not

module _ {Row : Type 0} (key : Row → Key) where
  only-later : (p : Key → Bool) (xs ys : List Row) → Only key p (xs ++ ys) → Only key p ys
  only-later p [] ys h = h
  only-later p (x ∷ xs) ys h = only-later p xs ys (only-tail key p x (xs ++ ys) h)

  -- Puts of other keys leave absent what is absent.
  absent-later : (done rest t : List Row) → distinct key (done ++ rest) ≡ true → absent_from key (upsert_all key done t) rest ≡ absent_from key t rest
  absent-later [] rest t d = ap (λ (u : List Row). absent_from key u rest) (upsert_all-nil key t)
  absent-later (y ∷ done) rest t d =
      ap (λ (u : List Row). absent_from key u rest) (upsert_all-cons key y done t)
      ∙ absent-later done rest (upsert key y t) (distinct_tail key y (done ++ rest) d)
      ∙ absent_from-upsert key y rest t (only-later (λ (k : Key). not (same (key y) k)) done rest (distinct_head key y (done ++ rest) d))

  absent-sum : (t xs ys : List Row) → absent_from key t (xs ++ ys) ≡ absent_from key t xs + absent_from key t ys
  absent-sum t [] ys = rw (absent_from-nil key t) (omega arith)
  absent-sum t (x ∷ xs) ys = rw (absent_from-cons key t x (xs ++ ys), absent_from-cons key t x xs) (omega (arith, absent-sum t xs ys))

-- In a table as cells: `done`, then `x`, then `rest` are put, whether they are there or not.
module _ {Row : Type 0} (l : Layout Row) (lawful : Lawful l) (key : Row → Key) (cells : List ℤ) (done : List Row) (x : Row) (rest : List Row)
    (first : l.header ≤ length cells)
    (rises : rising key (rows_of l cells) ≡ true)
    (differ : distinct key (done ++ (x ∷ rest)) ≡ true)
    (room : length (rows_of l cells) + absent_from key (rows_of l cells) (done ++ (x ∷ rest)) ≤ room_of l cells)
    (now : List ℤ) (so_far : now ≡ put_all l key cells done) where
  pub put-room : length (rows_of l now) + absent_from key (rows_of l now) (x ∷ []) ≤ room_of l now
  put-room =
      let t : List Row = rows_of l cells in
      let rows-so-far : rows_of l now ≡ upsert_all key done t = ap (rows_of l) so_far ∙ rows-put l key lawful cells done first in
      let count : length (upsert_all key done t) ≡ length t + absent_from key t done = upsert_all-counts key done t rises (distinct-first key done (x ∷ rest) differ) in
      let sum : absent_from key t (done ++ (x ∷ rest)) ≡ absent_from key t done + absent_from key t (x ∷ rest) = absent-sum key t done (x ∷ rest) in
      let kept : absent_from key (upsert_all key done t) (x ∷ rest) ≡ absent_from key t (x ∷ rest) = absent-later key done (x ∷ rest) t differ in
      let one : absent_from key (upsert_all key done t) (x ∷ rest) ≡ absent_from key (upsert_all key done t) (x ∷ []) + absent_from key (upsert_all key done t) rest =
      absent-sum key (upsert_all key done t) (x ∷ []) rest in
      let same-room : room_of l now ≡ room_of l cells = ap (room_of l) so_far ∙ room-put l key lawful cells done first (omega arith) in
      rw (rows-so-far, same-room) (omega arith)
