-- Rows put into a table as cells, over any lawful layout and key: the table written with the rows after the puts. One put after others is the puts of all;
-- the room stays as it was while the rows fit. Assumes nothing.
use Prim.Native.Nat.{◌≤◌}
use mathlib.Core.Path.{◌≡◌, sym, ◌∙◌, ap}
use mathlib.Core.Bool.{true}
use mathlib.Core.List.{List, [], ◌∷◌, ◌++◌}
use lib.IntN.{ℤ}
use lib.ListN.{length}
use Rattle.rules.specs.Keyed.{Key, upsert, upsert_all}
use Rattle.rules.specs.Layout.{Layout, room_of, rows_of, count_is_sound, write}
use Rattle.keys.proofs.Clauses.{upsert_all-nil, upsert_all-cons}
use Rattle.keys.proofs.Folds.{upsert_all-append, upsert_all-longer}
use Rattle.cells.specs.Lawful.{Lawful}
use Rattle.cells.proofs.Write.{rows_write, write-write, write-own, room-write}

module _ {Row : Type 0} (l : Layout Row) (key : Row → Key) where
  -- The table after one put, and after several.
  abbrev pub put_one : List ℤ → Row → List ℤ
  put_one cells x = write l cells (upsert key x (rows_of l cells))

  abbrev pub put_all : List ℤ → List Row → List ℤ
  put_all cells xs = write l cells (upsert_all key xs (rows_of l cells))

  pub put-one : (cells : List ℤ) (x : Row) → put_one cells x ≡ put_all cells (x ∷ [])
  put-one cells x = ap (write l cells) (sym (upsert_all-cons key x [] (rows_of l cells) ∙ upsert_all-nil key (upsert key x (rows_of l cells))))

  module _ (lawful : Lawful l) where
    pub rows-put : (cells : List ℤ) (xs : List Row) → l.header ≤ length cells → rows_of l (put_all cells xs) ≡ upsert_all key xs (rows_of l cells)
    rows-put cells xs h = rows_write l lawful cells (upsert_all key xs (rows_of l cells)) h

    -- A table whose count is sound, before any put.
    pub put-none : (cells : List ℤ) → count_is_sound l cells ≡ true → cells ≡ put_all cells []
    put-none cells sound = sym (ap (write l cells) (upsert_all-nil key (rows_of l cells)) ∙ write-own l lawful cells sound)

    pub put-put : (cells : List ℤ) (xs ys : List Row) → l.header ≤ length cells → put_all (put_all cells xs) ys ≡ put_all cells (xs ++ ys)
    put-put cells xs ys h =
        let t : List Row = upsert_all key xs (rows_of l cells) in
        ap (λ (rows : List Row). write l (put_all cells xs) (upsert_all key ys rows)) (rows-put cells xs h)
        ∙ write-write l lawful cells t (upsert_all key ys t) h (upsert_all-longer key ys t)
        ∙ ap (write l cells) (sym (upsert_all-append key xs ys (rows_of l cells)))

    pub room-put : (cells : List ℤ) (xs : List Row) → l.header ≤ length cells → length (upsert_all key xs (rows_of l cells)) ≤ room_of l cells
        → room_of l (put_all cells xs) ≡ room_of l cells
    room-put cells xs h fit = room-write l lawful cells (upsert_all key xs (rows_of l cells)) h fit

    -- A put, or several, after others.
    module _ (before now : List ℤ) (headed : l.header ≤ length before) (xs : List Row) (e : now ≡ put_all before xs) where
      pub put-more : (after : List ℤ) (ys : List Row) → after ≡ put_all now ys → after ≡ put_all before (xs ++ ys)
      put-more after ys f = f ∙ ap (λ (c : List ℤ). put_all c ys) e ∙ put-put before xs ys headed

      pub put_next : (after : List ℤ) (x : Row) → after ≡ put_one now x → after ≡ put_all before (xs ++ (x ∷ []))
      put_next after x f = put-more after (x ∷ []) (f ∙ put-one now x)
