-- Rows put into a lent table one after the other: what the cells hold after the first so many, and after one more. Over any lawful layout and key.
-- By the laws of writing. Assumes nothing.
use Prim.Native.Nat.{ℕ, zero, suc, ◌+◌, ◌≤◌, ◌<◌}
use native.Mathlib.Numerals.{add-one}
use native.Mathlib.Omega.{arith}
use mathlib.Core.Path.{◌≡◌, sym, ◌∙◌, ap}
use mathlib.Core.Bool.{Bool, true}
use mathlib.Core.List.{List, [], ◌∷◌, map}
use lib.IntN.{ℤ}
use lib.ListN.{length, get_or, take}
use lib.Seq.{take-suc, take_all}
use Rattle.rules.specs.Keyed.{Key, upsert, upsert_all}
use Rattle.rules.specs.Refusal.{all_of}
use Rattle.rules.specs.Layout.{Layout, rows_of, count_is_sound, write}
use Rattle.cells.specs.Lawful.{Lawful}
use Rattle.cells.proofs.Write.{rows_write, write-write, write-own}
use Rattle.keys.proofs.Clauses.{all_of-nil, upsert_all-nil, upsert_all-cons}
use Rattle.keys.proofs.Folds.{Only, only-intro, only-append, upsert_all-append}
use Rattle.keys.proofs.Rising.{upsert-longer}

module _ {Row : Type 0} (key : Row → Key) where
  -- ---- the rows

  pub put-none : (new t : List Row) → upsert_all key (take 0 new) t ≡ t
  put-none new t = upsert_all-nil key t

  pub put-one-more : (new t : List Row) (i : ℕ) (d : Row) → i < length new → upsert_all key (take (i + 1) new) t ≡ upsert key (get_or new i d) (upsert_all key (take i new) t)
  put-one-more new t i d h =
      ap (λ (l : List Row). upsert_all key l t) (ap (λ (n : ℕ). take n new) (add-one i) ∙ take-suc new i d h)
      ∙ upsert_all-append key (take i new) (get_or new i d ∷ []) t
      ∙ upsert_all-cons key (get_or new i d) [] (upsert_all key (take i new) t)
      ∙ upsert_all-nil key (upsert key (get_or new i d) (upsert_all key (take i new) t))

  pub put_all : (new t : List Row) (i : ℕ) → length new ≤ i → upsert_all key (take i new) t ≡ upsert_all key new t
  put_all new t i h = ap (λ (l : List Row). upsert_all key l t) (take_all i new h)

  -- A property of the keys of the first so many rows, place by place.
  pub only-first : (p : Key → Bool) (new : List Row) (i : ℕ) (d : Row) → i ≤ length new → ((j : ℕ) → j < i → p (key (get_or new j d)) ≡ true) → Only key p (take i new)
  only-first p new zero d h each = all_of-nil
  only-first p new (suc i) d h each =
      ap (λ (l : List Row). all_of (map (λ (r : Row). p (key r)) l)) (take-suc new i d (omega arith))
      ∙ only-append key p (take i new) (get_or new i d ∷ []) (only-first p new i d (omega arith) (λ j k. each j (omega arith)))
      (only-intro key p (get_or new i d) [] (each i (omega arith)) all_of-nil)

  -- ---- the cells

  module _ (l : Layout Row) (lawful : Lawful l) (cells : List ℤ) where
    pub cells-at-first : (new : List Row) → count_is_sound l cells ≡ true → cells ≡ write l cells (upsert_all key (take 0 new) (rows_of l cells))
    cells-at-first new sound = sym (ap (λ (rows : List Row). write l cells rows) (put-none new (rows_of l cells)) ∙ write-own l lawful cells sound)

    -- One more row, put into the cells as they are by now.
    pub cells-next : l.header ≤ length cells → (new : List Row) (i : ℕ) (d : Row) (now : List ℤ) → i < length new → now ≡ write l cells (upsert_all key (take i new) (rows_of l cells)) →
        write l now (upsert key (get_or new i d) (rows_of l now)) ≡ write l cells (upsert_all key (take (i + 1) new) (rows_of l cells))
    cells-next headed new i d now h e =
        let t : List Row = upsert_all key (take i new) (rows_of l cells) in
        ap (λ (xs : List ℤ). write l xs (upsert key (get_or new i d) (rows_of l xs))) e
        ∙ ap (λ (rows : List Row). write l (write l cells t) (upsert key (get_or new i d) rows)) (rows_write l lawful cells t headed)
        ∙ write-write l lawful cells t (upsert key (get_or new i d) t) headed (upsert-longer key (get_or new i d) t)
        ∙ ap (λ (rows : List Row). write l cells rows) (sym (put-one-more new (rows_of l cells) i d h))

    pub cells-at-last : (new : List Row) (i : ℕ) (now : List ℤ) → length new ≤ i → now ≡ write l cells (upsert_all key (take i new) (rows_of l cells)) →
        now ≡ write l cells (upsert_all key new (rows_of l cells))
    cells-at-last new i now h e = e ∙ ap (λ (rows : List Row). write l cells rows) (put_all new (rows_of l cells) i h)
