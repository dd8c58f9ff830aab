-- The figures stored beside positions, once positions are put: at the account and series of one that is put they are its own, at others as they were. So a figure that grows by an amount where the
-- position is put grows by `amount_at` everywhere. By the lookups of keyed tables. Assumes nothing.
use mathlib.Core.Path.{◌≡◌, sym, ◌∙◌, ap, subst}
use mathlib.Core.Bool.{Bool, true, false, ◌&&◌}
use mathlib.Core.List.{List, [], ◌∷◌}
use mathlib.Core.Logic.{◌⊎◌, inl, inr}
use mathlib.Core.Option.{Option, some}
use lib.IntN.{ℤ, pos, ◌+ℤ◌, +ℤ_idr}
use Rattle.integers.specs.Order.{eq_z}
use Rattle.integers.proofs.Linear.{zarith, +-lin}
use Rattle.rules.specs.Keyed.{Key, same, find, upsert, upsert_all}
use Rattle.rules.specs.Rows.{key_of, position_key, or_zeros}
use Rattle.rules.specs.declared.Position.{Position}
use Rattle.keys.proofs.Split.{split, cond-true, cond-false}
use Rattle.keys.proofs.KeyOrder.{same-eq}
use Rattle.keys.proofs.Lookup.{find-upsert, find-upsert-other}
use Rattle.keys.proofs.Clauses.{upsert_all-nil, upsert_all-cons}
use Rattle.soundness.proofs.ReadPosition.{read_at}
use Rattle.totals.specs.Amounts.{same_position, amount_at}

-- No position is put.
pub stored-none : (figure : Position → ℤ) (t : List Position) (a s : ℤ) → figure (read_at a s (upsert_all position_key [] t)) ≡ figure (read_at a s t) +ℤ pos 0
stored-none figure t a s = ap (λ (u : List Position). figure (read_at a s u)) (upsert_all-nil position_key t) ∙ sym (+ℤ_idr (figure (read_at a s t)))

-- A figure of positions, and a position that is put at an account and series.
module _ (figure : Position → ℤ) (account series : ℤ) where
  amount-here : (amount a s : ℤ) → same (key_of account series) (key_of a s) ≡ true → amount_at account series amount a s ≡ amount
  unfolding amount_at same_position same
  amount-here amount a s e = cond-true amount (pos 0) e

  amount-elsewhere : (amount a s : ℤ) → same (key_of account series) (key_of a s) ≡ false → amount_at account series amount a s ≡ pos 0
  unfolding amount_at same_position same
  amount-elsewhere amount a s e = cond-false amount (pos 0) e

  -- It is what is read there.
  read_here : (p : Position) (t : List Position) → position_key p ≡ key_of account series → read_at account series (upsert position_key p t) ≡ p
  unfolding or_zeros
  read_here p t e =
      ap (λ (o : Option Position). or_zeros account series o) (subst (λ (k : Key). find position_key k (upsert position_key p t) ≡ some p) e (find-upsert position_key p t))

  -- At others nothing changes.
  read-elsewhere : (p : Position) (t : List Position) → position_key p ≡ key_of account series → (a s : ℤ) → same (key_of account series) (key_of a s) ≡ false →
      read_at a s (upsert position_key p t) ≡ read_at a s t
  read-elsewhere p t e a s d =
      ap (λ (o : Option Position). or_zeros a s o) (find-upsert-other position_key (key_of a s) p t (ap (λ (k : Key). same k (key_of a s)) e ∙ d))

  pub stored-put : (p : Position) (t : List Position) (amount : ℤ) → position_key p ≡ key_of account series → figure p ≡ figure (read_at account series t) +ℤ amount →
      (a s : ℤ) → figure (read_at a s (upsert position_key p t)) ≡ figure (read_at a s t) +ℤ amount_at account series amount a s
  stored-put p t amount e grown a s = go (split (same (key_of account series) (key_of a s)))
    where
      go : (same (key_of account series) (key_of a s) ≡ true) ⊎ (same (key_of account series) (key_of a s) ≡ false) →
          figure (read_at a s (upsert position_key p t)) ≡ figure (read_at a s t) +ℤ amount_at account series amount a s
      go (inl here) =
          subst (λ (k : Key). figure (read_at k.major k.minor (upsert position_key p t)) ≡ figure (read_at k.major k.minor t) +ℤ amount)
          (same-eq (key_of account series) (key_of a s) here) (ap figure (read_here p t e) ∙ grown)
          ∙ ap (λ (z : ℤ). figure (read_at a s t) +ℤ z) (sym (amount-here amount a s here))
      go (inr elsewhere) =
          ap figure (read-elsewhere p t e a s elsewhere) ∙ sym (+ℤ_idr (figure (read_at a s t)))
          ∙ ap (λ (z : ℤ). figure (read_at a s t) +ℤ z) (sym (amount-elsewhere amount a s elsewhere))

  pub stored_one : (p : Position) (t : List Position) (amount : ℤ) → position_key p ≡ key_of account series → figure p ≡ figure (read_at account series t) +ℤ amount →
      (a s : ℤ) → figure (read_at a s (upsert_all position_key (p ∷ []) t)) ≡ figure (read_at a s t) +ℤ amount_at account series amount a s
  stored_one p t amount e grown a s =
      ap (λ (u : List Position). figure (read_at a s u)) (upsert_all-cons position_key p [] t ∙ upsert_all-nil position_key (upsert position_key p t))
      ∙ stored-put p t amount e grown a s

-- Two positions of one series, of different accounts.
pub stored-two : (figure : Position → ℤ) (from to series : ℤ) → eq_z from to ≡ false → (p q : Position) (t : List Position) (left came : ℤ) →
    position_key p ≡ key_of from series → figure p ≡ figure (read_at from series t) +ℤ left →
    position_key q ≡ key_of to series → figure q ≡ figure (read_at to series t) +ℤ came →
    (a s : ℤ) → figure (read_at a s (upsert_all position_key (p ∷ q ∷ []) t)) ≡ figure (read_at a s t) +ℤ (amount_at from series left a s +ℤ amount_at to series came a s)
unfolding same
stored-two figure from to series differ p q t left came p-key p-grown q-key q-grown a s =
    let u : List Position = upsert position_key p t in
    let old : ℤ = figure (read_at a s t) in
    let out : ℤ = amount_at from series left a s in
    let in-again : ℤ = amount_at to series came a s in
    let apart : same (key_of from series) (key_of to series) ≡ false = ap (λ (c : Bool). c && eq_z series series) differ in
    let q-later : figure q ≡ figure (read_at to series u) +ℤ came = q-grown ∙ ap (λ (x : Position). figure x +ℤ came) (sym (read-elsewhere figure from series p t p-key to series apart)) in
    let first : figure (read_at a s u) ≡ old +ℤ out = stored-put figure from series p t left p-key p-grown a s in
    let both : figure (read_at a s (upsert_all position_key (p ∷ q ∷ []) t)) ≡ figure (read_at a s u) +ℤ in-again =
    ap (λ (w : List Position). figure (read_at a s w)) (upsert_all-cons position_key p (q ∷ []) t) ∙ stored_one figure to series q u came q-key q-later a s in
    omega (zarith, +-lin old out, +-lin (figure (read_at a s u)) in-again, +-lin out in-again, +-lin old (out +ℤ in-again))
