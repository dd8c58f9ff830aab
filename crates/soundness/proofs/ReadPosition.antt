-- The position that a request reads at an account and series, where an absent row reads as zeros: it has that key, it is sound where the table is,
-- and a position put at that key is what is read there afterwards. Assumes nothing.
use mathlib.Core.Path.{◌≡◌, ◌∙◌, ap, subst}
use mathlib.Core.Bool.{true}
use mathlib.Core.List.{List, [], ◌∷◌, map}
use mathlib.Core.Option.{Option, some}
use lib.IntN.{ℤ}
use Rattle.integers.specs.Order.{in_range}
use Rattle.rules.specs.Figures.{magnitude_at_most}
use Rattle.rules.specs.Keyed.{Key, find, upsert, upsert_all}
use Rattle.rules.specs.Rows.{key_of, position_key, or_zeros, zero_position, valid_total, sound_position}
use Rattle.rules.specs.Refusal.{all_of}
use Rattle.rules.specs.declared.Position.{Position}
use Rattle.keys.proofs.Split.{Found, absent, present, found}
use Rattle.keys.proofs.Lookup.{find-key, find-all, find-upsert}
use Rattle.keys.proofs.Clauses.{upsert_all-nil, upsert_all-cons}

-- The position read at an account and series.
abbrev pub read_at : ℤ → ℤ → List Position → Position
read_at account series t = or_zeros account series (find position_key (key_of account series) t)

pub read-key : (account series : ℤ) (t : List Position) → position_key (read_at account series t) ≡ key_of account series
unfolding or_zeros zero_position
read-key account series t = go (found (find position_key (key_of account series) t))
  where
    go : Found (find position_key (key_of account series) t) → position_key (read_at account series t) ≡ key_of account series
    go (absent f) = ap (λ (o : Option Position). position_key (or_zeros account series o)) f
    go (present x f) = ap (λ (o : Option Position). position_key (or_zeros account series o)) f ∙ find-key position_key (key_of account series) t x f

pub read-sound : (account series : ℤ) (t : List Position) → all_of (map sound_position t) ≡ true → sound_position (read_at account series t) ≡ true
unfolding or_zeros zero_position sound_position in_range magnitude_at_most valid_total
read-sound account series t h = go (found (find position_key (key_of account series) t))
  where
    go : Found (find position_key (key_of account series) t) → sound_position (read_at account series t) ≡ true
    go (absent f) = ap (λ (o : Option Position). sound_position (or_zeros account series o)) f
    go (present x f) = ap (λ (o : Option Position). sound_position (or_zeros account series o)) f ∙ find-all position_key sound_position (key_of account series) t x h f

-- One put at the key that was read.
pub read-put : (account series : ℤ) (p : Position) (t : List Position) → position_key p ≡ key_of account series → read_at account series (upsert_all position_key (p ∷ []) t) ≡ p
unfolding or_zeros
read-put account series p t e =
    let f : find position_key (key_of account series) (upsert position_key p t) ≡ some p = subst (λ (k : Key). find position_key k (upsert position_key p t) ≡ some p) e (find-upsert position_key p t) in
    ap (λ (u : List Position). read_at account series u) (upsert_all-cons position_key p [] t ∙ upsert_all-nil position_key (upsert position_key p t))
    ∙ ap (λ (o : Option Position). or_zeros account series o) f
