-- A key's figures as the code hands them to the lookup, read back from their bits. Assumes nothing.
use Rattle.std.proofs.Common.{◌≡◌, ap₂, ◌∙◌, map, get_or, length, ◌<◌, [], List, ℕ, ℤ, pos, FitsSigned, w64, to_z, of_z}
use mir.Facts.{to_z-of_z}
use Rattle.rules.specs.Rows.{key_of}
use Rattle.rules.specs.Merge.{pairs_of}
use Rattle.merge_sources.specs.Pairs.{pair_of, pair_at}
use Rattle.merge_sources.proofs.Earlier.{listed-at}

pub key-read : (id suffix : ℤ) → FitsSigned w64 id → FitsSigned w64 suffix → key_of (to_z w64 (of_z w64 id)) (to_z w64 (of_z w64 suffix)) ≡ key_of id suffix
key-read id suffix f g = ap₂ (λ (x y : ℤ). key_of x y) (to_z-of_z f) (to_z-of_z g)

-- The pair of a turn.
pub pair-read : (pairs : List ℤ) (list : List (List ℤ)) (i : ℕ) → map pair_of list ≡ pairs_of pairs → i < length list →
    FitsSigned w64 (get_or (get_or list i []) 0 (pos 0)) → FitsSigned w64 (get_or (get_or list i []) 1 (pos 0)) →
    key_of (to_z w64 (of_z w64 (get_or (get_or list i []) 0 (pos 0)))) (to_z w64 (of_z w64 (get_or (get_or list i []) 1 (pos 0)))) ≡ pair_at pairs i
pair-read pairs list i are h f g = key-read (get_or (get_or list i []) 0 (pos 0)) (get_or (get_or list i []) 1 (pos 0)) f g ∙ listed-at pairs list are i h
