-- A cell that gets its old number back.
use Rattle.std.proofs.Common.{◌≡◌, ℕ, List, ℤ, pos, set, get_or, ◌∙◌}
use Rattle.std.proofs.lemmas.List.{set-set}
use Rattle.std.proofs.lemmas.List.{set-get_or}

pub mended : (all : List ℤ) (at : ℕ) (z : ℤ) → set (set all at z) at (get_or all at (pos 0)) ≡ all
mended all at z = set-set all at z (get_or all at (pos 0)) ∙ set-get_or all at (pos 0)
