-- Test 13 by the last suffix alone: of rows at successive suffixes some suffix is above 65,535 exactly where the last one is. By induction on the parts.
-- Assumes nothing.
use Prim.Native.Nat.{suc}
use mathlib.Core.Path.{◌≡◌, refl, sym, ◌∙◌, ap}
use mathlib.Core.Bool.{Bool, true, false, ◌||◌}
use mathlib.Core.List.{List, [], ◌∷◌, map}
use mathlib.Core.Logic.{◌⊎◌, inl, inr}
use lib.IntN.{ℤ, pos, ◌+ℤ◌}
use lib.ListN.{length}
use lib.Signed.{lt_z, ◌≤ℤ◌}
use Rattle.integers.proofs.Linear.{zarith, +-lin}
use Rattle.rules.specs.Figures.{greatest_of_suffixes}
use Rattle.rules.specs.Rows.{adjustable_record}
use Rattle.rules.specs.Refusal.{any_of}
use Rattle.rules.specs.Plan.{suffix_is_above}
use Rattle.rules.specs.Separation.{part_records}
use Rattle.rules.specs.declared.Record.{Record}
use Rattle.keys.proofs.Split.{split}
use Rattle.verdict.proofs.Remaining.{or_nothing}

-- A suffix is above, or a later one is: the later one is.
pub above-later : (most first last : ℤ) → first ≤ℤ last → (lt_z most first || lt_z most last) ≡ lt_z most last
above-later most first last h = go (split (lt_z most first))
  where
    go : (lt_z most first ≡ true) ⊎ (lt_z most first ≡ false) → (lt_z most first || lt_z most last) ≡ lt_z most last
    go (inl e) = let later : lt_z most last ≡ true = omega zarith in rw (e, later)
    go (inr e) = rw e

-- A row at a suffix and the parts' rows after it.
pub above-parts : (today : ℤ) (r : Record) (suffix : ℤ) (parts : List ℤ)
    → (lt_z greatest_of_suffixes suffix || any_of (map suffix_is_above (part_records today r (suffix +ℤ pos 1) parts))) ≡ lt_z greatest_of_suffixes (suffix +ℤ pos (length parts))
unfolding any_of part_records suffix_is_above adjustable_record
above-parts today r suffix [] =
    let e : suffix +ℤ pos 0 ≡ suffix = omega (zarith, +-lin suffix (pos 0)) in
    or_nothing (lt_z greatest_of_suffixes suffix) ∙ ap (lt_z greatest_of_suffixes) (sym e)
above-parts today r suffix (q ∷ rest) =
    let next : ℤ = suffix +ℤ pos 1 in
    let last : ℤ = next +ℤ pos (length rest) in
    let e : last ≡ suffix +ℤ pos (suc (length rest)) = omega (zarith, +-lin suffix (pos 1), +-lin next (pos (length rest)), +-lin suffix (pos (suc (length rest)))) in
    let h : suffix ≤ℤ last = omega (zarith, +-lin suffix (pos 1), +-lin next (pos (length rest))) in
    ap (λ (b : Bool). lt_z greatest_of_suffixes suffix || b) (above-parts today r next rest)
    ∙ above-later greatest_of_suffixes suffix last h
    ∙ ap (lt_z greatest_of_suffixes) e

-- How many rows the parts make.
pub parts-count : (today : ℤ) (r : Record) (suffix : ℤ) (parts : List ℤ) → length (part_records today r suffix parts) ≡ length parts
unfolding part_records
parts-count today r suffix [] = refl
parts-count today r suffix (q ∷ rest) = ap suc (parts-count today r (suffix +ℤ pos 1) rest)
