-- The text of a number by its sign and its magnitude, and the text of fields one after the other. Assumes nothing.
use Prim.Native.Nat.{ℕ, ◌+◌, ◌<◌, ◌≤◌}
use mathlib.Core.Path.{◌≡◌, refl, ap}
use mathlib.Core.List.{List, [], ◌∷◌, ◌++◌, append_assoc, append-nil}
use native.Mathlib.Numerals.{add-one}
use native.Mathlib.Omega.{arith}
use lib.IntN.{ℤ, pos, negsuc, nat_abs}
use lib.ListN.{length, take, drop, get_or, length-append, take-append-drop}
use lib.Seq.{take-suc}
use lib.Signed.{◌≤ℤ◌, ◌<ℤ◌, lt_z}
use mir.Facts.{to_z-of_z}
use mir.Syntax.{w64}
use mir.Val.{SFits, to_z, of_z, bool_byte}
use mathlib.Core.Bool.{Bool, true, false}
use Rattle.integers.proofs.Linear.{zarith}
use Rattle.text.specs.Decimal.{minus, digits_of, number_text}
use Rattle.text.specs.Fields.{tab, fields_text}

pub below-zero : (z : ℤ) → z <ℤ pos 0 → number_text z ≡ minus ∷ digits_of (nat_abs z)
unfolding number_text
below-zero (pos n) below = absurd (omega (zarith, below))
below-zero (negsuc n) below = refl

pub not-below-zero : (z : ℤ) → pos 0 ≤ℤ z → number_text z ≡ digits_of (nat_abs z)
unfolding number_text
not-below-zero (pos n) left = refl
not-below-zero (negsuc n) left = absurd (omega (zarith, left))

-- The same of a number as code has it, by its bits.
module _ {z : ℤ} (fits : SFits w64 z) where
  pub magnitude : {m : ℕ} → m ≡ nat_abs (to_z w64 (of_z w64 z)) → m ≡ nat_abs z
  magnitude e = simp (to_z-of_z fits) at e

  pub text-below : lt_z (to_z w64 (of_z w64 z)) (pos 0) ≡ true → number_text z ≡ minus ∷ digits_of (nat_abs z)
  text-below h = below-zero z (omega (zarith, simp (to_z-of_z fits) at h))

  pub text-not-below : {m : ℕ} → lt_z (to_z w64 (of_z w64 z)) (pos 0) ≡ false → m ≡ nat_abs (to_z w64 (of_z w64 z)) → number_text z ≡ digits_of m
  text-not-below h e = rw (magnitude e) (not-below-zero z (omega (zarith, simp (to_z-of_z fits) at h)))

  -- A minus is one byte more.
  with-sign : {m : ℕ} (b : Bool) → lt_z (to_z w64 (of_z w64 z)) (pos 0) ≡ b → m ≡ nat_abs (to_z w64 (of_z w64 z)) → length (number_text z) ≡ length (digits_of m) + bool_byte b
  with-sign true h e = rw (magnitude e) (omega (arith, ap length (text-below h)))
  with-sign false h e = omega (arith, ap length (text-not-below h e))

  pub signed-width : {m : ℕ} → m ≡ nat_abs (to_z w64 (of_z w64 z)) → length (number_text z) ≡ length (digits_of m) + bool_byte (lt_z (to_z w64 (of_z w64 z)) (pos 0))
  signed-width e = with-sign (lt_z (to_z w64 (of_z w64 z)) (pos 0)) refl e

pub one_byte : (b : Bool) → bool_byte b ≤ 1
one_byte true = omega arith
one_byte false = omega arith

pub fields-append : (a b : List ℤ) → fields_text (a ++ b) ≡ fields_text a ++ fields_text b
unfolding fields_text
fields-append [] b = refl
fields-append (z ∷ a) b = rw (fields-append a b) (simp append_assoc)

-- The fields so far and the next one.
pub fields-next : (figures : List ℤ) (i : ℕ) → i < length figures
    → fields_text (take (i + 1) figures) ≡ fields_text (take i figures) ++ (tab ∷ number_text (get_or figures i (pos 0)))
unfolding fields_text
fields-next figures i h = rw (add-one i, take-suc figures i (pos 0), fields-append) (simp append-nil)

pub width-next : (figures : List ℤ) (i : ℕ) → i < length figures
    → length (fields_text (take (i + 1) figures)) ≡ length (fields_text (take i figures)) + (1 + length (number_text (get_or figures i (pos 0))))
width-next figures i h =
    omega (
      arith,
      ap length (fields-next figures i h),
      length-append (fields_text (take i figures)) (tab ∷ number_text (get_or figures i (pos 0))),
    )

-- Some of the fields are no longer than all of them.
pub fields_within : (figures : List ℤ) (i : ℕ) → length (fields_text (take i figures)) ≤ length (fields_text figures)
fields_within figures i =
    let all : fields_text figures ≡ fields_text (take i figures) ++ fields_text (drop i figures) = rw (← fields-append (take i figures) (drop i figures), take-append-drop i figures) in
    omega (arith, ap length all, length-append (fields_text (take i figures)) (fields_text (drop i figures)))
