-- A number and a field from a place on, by the byte that stands there. Assumes nothing.
use Prim.Native.Nat.{ℕ, zero, suc, ◌+◌, ◌-◌, ◌^◌, ◌≤◌, ◌<◌}
use native.Mathlib.Omega.{arith}
use mathlib.Core.Path.{◌≡◌, refl, sym, ◌∙◌, ap}
use mathlib.Core.Bool.{Bool, true, false, cond}
use mathlib.Core.Logic.{⊎_elim}
use mathlib.Core.List.{List, ◌∷◌}
use mathlib.Core.Option.{Option, none, some}
use borrow.Author.Tests.{ne_eqb}
use lib.IntN.{ℤ, pos, neg_ℤ, ◌-ℤ◌, +ℤ_idl}
use lib.ListN.{get_or, drop}
use mir.Facts.{to_z-of_z, to_z_pos}
use mir.Syntax.{w64}
use mir.Val.{SFits, to_z, of_z}
use Rattle.text.specs.Scan.{Taken, taken, first, is_digit, more_digits, digits_after, take_magnitude, not_negative, negative, below_zero, take_number, take_field}
use Rattle.integers.proofs.Parts.{split}
use Rattle.reader.proofs.Places.{first-there, begins}
use Rattle.reader.proofs.MoreDigits.{digit-range, digit-there, no-digit, room-for-twelve, digits-small}

-- ---- a number without a sign

-- Its first digit is not 0: the other digits follow.
digits-after : (d : ℕ) (text : List ℕ) → 0 < d → digits_after d text ≡ more_digits 12 d text
unfolding digits_after
digits-after zero text above = absurd (omega arith)
digits-after (suc d) text above = refl

digits-after-small : (d : ℕ) (text : List ℕ) → d < 10 → (digits_after d text).value < 10 ^ 13
unfolding digits_after
digits-after-small zero text h = omega arith
digits-after-small (suc d) text h = digits-small 12 text (room-for-twelve h)

magnitude-digit : (text : List ℕ) → is_digit (first text) ≡ true → take_magnitude text ≡ some (digits_after (first text - 48) (drop 1 text))
unfolding take_magnitude
magnitude-digit text h = ap (λ (t : Bool). cond t (some (digits_after (first text - 48) (drop 1 text))) none) h

magnitude-none : (text : List ℕ) → is_digit (first text) ≡ false → take_magnitude text ≡ none
unfolding take_magnitude
magnitude-none text h = ap (λ (t : Bool). cond t (some (digits_after (first text - 48) (drop 1 text))) none) h

-- It has at most 13 digits.
pub magnitude-small : (text : List ℕ) {t : Taken ℕ} → some t ≡ take_magnitude text → t.value < 10 ^ 13
magnitude-small text {t} h =
    ⊎_elim
    (λ digit.
    let e : t ≡ digits_after (first text - 48) (drop 1 text) = cc (magnitude-digit text digit) in
    rw e (digits-after-small (first text - 48) (drop 1 text) (omega (arith, (digit-range (first text) digit).1))))
    (λ other. let z : ◌≡◌ {A = ℕ} 0 1 = cc (magnitude-none text other) in absurd (omega arith))
    (split (is_digit (first text)))

module _ (text : List ℕ) (at : ℕ) {b : ℕ} (read : b ≡ get_or text at 0) where
  pub no-magnitude : (48 ≤ b → b ≤ 57 → ⊥) → none ≡ take_magnitude (drop at text)
  no-magnitude other = sym (magnitude-none (drop at text) (rw (first-there text at read) (no-digit b other)))

  pub magnitude-zero : b ≡ 48 → some (taken 0 (drop (at + 1) text)) ≡ take_magnitude (drop at text)
  unfolding is_digit take_magnitude digits_after
  magnitude-zero e = sym (ap take_magnitude (begins text at read e (omega arith)))

  pub magnitude-more : 48 < b → b ≤ 57 → some (more_digits 12 (b - 48) (drop (at + 1) text)) ≡ take_magnitude (drop at text)
  magnitude-more least most =
      let starts : drop at text ≡ b ∷ drop (at + 1) text = begins text at read refl (omega arith) in
      sym (ap take_magnitude starts ∙ magnitude-digit (b ∷ drop (at + 1) text) (digit-there b (omega arith) most) ∙ ap some (digits-after (b - 48) (drop (at + 1) text) (omega arith)))

-- ---- a number

-- After a minus, by what stands there.
pub below_none : {m : Option (Taken ℕ)} → none ≡ m → none ≡ negative m
unfolding negative
below_none h = ap negative h

pub below-zero : {m : Option (Taken ℕ)} {v : ℕ} {rest : List ℕ} → some (taken v rest) ≡ m → v ≡ 0 → none ≡ negative m
unfolding negative below_zero
below-zero {v = zero} h z = ap negative h
below-zero {v = suc n} h z = absurd (omega arith)

pub below-some : {m : Option (Taken ℕ)} {v : ℕ} {rest : List ℕ} → some (taken v rest) ≡ m → (v ≡ 0 → ⊥) → some (taken (neg_ℤ (pos v)) rest) ≡ negative m
unfolding negative below_zero
below-some {v = zero} h other = absurd (other refl)
below-some {v = suc n} h other = ap negative h

-- Where there is no minus.
pub plain-none : {m : Option (Taken ℕ)} → none ≡ m → none ≡ not_negative m
unfolding not_negative
plain-none h = ap not_negative h

pub plain-some : {m : Option (Taken ℕ)} {v : ℕ} {rest : List ℕ} → some (taken v rest) ≡ m → some (taken (pos v) rest) ≡ not_negative m
unfolding not_negative
plain-some h = ap not_negative h

-- Its bits.
module _ {v : ℕ} (small : v < 10 ^ 13) where
  pub value-fits : SFits w64 (pos v)
  value-fits = record { sfits = omega arith }

  pub value-back : to_z w64 v ≡ pos v
  value-back = to_z_pos w64 (omega arith)

  from_zero : pos 0 -ℤ to_z w64 v ≡ neg_ℤ (pos v)
  from_zero = ap (λ (z : ℤ). pos 0 -ℤ z) value-back ∙ +ℤ_idl (neg_ℤ (pos v))

  pub negated_fits : SFits w64 (pos 0 -ℤ to_z w64 v)
  negated_fits = rw from_zero (negated v small)
    where
      negated : (n : ℕ) → n < 10 ^ 13 → SFits w64 (neg_ℤ (pos n))
      negated zero h = record { sfits = omega arith }
      negated (suc n) h = record { sfits = omega arith }

  pub negated_back : to_z w64 (of_z w64 (pos 0 -ℤ to_z w64 v)) ≡ neg_ℤ (pos v)
  negated_back = to_z-of_z negated_fits ∙ from_zero

module _ (text : List ℕ) (at : ℕ) {b : ℕ} (read : b ≡ get_or text at 0) where
  pub number-below : b ≡ 45 → take_number (drop at text) ≡ negative (take_magnitude (drop (at + 1) text))
  unfolding take_number
  number-below e = ap take_number (begins text at read e (omega arith))

  pub number-not-below : (b ≡ 45 → ⊥) → take_number (drop at text) ≡ not_negative (take_magnitude (drop at text))
  unfolding take_number
  number-not-below other = rw (first-there text at read, ne_eqb b 45 other)

  -- ---- a field

  pub field-there : b ≡ 9 → take_field (drop at text) ≡ take_number (drop (at + 1) text)
  unfolding take_field
  field-there e = ap take_field (begins text at read e (omega arith))

  pub no_field : (b ≡ 9 → ⊥) → none ≡ take_field (drop at text)
  unfolding take_field
  no_field other = rw (first-there text at read, ne_eqb b 9 other)
