-- What each way through the definitions of Scan answers: digits, magnitudes, numbers, a field, fields. Assumes nothing.
use Prim.Native.Nat.{ℕ, zero, suc, ◌+◌, ◌-◌, ◌*◌, ◌<◌}
use mathlib.Core.Path.{◌≡◌, refl, ap}
use mathlib.Core.Bool.{Bool, true, false, cond}
use mathlib.Core.List.{List, []}
use mathlib.Core.Option.{Option, none, some}
use native.Mathlib.Omega.{arith}
use lib.Dec.{eqb}
use lib.IntN.{ℤ}
use lib.ListN.{drop}
use Rattle.text.specs.Decimal.{minus}
use Rattle.text.specs.Fields.{tab}
use Rattle.text.specs.Scan.{Taken, taken, first, is_digit, more_digits, most_more_digits, digits_after, take_magnitude, not_negative, negative, take_number, take_field, before, fields_from, take_fields}

-- ---- digits

pub more-digits-full : (value : ℕ) (text : List ℕ) → more_digits 0 value text ≡ taken value text
unfolding more_digits
more-digits-full value text = refl

pub more-digits-next : (room value : ℕ) (text : List ℕ) → is_digit (first text) ≡ true
    → more_digits (suc room) value text ≡ more_digits room (value * 10 + (first text - 48)) (drop 1 text)
unfolding more_digits
more-digits-next room value text e = ap (λ (b : Bool). cond b (more_digits room (value * 10 + (first text - 48)) (drop 1 text)) (taken value text)) e

pub more-digits-end : (room value : ℕ) (text : List ℕ) → is_digit (first text) ≡ false → more_digits room value text ≡ taken value text
unfolding more_digits
more-digits-end zero value text e = refl
more-digits-end (suc room) value text e = ap (λ (b : Bool). cond b (more_digits room (value * 10 + (first text - 48)) (drop 1 text)) (taken value text)) e

pub digits-after-zero : (text : List ℕ) → digits_after 0 text ≡ taken 0 text
unfolding digits_after
digits-after-zero text = refl

pub digits-after-other : (d : ℕ) (text : List ℕ) → 0 < d → digits_after d text ≡ more_digits most_more_digits d text
unfolding digits_after
digits-after-other zero text h = absurd (omega arith)
digits-after-other (suc d) text h = refl

-- ---- a magnitude

pub magnitude-digits : (text : List ℕ) → is_digit (first text) ≡ true → take_magnitude text ≡ some (digits_after (first text - 48) (drop 1 text))
unfolding take_magnitude
magnitude-digits text e = ap (λ (b : Bool). cond b (some (digits_after (first text - 48) (drop 1 text))) none) e

pub magnitude-none : (text : List ℕ) → is_digit (first text) ≡ false → take_magnitude text ≡ none
unfolding take_magnitude
magnitude-none text e = ap (λ (b : Bool). cond b (some (digits_after (first text - 48) (drop 1 text))) none) e

-- ---- a number

pub number-minus : (text : List ℕ) → eqb (first text) minus ≡ true → take_number text ≡ negative (take_magnitude (drop 1 text))
unfolding take_number
number-minus text e = ap (λ (b : Bool). cond b (negative (take_magnitude (drop 1 text))) (not_negative (take_magnitude text))) e

pub number-plain : (text : List ℕ) → eqb (first text) minus ≡ false → take_number text ≡ not_negative (take_magnitude text)
unfolding take_number
number-plain text e = ap (λ (b : Bool). cond b (negative (take_magnitude (drop 1 text))) (not_negative (take_magnitude text))) e

-- ---- a field, and fields

pub field-tab : (text : List ℕ) → eqb (first text) tab ≡ true → take_field text ≡ take_number (drop 1 text)
unfolding take_field
field-tab text e = ap (λ (b : Bool). cond b (take_number (drop 1 text)) none) e

pub field-none : (text : List ℕ) → eqb (first text) tab ≡ false → take_field text ≡ none
unfolding take_field
field-none text e = ap (λ (b : Bool). cond b (take_number (drop 1 text)) none) e

pub fields-full : (text : List ℕ) → take_fields 0 text ≡ taken [] text
unfolding take_fields
fields-full text = refl

pub fields-end : (room : ℕ) (text : List ℕ) → take_field text ≡ none → take_fields room text ≡ taken [] text
unfolding take_fields fields_from
fields-end zero text e = refl
fields-end (suc room) text e = ap (λ (o : Option (Taken ℤ)). fields_from text o (λ (rest : List ℕ). take_fields room rest)) e

pub fields-next : (room : ℕ) (text : List ℕ) (t : Taken ℤ) → take_field text ≡ some t → take_fields (suc room) text ≡ before t.value (take_fields room t.rest)
unfolding take_fields fields_from
fields-next room text t e = ap (λ (o : Option (Taken ℤ)). fields_from text o (λ (rest : List ℕ). take_fields room rest)) e
