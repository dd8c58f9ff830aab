-- Numbers and fields taken off the front of a text. Nothing here looks at what follows: a digit too many, or a zero before a digit, is left in the rest, where the caller wants a tab or a newline.
use Rattle.std.specs.Prelude.{ℕ, zero, suc, ◌+◌, ◌-◌, ◌*◌, Bool, cond, ◌&&◌, List, [], ◌∷◌, eqb, leb, ℤ, pos, negsuc, get_or, drop}
use Rattle.std.proofs.Math.Option.{Option, none, some}
use Rattle.text.specs.Decimal.{minus}
use Rattle.text.specs.Fields.{tab}

-- What was taken, and the text after it.
pub record Taken (A : Type 0) : Type 0 where
  pub value : A
  pub rest : List ℕ

abbrev pub taken : {A : Type 0} → A → List ℕ → Taken A
taken value rest = record { value = value; rest = rest }

-- The first byte; past the end it is 0, which no line has.
abbrev pub first : List ℕ → ℕ
first text = get_or text 0 0

unfoldable pub is_digit : ℕ → Bool
is_digit b = leb 48 b && leb b 57

-- The value of the digits so far with at most so many more.
unfoldable pub more_digits : ℕ → ℕ → List ℕ → Taken ℕ
more_digits zero value text = taken value text
more_digits (suc room) value text = cond (is_digit (first text)) (more_digits room (value * 10 + (first text - 48)) (drop 1 text)) (taken value text)

-- A figure has at most 13 digits.
abbrev pub most_more_digits : ℕ
most_more_digits = 12

-- After a first digit: "no leading zeros".
unfoldable pub digits_after : ℕ → List ℕ → Taken ℕ
digits_after zero text = taken 0 text
digits_after (suc d) text = more_digits most_more_digits (suc d) text

unfoldable pub take_magnitude : List ℕ → Option (Taken ℕ)
take_magnitude text = cond (is_digit (first text)) (some (digits_after (first text - 48) (drop 1 text))) none

unfoldable pub not_negative : Option (Taken ℕ) → Option (Taken ℤ)
not_negative none = none
not_negative (some t) = some (taken (pos t.value) t.rest)

-- "minus for negatives only": there is no minus zero.
unfoldable pub below_zero : ℕ → List ℕ → Option (Taken ℤ)
below_zero zero rest = none
below_zero (suc n) rest = some (taken (negsuc n) rest)

unfoldable pub negative : Option (Taken ℕ) → Option (Taken ℤ)
negative none = none
negative (some t) = below_zero t.value t.rest

unfoldable pub take_number : List ℕ → Option (Taken ℤ)
take_number text = cond (eqb (first text) minus) (negative (take_magnitude (drop 1 text))) (not_negative (take_magnitude text))

-- A tab and a number.
unfoldable pub take_field : List ℕ → Option (Taken ℤ)
take_field text = cond (eqb (first text) tab) (take_number (drop 1 text)) none

-- One field before others.
unfoldable pub before : ℤ → Taken (List ℤ) → Taken (List ℤ)
before z later = taken (z ∷ later.value) later.rest

-- The fields from here on: none where there is no field, otherwise it and those after it.
unfoldable pub fields_from : List ℕ → Option (Taken ℤ) → (List ℕ → Taken (List ℤ)) → Taken (List ℤ)
fields_from text none onward = taken [] text
fields_from text (some t) onward = before t.value (onward t.rest)

-- Fields as long as there is one, at most so many.
unfoldable pub take_fields : ℕ → List ℕ → Taken (List ℤ)
take_fields zero text = taken [] text
take_fields (suc room) text = fields_from text (take_field text) (λ rest. take_fields room rest)
