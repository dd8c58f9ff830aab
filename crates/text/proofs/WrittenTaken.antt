-- What is written is taken back: digits, a number, a field and fields of at most 13 digits each, before a rest that begins with no digit (and, for fields, with no tab).
-- Assumes nothing.
use Prim.Native.Nat.{ℕ, zero, suc, ◌+◌, ◌-◌, ◌*◌, ◌/◌, ◌%◌, ◌^◌, ◌≤◌, ◌<◌}
use mathlib.Core.Path.{◌≡◌, refl, ap, ◌∙◌}
use mathlib.Core.Bool.{true, false}
use mathlib.Core.List.{List, [], ◌∷◌, ◌++◌, append_assoc}
use mathlib.Core.Logic.{◌⊎◌, inl, inr}
use mathlib.Core.Option.{some}
use native.Mathlib.Nat.{pow-suc}
use native.Mathlib.Omega.{arith}
use borrow.Author.Tests.{ne_eqb}
use lib.Dec.{eqb}
use lib.IntN.{ℤ, pos, negsuc, nat_abs}
use lib.ListN.{length, drop, length-append}
use Rattle.text.specs.Decimal.{digit, minus, digits_of, number_text}
use Rattle.text.specs.Fields.{tab, fields_text}
use Rattle.text.specs.Scan.{Taken, taken, first, is_digit, more_digits, most_more_digits, take_magnitude, not_negative, below_zero, negative, take_number, take_field, before, take_fields}
use Rattle.text.proofs.DecimalLaws.{digits-one, digits_more, one-or-more, by_digits}
use Rattle.text.proofs.FirstByte.{digit-is, below-digits}
use Rattle.text.proofs.ScanClauses.{more-digits-next, more-digits-end, digits-after-zero, digits-after-other, magnitude-digits, number-minus, number-plain, field-tab, field-none, fields-end, fields-next}

-- ---- digits

-- As many digits as the power of ten that the number is below.
pub digits-count : (most n : ℕ) → n < 10 ^ suc most → length (digits_of n) ≤ suc most
digits-count zero n h = rw (digits-one n (omega arith)) (omega arith)
digits-count (suc most) n h = go (one-or-more n) (digits-count most (n / 10))
  where
    go : (n < 10) ⊎ (10 ≤ n) → (n / 10 < 10 ^ suc most → length (digits_of (n / 10)) ≤ suc most) → length (digits_of n) ≤ suc (suc most)
    go (inl one) onward = rw (digits-one n one) (omega arith)
    go (inr more) onward =
        rw (digits_more n more, length-append) (omega (arith, onward (omega (arith, pow-suc 10 (suc most)))))

-- The first digit is none but that of 0.
pub digits-first : (n : ℕ) (rest : List ℕ) → 0 < n → (48 < first (digits_of n ++ rest)) × (first (digits_of n ++ rest) ≤ 57)
digits-first n rest h = by_digits First one more n rest h
  where
    First : ℕ → Type 0
    First n = (rest : List ℕ) → 0 < n → (48 < first (digits_of n ++ rest)) × (first (digits_of n ++ rest) ≤ 57)

    one : (n : ℕ) → n < 10 → First n
    one n few rest h = rw (digits-one n few) (omega arith)

    more : (n : ℕ) → 10 ≤ n → First (n / 10) → First n
    more n many onward rest h = rw (digits_more n many, append_assoc) (onward (digit (n % 10) ∷ rest) (omega arith))

pub digits-begin : (n : ℕ) (rest : List ℕ) → (48 ≤ first (digits_of n ++ rest)) × (first (digits_of n ++ rest) ≤ 57)
digits-begin zero rest = rw (digits-one 0 (omega arith)) (omega arith)
digits-begin (suc n) rest = let (low, high) = digits-first (suc n) rest (omega arith) in (omega arith, high)

-- After the first digit, the others are read into the whole number.
all_digits : (n : ℕ) (room : ℕ) (rest : List ℕ) → length (digits_of n) ≤ suc room
    → more_digits room (first (digits_of n ++ rest) - 48) (drop 1 (digits_of n ++ rest)) ≡ more_digits (suc room - length (digits_of n)) n rest
all_digits n room rest h = by_digits All one more n room rest h
  where
    All : ℕ → Type 0
    All n = (room : ℕ) (rest : List ℕ) → length (digits_of n) ≤ suc room
        → more_digits room (first (digits_of n ++ rest) - 48) (drop 1 (digits_of n ++ rest)) ≡ more_digits (suc room - length (digits_of n)) n rest

    one : (n : ℕ) → n < 10 → All n
    one n few room rest h =
        let value : (48 + n) - 48 ≡ n = omega arith in
        let left : suc room - 1 ≡ room = omega arith in
        rw (digits-one n few, value, left)

    more : (n : ℕ) → 10 ≤ n → All (n / 10) → All n
    more n many onward room rest h =
        let last : is_digit (digit (n % 10)) ≡ true = digit-is (digit (n % 10)) (omega arith) (omega arith) in
        let count : length (digits_of n) ≡ length (digits_of (n / 10)) + 1 = ap length (digits_more n many) ∙ length-append (digits_of (n / 10)) (digit (n % 10) ∷ []) in
        let left : suc room - length (digits_of (n / 10)) ≡ suc (suc room - length (digits_of n)) = omega arith in
        let whole : n / 10 * 10 + (digit (n % 10) - 48) ≡ n = omega arith in
        let joined : digits_of n ++ rest ≡ digits_of (n / 10) ++ (digit (n % 10) ∷ rest) = rw (digits_more n many, append_assoc) in
        ap (λ (l : List ℕ). more_digits room (first l - 48) (drop 1 l)) joined
        ∙ onward room (digit (n % 10) ∷ rest) (omega arith)
        ∙ ap (λ (k : ℕ). more_digits k (n / 10) (digit (n % 10) ∷ rest)) left
        ∙ more-digits-next (suc room - length (digits_of n)) (n / 10) (digit (n % 10) ∷ rest) last
        ∙ ap (λ (v : ℕ). more_digits (suc room - length (digits_of n)) v rest) whole

-- ---- a magnitude

pub magnitude-taken : (n : ℕ) (rest : List ℕ) → n < 10 ^ 13 → is_digit (first rest) ≡ false → take_magnitude (digits_of n ++ rest) ≡ some (taken n rest)
magnitude-taken zero rest h g = rw (digits-one 0 (omega arith)) (magnitude-digits (48 ∷ rest) (digit-is 48 (omega arith) (omega arith)) ∙ ap (λ (t : Taken ℕ). some t) (digits-after-zero rest))
magnitude-taken (suc n) rest h g =
    let (low, high) = digits-first (suc n) rest (omega arith) in
    let text : List ℕ = digits_of (suc n) ++ rest in
    magnitude-digits text (digit-is (first text) (omega arith) high)
    ∙ ap (λ (t : Taken ℕ). some t)
    (digits-after-other (first text - 48) (drop 1 text) (omega arith)
    ∙ all_digits (suc n) most_more_digits rest (omega (arith, digits-count 12 (suc n) h))
    ∙ more-digits-end (suc most_more_digits - length (digits_of (suc n))) (suc n) rest g)

-- ---- a number

pub number-taken : (z : ℤ) (rest : List ℕ) → nat_abs z < 10 ^ 13 → is_digit (first rest) ≡ false → take_number (number_text z ++ rest) ≡ some (taken z rest)
unfolding number_text not_negative negative below_zero
number-taken (pos n) rest h g =
    let (low, high) = digits-begin n rest in
    number-plain (digits_of n ++ rest) (ne_eqb (first (digits_of n ++ rest)) minus (λ e. omega arith)) ∙ ap not_negative (magnitude-taken n rest h g)
number-taken (negsuc n) rest h g =
    number-minus (minus ∷ (digits_of (suc n) ++ rest)) refl ∙ ap negative (magnitude-taken (suc n) rest h g)

-- ---- a field, and fields

pub field-taken : (z : ℤ) (rest : List ℕ) → nat_abs z < 10 ^ 13 → is_digit (first rest) ≡ false → take_field (tab ∷ (number_text z ++ rest)) ≡ some (taken z rest)
field-taken z rest h g = field-tab (tab ∷ (number_text z ++ rest)) refl ∙ number-taken z rest h g

-- Figures of at most 13 digits.
abbrev pub AllShort : List ℤ → Type 0
AllShort [] = Unit {0}
AllShort (z ∷ rest) = (nat_abs z < 10 ^ 13) × AllShort rest

-- What stands after a field is a tab or what stands after all of them.
fields-begin : (zs : List ℤ) (rest : List ℕ) → is_digit (first rest) ≡ false → is_digit (first (fields_text zs ++ rest)) ≡ false
unfolding fields_text
fields-begin [] rest g = g
fields-begin (z ∷ zs) rest g = below-digits tab (omega arith)

pub fields-taken : (room : ℕ) (zs : List ℤ) (rest : List ℕ) → length zs ≤ room → AllShort zs → is_digit (first rest) ≡ false → eqb (first rest) tab ≡ false
    → take_fields room (fields_text zs ++ rest) ≡ taken zs rest
unfolding fields_text before
fields-taken room [] rest h short g f = fields-end room rest (field-none rest f)
fields-taken zero (z ∷ zs) rest h short g f = absurd (omega arith)
fields-taken (suc room) (z ∷ zs) rest h short g f =
    let onward : take_fields room (fields_text zs ++ rest) ≡ taken zs rest = fields-taken room zs rest (omega arith) short.1 g f in
    let one : take_field (tab ∷ (number_text z ++ (fields_text zs ++ rest))) ≡ some (taken z (fields_text zs ++ rest)) =
    field-taken z (fields_text zs ++ rest) short.0 (fields-begin zs rest g) in
    rw append_assoc (fields-next room (tab ∷ (number_text z ++ (fields_text zs ++ rest))) (taken z (fields_text zs ++ rest)) one ∙ ap (before z) onward)
