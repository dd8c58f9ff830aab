-- What is taken off a text is what would be written there: the text is a number's digits, a number, a field or fields as they are written, and then the rest. Of every text.
-- Assumes nothing.
use Prim.Native.Nat.{ℕ, zero, suc, ◌+◌, ◌-◌, ◌*◌, ◌/◌, ◌%◌, ◌≤◌, ◌<◌}
use mathlib.Core.Path.{◌≡◌, refl, sym, ap, ◌∙◌}
use mathlib.Core.Bool.{Bool, true, false}
use mathlib.Core.List.{List, [], ◌∷◌, ◌++◌, append_assoc}
use mathlib.Core.Option.{Option, none, some, none-ne-some, some-injective}
use native.Mathlib.Omega.{arith}
use borrow.Author.Tests.{eqb-true}
use lib.Dec.{eqb}
use lib.IntN.{ℤ, pos, negsuc}
use lib.ListN.{length, drop}
use Rattle.text.specs.Decimal.{digit, minus, digits_of, number_text}
use Rattle.text.specs.Fields.{tab, fields_text}
use Rattle.text.specs.Scan.{Taken, taken, first, is_digit, more_digits, most_more_digits, digits_after, take_magnitude, not_negative, below_zero, negative, take_number, take_field, before, take_fields}
use Rattle.text.proofs.DecimalLaws.{digits-one, digits_more}
use Rattle.text.proofs.FirstByte.{first_rest, is-digit}
use Rattle.text.proofs.ScanClauses.{more-digits-full, more-digits-next, more-digits-end, digits-after-zero, digits-after-other, magnitude-digits, magnitude-none, number-minus, number-plain, field-tab, field-none, fields-full, fields-end, fields-next}

-- ---- digits

-- One digit more.
pub digits-then : (v d : ℕ) → 0 < v → d < 10 → digits_of (v * 10 + d) ≡ digits_of v ++ (digit d ∷ [])
digits-then v d h g =
    let tenth : (v * 10 + d) / 10 ≡ v = omega arith in
    let last : (v * 10 + d) % 10 ≡ d = omega arith in
    rw (digits_more (v * 10 + d) (omega arith), tenth, last)

-- A first byte that is a digit, as the digit of its value.
digit-rest : (text : List ℕ) → is_digit (first text) ≡ true → text ≡ digit (first text - 48) ∷ drop 1 text
digit-rest text h =
    let (low, high) = is-digit (first text) h in
    first_rest text (omega arith) ∙ ap (λ (b : ℕ). b ∷ drop 1 text) (omega arith)

more-digits-written : (room v : ℕ) (text : List ℕ) → 0 < v → digits_of v ++ text ≡ digits_of (more_digits room v text).value ++ (more_digits room v text).rest
more-digits-written zero v text h = rw more-digits-full
more-digits-written (suc room) v text h = go (is_digit (first text)) refl (more-digits-written room (v * 10 + (first text - 48)) (drop 1 text) (omega arith))
  where
    go : (b : Bool) → is_digit (first text) ≡ b
        → digits_of (v * 10 + (first text - 48)) ++ drop 1 text
        ≡ digits_of (more_digits room (v * 10 + (first text - 48)) (drop 1 text)).value ++ (more_digits room (v * 10 + (first text - 48)) (drop 1 text)).rest
        → digits_of v ++ text ≡ digits_of (more_digits (suc room) v text).value ++ (more_digits (suc room) v text).rest
    go true e onward =
        let (low, high) = is-digit (first text) e in
        let shifted : digits_of v ++ text ≡ digits_of (v * 10 + (first text - 48)) ++ drop 1 text =
        ap (λ (l : List ℕ). digits_of v ++ l) (digit-rest text e) ∙ rw (digits-then v (first text - 48) h (omega arith), append_assoc) in
        rw (more-digits-next room v text e) (shifted ∙ onward)
    go false e onward = rw (more-digits-end (suc room) v text e)

digits-after-written : (d : ℕ) (text : List ℕ) → d < 10 → digit d ∷ text ≡ digits_of (digits_after d text).value ++ (digits_after d text).rest
digits-after-written zero text h = rw (digits-after-zero text, digits-one 0 h)
digits-after-written (suc d) text h =
    rw (digits-after-other (suc d) text (omega arith))
    (ap (λ (l : List ℕ). l ++ text) (sym (digits-one (suc d) h)) ∙ more-digits-written most_more_digits (suc d) text (omega arith))

-- ---- a magnitude

pub magnitude-written : (text : List ℕ) (t : Taken ℕ) → take_magnitude text ≡ some t → text ≡ digits_of t.value ++ t.rest
magnitude-written text t h = go (is_digit (first text)) refl
  where
    go : (b : Bool) → is_digit (first text) ≡ b → text ≡ digits_of t.value ++ t.rest
    go true e =
        let (low, high) = is-digit (first text) e in
        let is : digits_after (first text - 48) (drop 1 text) ≡ t = some-injective (digits_after (first text - 48) (drop 1 text)) t (sym (magnitude-digits text e) ∙ h) in
        digit-rest text e
        ∙ digits-after-written (first text - 48) (drop 1 text) (omega arith)
        ∙ ap (λ (t : Taken ℕ). digits_of t.value ++ t.rest) is
    go false e = absurd (none-ne-some t (sym (magnitude-none text e) ∙ h))

-- ---- a number

not-negative-written : (text : List ℕ) (m : Option (Taken ℕ)) (t : Taken ℤ) → take_magnitude text ≡ m → not_negative m ≡ some t → text ≡ number_text t.value ++ t.rest
unfolding not_negative number_text
not-negative-written text none t e h = absurd (none-ne-some t h)
not-negative-written text (some m) t e h =
    magnitude-written text m e ∙ ap (λ (t : Taken ℤ). number_text t.value ++ t.rest) (some-injective (taken (pos m.value) m.rest) t h)

below-zero-written : (n : ℕ) (rest : List ℕ) (t : Taken ℤ) → below_zero n rest ≡ some t → minus ∷ (digits_of n ++ rest) ≡ number_text t.value ++ t.rest
unfolding below_zero number_text
below-zero-written zero rest t h = absurd (none-ne-some t h)
below-zero-written (suc n) rest t h = ap (λ (t : Taken ℤ). number_text t.value ++ t.rest) (some-injective (taken (negsuc n) rest) t h)

negative-written : (text : List ℕ) (m : Option (Taken ℕ)) (t : Taken ℤ) → take_magnitude text ≡ m → negative m ≡ some t → minus ∷ text ≡ number_text t.value ++ t.rest
unfolding negative
negative-written text none t e h = absurd (none-ne-some t h)
negative-written text (some m) t e h = ap (λ (l : List ℕ). minus ∷ l) (magnitude-written text m e) ∙ below-zero-written m.value m.rest t h

pub number-written : (text : List ℕ) (t : Taken ℤ) → take_number text ≡ some t → text ≡ number_text t.value ++ t.rest
number-written text t h = go (eqb (first text) minus) refl
  where
    go : (b : Bool) → eqb (first text) minus ≡ b → text ≡ number_text t.value ++ t.rest
    go true e =
        let at : first text ≡ minus = eqb-true (first text) minus e in
        first_rest text (omega arith)
        ∙ ap (λ (b : ℕ). b ∷ drop 1 text) at
        ∙ negative-written (drop 1 text) (take_magnitude (drop 1 text)) t refl (sym (number-minus text e) ∙ h)
    go false e = not-negative-written text (take_magnitude text) t refl (sym (number-plain text e) ∙ h)

-- ---- a field, and fields

pub field-written : (text : List ℕ) (t : Taken ℤ) → take_field text ≡ some t → text ≡ tab ∷ (number_text t.value ++ t.rest)
field-written text t h = go (eqb (first text) tab) refl
  where
    go : (b : Bool) → eqb (first text) tab ≡ b → text ≡ tab ∷ (number_text t.value ++ t.rest)
    go true e =
        let at : first text ≡ tab = eqb-true (first text) tab e in
        first_rest text (omega arith)
        ∙ ap (λ (b : ℕ). b ∷ drop 1 text) at
        ∙ ap (λ (l : List ℕ). tab ∷ l) (number-written (drop 1 text) t (sym (field-tab text e) ∙ h))
    go false e = absurd (none-ne-some t (sym (field-none text e) ∙ h))

pub fields-written : (room : ℕ) (text : List ℕ) → text ≡ fields_text (take_fields room text).value ++ (take_fields room text).rest
unfolding fields_text before
fields-written zero text = rw fields-full
fields-written (suc room) text = go (take_field text) refl (λ (rest : List ℕ). fields-written room rest)
  where
    go : (o : Option (Taken ℤ)) → take_field text ≡ o → ((rest : List ℕ) → rest ≡ fields_text (take_fields room rest).value ++ (take_fields room rest).rest)
        → text ≡ fields_text (take_fields (suc room) text).value ++ (take_fields (suc room) text).rest
    go none e onward = rw (fields-end (suc room) text e)
    go (some t) e onward =
        rw (fields-next room text t e)
        (field-written text t e ∙ rw append_assoc (ap (λ (l : List ℕ). tab ∷ (number_text t.value ++ l)) (onward t.rest)))

pub fields-in-room : (room : ℕ) (text : List ℕ) → length (take_fields room text).value ≤ room
unfolding before
fields-in-room zero text = rw fields-full (omega arith)
fields-in-room (suc room) text = go (take_field text) refl (λ (rest : List ℕ). fields-in-room room rest)
  where
    go : (o : Option (Taken ℤ)) → take_field text ≡ o → ((rest : List ℕ) → length (take_fields room rest).value ≤ room) → length (take_fields (suc room) text).value ≤ suc room
    go none e onward = rw (fields-end (suc room) text e) (omega arith)
    go (some t) e onward = rw (fields-next room text t e) (omega (arith, onward t.rest))
