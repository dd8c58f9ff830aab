-- The loop that reads the digits after a first one: what holds before each turn, after a digit, and at its two ends; and how great a number read so can be. Assumes nothing.
use Prim.Native.Nat.{ℕ, zero, suc, ◌+◌, ◌-◌, ◌*◌, ◌^◌, ◌≤◌, ◌<◌}
use native.Mathlib.Omega.{arith}
use mathlib.Core.Path.{◌≡◌, refl, sym, ◌∙◌, ap}
use mathlib.Core.Bool.{Bool, true, false, cond, ◌&&◌}
use mathlib.Core.Logic.{⊎_elim}
use mathlib.Core.List.{List, ◌∷◌}
use borrow.Author.Tests.{le-leb, leb-true}
use lib.Dec.{leb}
use lib.ListN.{get_or, drop}
use Rattle.text.specs.Scan.{taken, first, is_digit, more_digits}
use Rattle.integers.proofs.Parts.{split}
use Rattle.reader.proofs.Places.{first-there, begins}

both : (a b : Bool) → (a && b) ≡ true → (a ≡ true) × (b ≡ true)
both true b h = (refl, h)
both false b h = (cc, cc)

pub digit-range : (b : ℕ) → is_digit b ≡ true → (48 ≤ b) × (b ≤ 57)
unfolding is_digit
digit-range b h = let t : (leb 48 b ≡ true) × (leb b 57 ≡ true) = both (leb 48 b) (leb b 57) h in (leb-true 48 b t.0, leb-true b 57 t.1)

pub digit-there : (b : ℕ) → 48 ≤ b → b ≤ 57 → is_digit b ≡ true
unfolding is_digit
digit-there b least most = rw (le-leb 48 b least, le-leb b 57 most)

pub no-digit : (b : ℕ) → (48 ≤ b → b ≤ 57 → ⊥) → is_digit b ≡ false
no-digit b other = ⊎_elim (λ digit. absurd (other (digit-range b digit).0 (digit-range b digit).1)) (λ none. none) (split (is_digit b))

-- ---- how great

-- What becomes of a bound with so many digits more.
unfoldable pub widened : ℕ → ℕ → ℕ
widened zero bound = bound
widened (suc room) bound = widened room (10 * bound)

widened-mono : (room : ℕ) {m n : ℕ} → m ≤ n → widened room m ≤ widened room n
unfolding widened
widened-mono zero h = h
widened-mono (suc room) h = widened-mono room (omega arith)

widened-least : (room n : ℕ) → n ≤ widened room n
unfolding widened
widened-least zero n = omega arith
widened-least (suc room) n = omega (arith, widened-least room (10 * n))

-- There is room for so many digits after this value.
pub record Room (room value : ℕ) : Type 0 where
  pub bound : widened room (suc value) ≤ 10 ^ 13

pub room-for-twelve : {d : ℕ} → d < 10 → Room 12 d
unfolding widened
room-for-twelve h = record { bound = omega arith }

pub room_small : {room value : ℕ} → Room room value → value < 10 ^ 13
room_small {room} {value} r = omega (arith, r.bound, widened-least room (suc value))

pub room-widens : {room value : ℕ} → Room (suc room) value → value * 10 + 9 < 10 ^ 13
unfolding widened
room-widens {room} {value} r = omega (arith, r.bound, widened-least room (10 * suc value))

pub room-one-less : {room value : ℕ} (b : ℕ) → is_digit b ≡ true → Room (suc room) value → Room room (value * 10 + (b - 48))
unfolding widened
room-one-less {room} {value} b digit r =
    record { bound = omega (arith, r.bound, widened-mono room {m = suc (value * 10 + (b - 48))} {n = 10 * suc value} (omega (arith, (digit-range b digit).1))) }

-- ---- one digit, or none

digit-more : (room value : ℕ) (text : List ℕ) → is_digit (first text) ≡ true → more_digits (suc room) value text ≡ more_digits room (value * 10 + (first text - 48)) (drop 1 text)
unfolding more_digits
digit-more room value text h = ap (λ (t : Bool). cond t (more_digits room (value * 10 + (first text - 48)) (drop 1 text)) (taken value text)) h

no_more : (room value : ℕ) (text : List ℕ) → is_digit (first text) ≡ false → more_digits room value text ≡ taken value text
unfolding more_digits
no_more zero value text h = refl
no_more (suc room) value text h = ap (λ (t : Bool). cond t (more_digits room (value * 10 + (first text - 48)) (drop 1 text)) (taken value text)) h

pub digits-small : (room : ℕ) {value : ℕ} (text : List ℕ) → Room room value → (more_digits room value text).value < 10 ^ 13
unfolding more_digits
digits-small zero text r = room_small r
digits-small (suc room) {value} text r =
    ⊎_elim
    (λ digit. rw (digit-more room value text digit) (digits-small room (drop 1 text) (room-one-less (first text) digit r)))
    (λ other. rw (no_more (suc room) value text other) (room_small r))
    (split (is_digit (first text)))

-- ---- the loop

pub record DigitsSoFar (text : List ℕ) (at start value next room : ℕ) : Type 0 where
  pub same : more_digits room value (drop next text) ≡ more_digits 12 start (drop at text)
  pub small : Room room value

pub no-digits : {text : List ℕ} {at start : ℕ} → start < 10 → DigitsSoFar text at start start at 12
no-digits h = record { same = refl; small = room-for-twelve h }

pub value-widens : {text : List ℕ} {at start value next room : ℕ} → DigitsSoFar text at start value next room → 0 < room → value * 10 + 9 < 10 ^ 13
value-widens {room = zero} d some = absurd (omega arith)
value-widens {room = suc room} d some = room-widens d.small

pub digit-read : {text : List ℕ} {at start value next room b : ℕ} → DigitsSoFar text at start value next room → 0 < room → b ≡ get_or text next 0 → is_digit b ≡ true
    → DigitsSoFar text at start (value * 10 + (b - 48)) (next + 1) (room - 1)
digit-read {room = zero} d some read digit = absurd (omega arith)
digit-read {text} {at} {start} {value} {next} {room = suc room} {b} d some read digit =
    let starts : drop next text ≡ b ∷ drop (next + 1) text = begins text next read refl (omega (arith, (digit-range b digit).0)) in
    let whole : more_digits (suc room) value (drop next text) ≡ more_digits room (value * 10 + (b - 48)) (drop (next + 1) text)
    = ap (more_digits (suc room) value) starts ∙ digit-more room value (b ∷ drop (next + 1) text) digit in
    let left : suc room - 1 ≡ room = omega arith in
    rw left (record { same = sym whole ∙ d.same; small = room-one-less b digit d.small })

pub digits-end : {text : List ℕ} {at start value next room b : ℕ} → DigitsSoFar text at start value next room → b ≡ get_or text next 0 → is_digit b ≡ false
    → taken value (drop next text) ≡ more_digits 12 start (drop at text)
digits-end {text} {at} {start} {value} {next} {room} d read other = sym (no_more room value (drop next text) (rw (first-there text next read) other)) ∙ d.same

pub digits-full : {text : List ℕ} {at start value next room : ℕ} → DigitsSoFar text at start value next room → room ≤ 0 → taken value (drop next text) ≡ more_digits 12 start (drop at text)
unfolding more_digits
digits-full {room = zero} d last = d.same
digits-full {room = suc room} d last = absurd (omega arith)
