-- The first byte of a text: a text that has one is it and the rest; the bytes that are digits, and their values. Assumes nothing.
use Prim.Native.Nat.{ℕ, ◌≤◌, ◌<◌}
use mathlib.Core.Path.{◌≡◌, refl, ap, ◌∙◌}
use mathlib.Core.Bool.{Bool, true, false, ◌&&◌}
use mathlib.Core.List.{List, [], ◌∷◌}
use native.Mathlib.Omega.{arith}
use borrow.Author.Tests.{leb-true, le-leb, lt-leb}
use lib.Dec.{leb}
use lib.ListN.{drop}
use Rattle.text.specs.Scan.{first, is_digit}

-- Past the end the first byte is 0.
pub first_rest : (text : List ℕ) → 0 < first text → text ≡ first text ∷ drop 1 text
first_rest [] h = absurd (omega arith)
first_rest (b ∷ rest) h = refl

both_true : (a b : Bool) → (a && b) ≡ true → (a ≡ true) × (b ≡ true)
both_true true b h = (refl, h)
both_true false b h = (h, cc)

true-both : (a b : Bool) → a ≡ true → b ≡ true → (a && b) ≡ true
true-both a b h g = ap (λ (t : Bool). t && b) h ∙ g

pub is-digit : (b : ℕ) → is_digit b ≡ true → (48 ≤ b) × (b ≤ 57)
unfolding is_digit
is-digit b h = let (low, high) = both_true (leb 48 b) (leb b 57) h in (leb-true 48 b low, leb-true b 57 high)

pub digit-is : (b : ℕ) → 48 ≤ b → b ≤ 57 → is_digit b ≡ true
unfolding is_digit
digit-is b low high = true-both (leb 48 b) (leb b 57) (le-leb 48 b low) (le-leb b 57 high)

pub below-digits : (b : ℕ) → b < 48 → is_digit b ≡ false
unfolding is_digit
below-digits b h = ap (λ (t : Bool). t && leb b 57) (lt-leb 48 b h)
