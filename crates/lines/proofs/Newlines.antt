-- Where the newlines of a line are: an accepted line has one, its last byte (`one_line`). So what stands after the first newline of a text that begins with a line is what follows that line.
-- Assumes nothing.
use Prim.Native.Nat.{ℕ, suc, ◌+◌, ◌/◌, ◌%◌, ◌<◌, ◌≤◌}
use mathlib.Core.Path.{◌≡◌, refl, sym, ap, ◌∙◌}
use mathlib.Core.Bool.{Bool, true, false, cond}
use mathlib.Core.List.{List, [], ◌∷◌, ◌++◌, append_assoc, flat_map}
use mathlib.Core.Logic.{◌⊎◌, inl, inr}
use native.Mathlib.Omega.{arith}
use borrow.Author.Tests.{ne_eqb}
use lib.Dec.{eqb}
use lib.IntN.{ℤ, pos, negsuc}
use lib.ListN.{length}
use Rattle.text.specs.Decimal.{digit, minus, digits_of, number_text}
use Rattle.text.specs.Fields.{tab, newline, fields_text}
use Rattle.text.proofs.DecimalLaws.{digits-one, digits_more, by_digits}
use Rattle.rules.specs.Request.{Request}
use Rattle.rules.specs.Line.{heading_text, line_text, line_of, is_journalled, passes_test3}
use Rattle.rules.specs.declared.Step.TheVariants.{Open, Claim, Cancel, Refuse, ApproveGiver, ApproveTaker}
use Rattle.rules.specs.declared.Heading.{Heading}
use Rattle.rules.specs.declared.Heading.TheVariants.{Trade, Separation, Transfer, Merge, GiveUp, Day}
use Rattle.keys.proofs.Split.{split, cond-true, cond-false}
use Rattle.lines.specs.Journalled.{AllJournalled}
use Rattle.lines.specs.LineNumbers.{newlines, after_newline, OneLine}
use Rattle.lines.proofs.NamedRequests.{ItsLine, its-line}

-- ---- counted

counted : (b : Bool) (n k : ℕ) → cond b (suc n) n + k ≡ cond b (suc (n + k)) (n + k)
counted true n k = omega arith
counted false n k = refl

newlines-append : (a b : List ℕ) → newlines (a ++ b) ≡ newlines a + newlines b
unfolding newlines
newlines-append [] b = omega arith
newlines-append (x ∷ a) b = ap (λ (n : ℕ). cond (eqb x newline) (suc n) n) (newlines-append a b) ∙ sym (counted (eqb x newline) (newlines a) (newlines b))

other_byte : (b : ℕ) (rest : List ℕ) → (b ≡ newline → ⊥) → newlines (b ∷ rest) ≡ newlines rest
unfolding newlines
other_byte b rest h = cond-false (suc (newlines rest)) (newlines rest) (ne_eqb b newline h)

none-in-both : (a b : List ℕ) → newlines a ≡ 0 → newlines b ≡ 0 → newlines (a ++ b) ≡ 0
none-in-both a b h g = omega (arith, newlines-append a b)

-- ---- none in a heading or a field

heading-has-none : (heading : Heading) → newlines (heading_text heading) ≡ 0
unfolding newlines
heading-has-none Trade = refl
heading-has-none Separation = refl
heading-has-none Transfer = refl
heading-has-none Merge = refl
heading-has-none (GiveUp Open) = refl
heading-has-none (GiveUp Claim) = refl
heading-has-none (GiveUp Cancel) = refl
heading-has-none (GiveUp Refuse) = refl
heading-has-none (GiveUp ApproveGiver) = refl
heading-has-none (GiveUp ApproveTaker) = refl
heading-has-none Day = refl

digit-has-none : (n : ℕ) → newlines (digit n ∷ []) ≡ 0
unfolding newlines
digit-has-none n = other_byte (digit n) [] (λ e. omega arith)

digits-have-none : (n : ℕ) → newlines (digits_of n) ≡ 0
digits-have-none n = by_digits (λ n. newlines (digits_of n) ≡ 0) one more n
  where
    one : (n : ℕ) → n < 10 → newlines (digits_of n) ≡ 0
    one n few = ap newlines (digits-one n few) ∙ digit-has-none n

    more : (n : ℕ) → 10 ≤ n → newlines (digits_of (n / 10)) ≡ 0 → newlines (digits_of n) ≡ 0
    more n many before = ap newlines (digits_more n many) ∙ none-in-both (digits_of (n / 10)) (digit (n % 10) ∷ []) before (digit-has-none (n % 10))

number-has-none : (z : ℤ) → newlines (number_text z) ≡ 0
unfolding number_text
number-has-none (pos n) = digits-have-none n
number-has-none (negsuc n) = other_byte minus (digits_of (suc n)) (λ e. omega arith) ∙ digits-have-none (suc n)

fields-have-none : (figures : List ℤ) → newlines (fields_text figures) ≡ 0
unfolding fields_text newlines
fields-have-none [] = refl
fields-have-none (z ∷ rest) =
    other_byte tab (number_text z ++ fields_text rest) (λ e. omega arith) ∙ none-in-both (number_text z) (fields_text rest) (number-has-none z) (fields-have-none rest)

-- ---- one line

line-text-one : (heading : Heading) (figures : List ℤ) → OneLine (line_text heading figures)
unfolding line_text
line-text-one heading figures = record {
  front = heading_text heading ++ fields_text figures;
  ended = sym (append_assoc (heading_text heading) (fields_text figures) (newline ∷ []));
  no_other = none-in-both (heading_text heading) (fields_text figures) (heading-has-none heading) (fields-have-none figures);
}

-- An accepted line has exactly one newline, its last byte.
pub one_line : (r : Request) → is_journalled r ≡ true → passes_test3 r ≡ true → OneLine (line_of r)
one_line r journalled passes =
    let l : ItsLine r = its-line r journalled passes in
    let o : OneLine (line_text l.heading l.figures) = line-text-one l.heading l.figures in
    record { front = o.front; ended = l.written ∙ o.ended; no_other = o.no_other }

-- ---- after a line

after_front : (front rest : List ℕ) → newlines front ≡ 0 → after_newline (front ++ (newline ∷ rest)) ≡ rest
unfolding newlines after_newline
after_front [] rest h = refl
after_front (b ∷ front) rest h = go (split (eqb b newline)) (after_front front rest)
  where
    go : (eqb b newline ≡ true) ⊎ (eqb b newline ≡ false) → (newlines front ≡ 0 → after_newline (front ++ (newline ∷ rest)) ≡ rest)
        → cond (eqb b newline) (front ++ (newline ∷ rest)) (after_newline (front ++ (newline ∷ rest))) ≡ rest
    go (inl e) again = let one : suc (newlines front) ≡ 0 = sym (cond-true (suc (newlines front)) (newlines front) e) ∙ h in absurd (omega arith)
    go (inr e) again =
        cond-false (front ++ (newline ∷ rest)) (after_newline (front ++ (newline ∷ rest))) e ∙ again (sym (cond-false (suc (newlines front)) (newlines front) e) ∙ h)

line-then : (line rest : List ℕ) (o : OneLine line) → line ++ rest ≡ o.front ++ (newline ∷ rest)
line-then line rest o = ap (λ (l : List ℕ). l ++ rest) o.ended ∙ append_assoc o.front (newline ∷ []) rest

pub after_line : (line rest : List ℕ) → OneLine line → after_newline (line ++ rest) ≡ rest
after_line line rest o = ap after_newline (line-then line rest o) ∙ after_front o.front rest o.no_other

line-counted : (line : List ℕ) → OneLine line → newlines line ≡ 1
unfolding newlines
line-counted line o = ap newlines o.ended ∙ newlines-append o.front (newline ∷ []) ∙ ap (λ (n : ℕ). n + 1) o.no_other

-- As many newlines as lines.
pub lines-counted : (requests : List Request) → AllJournalled requests → newlines (flat_map line_of requests) ≡ length requests
unfolding flat_map newlines
lines-counted [] all = refl
lines-counted (r ∷ rest) all =
    omega (arith, newlines-append (line_of r) (flat_map line_of rest), line-counted (line_of r) (one_line r all.0 all.1), lines-counted rest all.2)
