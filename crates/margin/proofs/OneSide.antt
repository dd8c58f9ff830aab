-- The margin of records on one side, Q the sum of their quantities and V that of quantity times price: Q s - V for buys, its negative for sells.
-- By induction on the records. Assumes nothing.
use mathlib.Core.Path.{◌≡◌, refl, sym, ◌∙◌, ap}
use mathlib.Core.Bool.{Bool, true, false, cond, beq}
use mathlib.Core.List.{List, [], ◌∷◌, map}
use native.Mathlib.Omega.{arith}
use borrow.Author.Tests.{not-false}
use lib.IntN.{ℤ, pos, neg_ℤ, ◌+ℤ◌, ◌-ℤ◌, ◌*ℤ◌, zero-*ℤ}
use Rattle.integers.proofs.Ring.{diff, zdiff}
use Rattle.rules.specs.Figures.{is_buy, signed}
use Rattle.rules.specs.Refusal.{any_of}
use Rattle.rules.specs.Merge.{side_differs, sum_of_quantities, sum_of_values}
use Rattle.rules.specs.Totals.{signed_quantity}
use Rattle.rules.specs.declared.Record.{Record}
use Rattle.soundness.proofs.Accepted.{any_of-head, any_of-tail}
use Rattle.margin.specs.Margin.{margin_of, margin_of_all}

beq-true : (a b : Bool) → beq a b ≡ true → a ≡ b
beq-true true true h = refl
beq-true true false h = sym h
beq-true false true h = h
beq-true false false h = refl

-- Test 10 does not apply: the record's side is the first one's.
one_side : (first r : Record) → side_differs first r ≡ false → is_buy r.side ≡ is_buy first.side
unfolding side_differs
one_side first r h = beq-true (is_buy r.side) (is_buy first.side) (not-false (beq (is_buy r.side) (is_buy first.side)) h)

pub margin-of-buy : (s : ℤ) (r : Record) → is_buy r.side ≡ true → margin_of s r ≡ r.quantity *ℤ (s -ℤ r.price)
unfolding margin_of signed_quantity signed
margin-of-buy s r e = ap (λ (t : Bool). cond t r.quantity (neg_ℤ r.quantity) *ℤ (s -ℤ r.price)) e

pub margin-of-sell : (s : ℤ) (r : Record) → is_buy r.side ≡ false → margin_of s r ≡ neg_ℤ r.quantity *ℤ (s -ℤ r.price)
unfolding margin_of signed_quantity signed
margin-of-sell s r e = ap (λ (t : Bool). cond t r.quantity (neg_ℤ r.quantity) *ℤ (s -ℤ r.price)) e

pub one_more : (q s p qs vs : ℤ) → q *ℤ (s -ℤ p) +ℤ (qs *ℤ s -ℤ vs) ≡ (q +ℤ qs) *ℤ s -ℤ (q *ℤ p +ℤ vs)
one_more q s p qs vs = rw (diff q, diff s, diff p, diff qs, diff vs) (simp zdiff (omega arith))

one-more-sell : (q s p qs vs : ℤ) → neg_ℤ q *ℤ (s -ℤ p) +ℤ neg_ℤ (qs *ℤ s -ℤ vs) ≡ neg_ℤ ((q +ℤ qs) *ℤ s -ℤ (q *ℤ p +ℤ vs))
one-more-sell q s p qs vs = rw (diff q, diff s, diff p, diff qs, diff vs) (simp zdiff (omega arith))

pub margin-of-buys : (s : ℤ) (first : Record) (rs : List Record) → is_buy first.side ≡ true → any_of (map (side_differs first) rs) ≡ false →
    margin_of_all s rs ≡ sum_of_quantities rs *ℤ s -ℤ sum_of_values rs
unfolding margin_of_all sum_of_quantities sum_of_values
margin-of-buys s first [] e h = sym (ap (λ (z : ℤ). z -ℤ pos 0) (zero-*ℤ s))
margin-of-buys s first (r ∷ rest) e h =
    ap (λ (z : ℤ). z +ℤ margin_of_all s rest) (margin-of-buy s r (one_side first r (any_of-head (side_differs first r) (map (side_differs first) rest) h) ∙ e))
    ∙ ap (λ (z : ℤ). r.quantity *ℤ (s -ℤ r.price) +ℤ z) (margin-of-buys s first rest e (any_of-tail (side_differs first r) (map (side_differs first) rest) h))
    ∙ one_more r.quantity s r.price (sum_of_quantities rest) (sum_of_values rest)

pub margin-of-sells : (s : ℤ) (first : Record) (rs : List Record) → is_buy first.side ≡ false → any_of (map (side_differs first) rs) ≡ false →
    margin_of_all s rs ≡ neg_ℤ (sum_of_quantities rs *ℤ s -ℤ sum_of_values rs)
unfolding margin_of_all sum_of_quantities sum_of_values
margin-of-sells s first [] e h = sym (ap (λ (z : ℤ). neg_ℤ (z -ℤ pos 0)) (zero-*ℤ s))
margin-of-sells s first (r ∷ rest) e h =
    ap (λ (z : ℤ). z +ℤ margin_of_all s rest) (margin-of-sell s r (one_side first r (any_of-head (side_differs first r) (map (side_differs first) rest) h) ∙ e))
    ∙ ap (λ (z : ℤ). neg_ℤ r.quantity *ℤ (s -ℤ r.price) +ℤ z) (margin-of-sells s first rest e (any_of-tail (side_differs first r) (map (side_differs first) rest) h))
    ∙ one-more-sell r.quantity s r.price (sum_of_quantities rest) (sum_of_values rest)
