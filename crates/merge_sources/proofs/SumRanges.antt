-- How great the sums of a merge's sources can be: of sound records, of adjustable ones, and of the first so many of them. By induction on the records.
-- Assumes nothing.
use Prim.Native.Nat.{ℕ, zero, suc, ◌+◌, ◌*◌, ◌≤◌, ◌<◌}
use native.Mathlib.Omega.{arith}
use mathlib.Core.Path.{◌≡◌}
use mathlib.Core.Bool.{Bool, true, false, not, ◌&&◌, beq}
use mathlib.Core.List.{List, [], ◌∷◌, map}
use borrow.Author.Tests.{not-false}
use lib.IntN.{ℤ, pos, neg_ℤ, nat_abs, ◌+ℤ◌, ◌*ℤ◌}
use lib.ListN.{length, take}
use lib.Signed.{◌≤ℤ◌, lt_z}
use Rattle.integers.specs.Order.{eq_z}
use Rattle.integers.specs.Average.{residual_of}
use Rattle.integers.specs.Averageable.{Averageable}
use Rattle.integers.proofs.Linear.{zarith, +-lin, abs-lin}
use Rattle.integers.proofs.Parts.{eq_z-true}
use Rattle.integers.proofs.Products.{nat_abs-+ℤ, nat_abs-mul-≤, nat_abs-≤, ≤-nat_abs}
use Rattle.integers.proofs.AverageLaws.{residual-bound}
use Rattle.rules.specs.Figures.{magnitude_at_most, most_quantity, adjustable, inverse}
use Rattle.rules.specs.Rows.{sound_record, valid_signed_quantity}
use Rattle.rules.specs.NamedRecord.{is_not_adjustable}
use Rattle.rules.specs.Refusal.{any_of, all_of}
use Rattle.rules.specs.Merge.{sum_of_quantities, sum_of_values}
use Rattle.rules.specs.declared.Record.{Record}
use Rattle.keys.proofs.Split.{and_left, and_right}
use Rattle.keys.proofs.Clauses.{all_of-head, all_of-tail}
use Rattle.soundness.proofs.Accepted.{any_of-head, any_of-tail}
use Rattle.soundness.proofs.SoundRecord.{SoundRecord, record-sound}
use Rattle.soundness.proofs.SoundRows.{quantity-of}
use Rattle.soundness.proofs.FigureRanges.{magnitude-range, in-magnitude, price-range}
use Rattle.merge_sources.proofs.Each.{Each, each_take}
use Rattle.merge_sources.proofs.Sums.{sum_over, sum-nil, sum-cons, quantity_of, value_of, quantities-sum, values-sum}

-- ---- one record

-- The quantity of a sound record, whatever its status.
abbrev pub Sized : Record → Type 0
Sized r = nat_abs r.quantity ≤ 1000000

pub sized : (r : Record) → sound_record r ≡ true → Sized r
unfolding valid_signed_quantity
sized r s =
    let some : Bool = not (eq_z r.quantity (pos 0)) in
    let small : Bool = magnitude_at_most most_quantity r.quantity in
    let sign : Bool = beq (lt_z r.quantity (pos 0)) (eq_z r.status inverse) in
    let both : (some && small && sign) ≡ true = (record-sound r s).quantity in
    let range : (neg_ℤ (pos most_quantity) ≤ℤ r.quantity) × (r.quantity ≤ℤ pos most_quantity) =
    magnitude-range most_quantity r.quantity (and_right some small (and_left (some && small) sign both)) in
    ≤-nat_abs r.quantity most_quantity range.0 range.1

-- A sound record of status 0.
pub record Priced (r : Record) : Type 0 where
  pub positive : pos 1 ≤ℤ r.quantity
  pub small : r.quantity ≤ℤ pos most_quantity
  pub price : nat_abs r.price ≤ 1000000000000

pub priced : (r : Record) → sound_record r ≡ true → is_not_adjustable r ≡ false → Priced r
unfolding is_not_adjustable
priced r s n =
    let sound : SoundRecord r = record-sound r s in
    let status : r.status ≡ adjustable = eq_z-true r.status adjustable (not-false (eq_z r.status adjustable) n) in
    record {
      positive = (quantity-of r sound status).0;
      small = (quantity-of r sound status).1;
      price = price-range r.price sound.price;
    }

pub each-sized : (rs : List Record) → all_of (map sound_record rs) ≡ true → Each Sized rs
each-sized [] a = tt
each-sized (r ∷ rest) a =
    (sized r (all_of-head (sound_record r) (map sound_record rest) a), each-sized rest (all_of-tail (sound_record r) (map sound_record rest) a))

pub each-priced : (rs : List Record) → all_of (map sound_record rs) ≡ true → any_of (map is_not_adjustable rs) ≡ false → Each Priced rs
each-priced [] a n = tt
each-priced (r ∷ rest) a n = (
  priced r (all_of-head (sound_record r) (map sound_record rest) a) (any_of-head (is_not_adjustable r) (map is_not_adjustable rest) n),
  each-priced rest (all_of-tail (sound_record r) (map sound_record rest) a) (any_of-tail (is_not_adjustable r) (map is_not_adjustable rest) n),
)

-- ---- sums

pub quantities-range : (rs : List Record) → Each Sized rs → nat_abs (sum_over quantity_of rs) ≤ length rs * 1000000
quantities-range [] e = rw (sum-nil quantity_of) (omega arith)
quantities-range (r ∷ rest) e =
    let s : ℤ = sum_over quantity_of rest in
    let again : nat_abs s ≤ length rest * 1000000 = quantities-range rest e.1 in
    rw (sum-cons quantity_of r rest) (omega (arith, nat_abs-+ℤ r.quantity s, e.0))

-- Each quantity is at least 1.
pub quantities-least : (rs : List Record) → Each Priced rs → pos (length rs) ≤ℤ sum_over quantity_of rs
quantities-least [] e = rw (sum-nil quantity_of) (omega zarith)
quantities-least (r ∷ rest) e =
    let s : ℤ = sum_over quantity_of rest in
    let again : pos (length rest) ≤ℤ s = quantities-least rest e.1 in
    let one : pos 1 ≤ℤ r.quantity = e.0.positive in
    rw (sum-cons quantity_of r rest) (omega (zarith, +-lin r.quantity s))

-- The first so many sum to no more than all.
pub quantities-rise : (rs : List Record) (i : ℕ) → Each Priced rs → sum_over quantity_of (take i rs) ≤ℤ sum_over quantity_of rs
quantities-rise [] zero e = omega zarith
quantities-rise [] (suc i) e = omega zarith
quantities-rise (r ∷ rest) zero e =
    let least : pos (suc (length rest)) ≤ℤ sum_over quantity_of (r ∷ rest) = quantities-least (r ∷ rest) e in
    rw (sum-nil quantity_of) (omega zarith)
quantities-rise (r ∷ rest) (suc i) e =
    let again : sum_over quantity_of (take i rest) ≤ℤ sum_over quantity_of rest = quantities-rise rest i e.1 in
    rw (sum-cons quantity_of r (take i rest), sum-cons quantity_of r rest)
    (omega (zarith, +-lin r.quantity (sum_over quantity_of (take i rest)), +-lin r.quantity (sum_over quantity_of rest)))

-- No price is above 1,000,000,000,000 in magnitude.
pub values-range : (rs : List Record) → Each Priced rs → nat_abs (sum_over value_of rs) ≤ nat_abs (sum_over quantity_of rs) * 1000000000000
values-range [] e = rw (sum-nil value_of) (omega arith)
values-range (r ∷ rest) e =
    let q : ℤ = sum_over quantity_of rest in
    let v : ℤ = sum_over value_of rest in
    let again : nat_abs v ≤ nat_abs q * 1000000000000 = values-range rest e.1 in
    let least : pos (length rest) ≤ℤ q = quantities-least rest e.1 in
    let one : pos 1 ≤ℤ r.quantity = e.0.positive in
    let product : nat_abs (r.quantity *ℤ r.price) ≤ nat_abs r.quantity * 1000000000000 = nat_abs-mul-≤ r.quantity r.price (omega arith) e.0.price in
    let sum : nat_abs (r.quantity +ℤ q) ≡ nat_abs r.quantity + nat_abs q = omega (zarith, +-lin r.quantity q, abs-lin r.quantity, abs-lin q, abs-lin (r.quantity +ℤ q)) in
    rw (sum-cons value_of r rest, sum-cons quantity_of r rest) (omega (arith, nat_abs-+ℤ (r.quantity *ℤ r.price) v))

-- Of the first so many, where all sum to at most 1,000,000.
pub partial-value : (rs : List Record) (i : ℕ) → Each Priced rs → sum_over quantity_of rs ≤ℤ pos most_quantity → nat_abs (sum_over value_of (take i rs)) ≤ 1000000000000000000
partial-value rs i e h =
    let q : ℤ = sum_over quantity_of (take i rs) in
    let some : Each Priced (take i rs) = each_take Priced rs i e in
    let rise : q ≤ℤ sum_over quantity_of rs = quantities-rise rs i e in
    let least : pos (length (take i rs)) ≤ℤ q = quantities-least (take i rs) some in
    let most : nat_abs q ≤ 1000000 = omega (zarith, abs-lin q) in
    omega (arith, values-range (take i rs) some)

-- ---- the average and the residual

pub averageable : (rs : List Record) → Each Priced rs → 0 < length rs → sum_of_quantities rs ≤ℤ pos most_quantity → Averageable (sum_of_values rs) (sum_of_quantities rs)
averageable rs e h most =
    let least : pos (length rs) ≤ℤ sum_over quantity_of rs = quantities-least rs e in
    record {
      positive = rw (quantities-sum rs) (omega zarith);
      most = most;
      bounded = rw (values-sum rs, quantities-sum rs) (values-range rs e);
    }

pub residual-small : (buy : Bool) (v q : ℤ) → Averageable v q → magnitude_at_most 1000000 (residual_of buy v q) ≡ true
residual-small buy v q a =
    let z : ℤ = residual_of buy v q in
    let q₀ : pos 1 ≤ℤ q = a.positive in
    let q₁ : q ≤ℤ pos 1_000_000 = a.most in
    let small : nat_abs z ≤ 1000000 = omega (zarith, residual-bound buy v q q₀, abs-lin q) in
    in-magnitude 1000000 z (nat_abs-≤ z 1000000 small).0 (nat_abs-≤ z 1000000 small).1
