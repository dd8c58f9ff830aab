-- The totals of a position as sums over all records: of a record of status 0 or 3 its figure at its account and series, of any other 0. And amounts at an account and series, and what a record that passes tests 6 and 7 is. By induction on the
-- records, and by the two ways in which an account and series can be a record's own. Assumes nothing.
use mathlib.Core.Path.{◌≡◌, refl, sym, ◌∙◌, ap}
use mathlib.Core.Bool.{Bool, true, false, cond, not, ◌&&◌}
use mathlib.Core.List.{List, [], ◌∷◌}
use borrow.Author.Tests.{not-false}
use lib.IntN.{ℤ, pos, ◌+ℤ◌, +ℤ_idl}
use Rattle.integers.specs.Order.{eq_z}
use Rattle.integers.proofs.Parts.{eq_z-true, true-eq_z}
use Rattle.rules.specs.Figures.{adjustable, under_give_up}
use Rattle.rules.specs.Rows.{adjusted_record, inverse_record}
use Rattle.rules.specs.NamedRecord.{is_elsewhere, is_not_adjustable}
use Rattle.rules.specs.Totals.{is_live, is_of, live_records, signed_quantity, signed_value, sum_over, total_quantity, total_value}
use Rattle.rules.specs.declared.Record.{Record}
use Rattle.keys.proofs.Split.{or_left, or_right, or-false-left, or-false-right}
use Rattle.totals.specs.Amounts.{same_position, amount_at}

-- ---- amounts

cond-zero : (c : Bool) → cond c (pos 0) (pos 0) ≡ pos 0
cond-zero true = refl
cond-zero false = refl

cond-sum : (c : Bool) (x y : ℤ) → cond c x (pos 0) +ℤ cond c y (pos 0) ≡ cond c (x +ℤ y) (pos 0)
cond-sum true x y = refl
cond-sum false x y = refl

module _ (own_account own_series account series : ℤ) where
  pub amount-zero : amount_at own_account own_series (pos 0) account series ≡ pos 0
  unfolding amount_at
  amount-zero = cond-zero (same_position own_account own_series account series)

  pub amount-sum : (x y : ℤ) → amount_at own_account own_series x account series +ℤ amount_at own_account own_series y account series ≡ amount_at own_account own_series (x +ℤ y) account series
  unfolding amount_at
  amount-sum x y = cond-sum (same_position own_account own_series account series) x y

-- ---- the figure of a record in the total of a position

module _ (figure : Record → ℤ) (account series : ℤ) where
  abbrev pub live_at : Record → ℤ
  live_at r = cond (is_of account series r && is_live r) (figure r) (pos 0)

  live-sum : (rs : List Record) → sum_over figure (live_records account series rs) ≡ sum_over live_at rs
  unfolding sum_over live_records
  live-sum [] = refl
  live-sum (r ∷ rest) = go (is_of account series r && is_live r) (live-sum rest)
    where
      go : (c : Bool) → sum_over figure (live_records account series rest) ≡ sum_over live_at rest →
          sum_over figure (cond c (r ∷ live_records account series rest) (live_records account series rest)) ≡ cond c (figure r) (pos 0) +ℤ sum_over live_at rest
      go true again = ap (λ (z : ℤ). figure r +ℤ z) again
      go false again = again ∙ sym (+ℤ_idl (sum_over live_at rest))

  pub live-figure : (r : Record) → is_live r ≡ true → live_at r ≡ amount_at r.account r.series (figure r) account series
  unfolding is_of amount_at same_position
  live-figure r h = go (is_of account series r) (is_live r) h
    where
      go : (c l : Bool) → l ≡ true → cond (c && l) (figure r) (pos 0) ≡ cond c (figure r) (pos 0)
      go true l e = ap (λ (x : Bool). cond x (figure r) (pos 0)) e
      go false l e = refl

  pub no-figure : (r : Record) → is_live r ≡ false → live_at r ≡ pos 0
  no-figure r h = go (is_of account series r) (is_live r) h
    where
      go : (c l : Bool) → l ≡ false → cond (c && l) (figure r) (pos 0) ≡ pos 0
      go true l e = ap (λ (x : Bool). cond x (figure r) (pos 0)) e
      go false l e = refl

pub total-quantity : (account series : ℤ) (rs : List Record) → total_quantity account series rs ≡ sum_over (live_at signed_quantity account series) rs
unfolding total_quantity
total-quantity account series rs = live-sum signed_quantity account series rs

pub total-value : (account series : ℤ) (rs : List Record) → total_value account series rs ≡ sum_over (live_at signed_value account series) rs
unfolding total_value
total-value account series rs = live-sum signed_value account series rs

-- ---- which records count

pub adjustable-live : (r : Record) → r.status ≡ adjustable → is_live r ≡ true
unfolding is_live
adjustable-live r e = or_left _ (true-eq_z r.status adjustable e)

-- Past test 7.
pub named_live : (r : Record) → is_not_adjustable r ≡ false → is_live r ≡ true
unfolding is_not_adjustable
named_live r h = adjustable-live r (eq_z-true r.status adjustable (not-false (eq_z r.status adjustable) h))

pub under-give-up-live : (r : Record) → r.status ≡ under_give_up → is_live r ≡ true
unfolding is_live
under-give-up-live r e = or_right (eq_z r.status adjustable) (true-eq_z r.status under_give_up e)

pub adjusted-gone : (r : Record) → is_live (adjusted_record r) ≡ false
unfolding is_live adjusted_record eq_z
adjusted-gone r = refl

pub inverse-gone : (today : ℤ) (r : Record) (suffix kind long short into : ℤ) → is_live (inverse_record today r suffix kind long short into) ≡ false
unfolding is_live inverse_record eq_z
inverse-gone today r suffix kind long short into = refl

-- ---- where a named record stands

-- Test 6 does not apply: the record is of the named account and series.
pub record StandsIn (account series : ℤ) (r : Record) : Type 0 where
  pub same-account : r.account ≡ account
  pub same-series : r.series ≡ series

pub stands-in : (account series : ℤ) (r : Record) → is_elsewhere account series r ≡ false → StandsIn account series r
unfolding is_elsewhere
stands-in account series r h = record {
  same-account = eq_z-true r.account account (not-false (eq_z r.account account) (or-false-left (not (eq_z r.account account)) (not (eq_z r.series series)) h));
  same-series = eq_z-true r.series series (not-false (eq_z r.series series) (or-false-right (not (eq_z r.account account)) (not (eq_z r.series series)) h));
}
