-- Document 01, "Figures and their ranges", and the codes that the tables use.
use Rattle.std.specs.Prelude.{ℕ, Bool, cond, ◌&&◌, ◌||◌, leb, ℤ, pos, neg_ℤ}
use Rattle.integers.specs.Order.{eq_z, in_range}

-- "magnitude at most": from -most to most.
unfoldable pub magnitude_at_most : ℕ → ℤ → Bool
magnitude_at_most most z = in_range (neg_ℤ (pos most)) (pos most) z

-- transaction id: 1 to 999,999,999
unfoldable pub valid_id : ℤ → Bool
valid_id z = in_range (pos 1) (pos 999999999) z

-- suffix, parent suffix: 0 to 65,535
abbrev pub greatest_of_suffixes : ℤ
greatest_of_suffixes = pos 65535

unfoldable pub valid_suffix : ℤ → Bool
valid_suffix z = in_range (pos 0) greatest_of_suffixes z

-- account: 1 to 9,999
unfoldable pub valid_account : ℤ → Bool
valid_account z = in_range (pos 1) (pos 9999) z

-- series: 1 to 999,999
unfoldable pub valid_series : ℤ → Bool
valid_series z = in_range (pos 1) (pos 999999) z

-- quantity in a request: 1 to 1,000,000; also the most that sources may sum to (refusal 11)
abbrev pub most_quantity : ℕ
most_quantity = 1000000

unfoldable pub valid_quantity : ℤ → Bool
valid_quantity z = in_range (pos 1) (pos most_quantity) z

-- price, in units of 0.0000001: -1,000,000,000,000 to 1,000,000,000,000
unfoldable pub valid_price : ℤ → Bool
valid_price z = magnitude_at_most 1000000000000 z

-- side code: 1 buy open, 2 sell open, 3 buy close, 4 sell close
unfoldable pub valid_side : ℤ → Bool
valid_side z = in_range (pos 1) (pos 4) z

unfoldable pub is_buy : ℤ → Bool
is_buy side = eq_z side (pos 1) || eq_z side (pos 3)

-- Document 02, K7: "buys plus, sells minus"
unfoldable pub signed : ℤ → ℤ → ℤ
signed side amount = cond (is_buy side) amount (neg_ℤ amount)

unfoldable pub is_to_close : ℤ → Bool
is_to_close side = eq_z side (pos 3) || eq_z side (pos 4)

-- Document 02, K8, a day: 1 to 99,999; "Empty tables start at day 0"
abbrev pub last_day : ℕ
last_day = 99999

unfoldable pub valid_day : ℤ → Bool
valid_day z = in_range (pos 1) (pos last_day) z

-- parts of a separation, sources of a merge: 2 to 1,000
unfoldable pub valid_count : ℕ → Bool
valid_count n = leb 2 n && leb n 1000

-- Status: 0 adjustable, 1 adjusted, 2 inverse; 3 while a give-up is under way (document 02, K3).
abbrev pub adjustable : ℤ
adjustable = pos 0

abbrev pub adjusted : ℤ
adjusted = pos 1

abbrev pub inverse : ℤ
inverse = pos 2

abbrev pub under_give_up : ℤ
under_give_up = pos 3

-- Type: 0 original, 4 account transfer, 6 separation, 10 closing error, 901 merge (a house code); 20 and 30 (020 and 030) are the two rows of a give-up.
abbrev pub original_kind : ℤ
original_kind = pos 0

abbrev pub transfer_kind : ℤ
transfer_kind = pos 4

abbrev pub separation_kind : ℤ
separation_kind = pos 6

abbrev pub closing_error_kind : ℤ
closing_error_kind = pos 10

abbrev pub give_up_kind : ℤ
give_up_kind = pos 20

abbrev pub take_up_kind : ℤ
take_up_kind = pos 30

abbrev pub merge_kind : ℤ
merge_kind = pos 901
