-- The rows of records and positions: their keys, their ranges ("Sound records", "Sound positions"), and how rules make one row from another.
use Rattle.std.specs.Prelude.{Bool, not, ◌&&◌, ◌||◌, ℤ, pos, neg_ℤ, ◌+ℤ◌, ◌*ℤ◌}
use Rattle.std.specs.Bool.{beq}
use Rattle.std.proofs.Math.Option.{Option, none, some}
use Rattle.std.specs.Int.Signed.{lt_z}
use Rattle.integers.specs.Order.{eq_z, in_range}
use Rattle.rules.specs.Figures.{magnitude_at_most, valid_id, valid_suffix, valid_account, valid_series, valid_price, valid_side, signed, most_quantity, adjustable, adjusted, inverse, under_give_up, original_kind, transfer_kind, separation_kind, closing_error_kind, give_up_kind, take_up_kind, merge_kind}
use Rattle.rules.specs.Keyed.{Key}
use Rattle.rules.specs.declared.Record.{Record}
use Rattle.rules.specs.declared.Position.{Position}
use Rattle.rules.specs.declared.Movement.{Movement}

abbrev pub key_of : ℤ → ℤ → Key
key_of a b = record { major = a; minor = b }

abbrev pub record_key : Record → Key
record_key r = key_of r.id r.suffix

abbrev pub position_key : Position → Key
position_key p = key_of p.account p.series

-- "Type is 0 (original), 4 (account transfer), 6 (separation), 10 (closing error) or 901 (merge, a house code)."; document 02, K3: "as are types 20 and 30"
unfoldable pub valid_kind : ℤ → Bool
valid_kind k =
    eq_z k original_kind || eq_z k transfer_kind || eq_z k separation_kind || eq_z k closing_error_kind || eq_z k give_up_kind || eq_z k take_up_kind || eq_z k merge_kind

-- "Status is 0 adjustable, 1 adjusted, 2 inverse."; document 02, K3: "3, sound like 0"
unfoldable pub valid_status : ℤ → Bool
valid_status s = in_range adjustable under_give_up s

-- "Quantity is not zero, magnitude at most 1,000,000, negative exactly where status is 2."
unfoldable pub valid_signed_quantity : ℤ → ℤ → Bool
valid_signed_quantity status q = not (eq_z q (pos 0)) && magnitude_at_most most_quantity q && beq (lt_z q (pos 0)) (eq_z status inverse)

-- "Booked cells have magnitude at most 1,000,000."
unfoldable pub valid_booked : ℤ → Bool
valid_booked b = magnitude_at_most 1000000 b

-- "Into is 0 or an id."
unfoldable pub valid_into : ℤ → Bool
valid_into i = eq_z i (pos 0) || valid_id i

-- "Parent is below suffix, or both are 0."
unfoldable pub valid_parent : ℤ → ℤ → Bool
valid_parent parent suffix = lt_z parent suffix || (eq_z parent (pos 0) && eq_z suffix (pos 0))

-- "all figures are in range", with the sentences above, in the order of the cells
unfoldable pub sound_record : Record → Bool
sound_record r =
    valid_id r.id
    && valid_suffix r.suffix
    && valid_suffix r.parent
    && valid_kind r.kind
    && valid_status r.status
    && valid_account r.account
    && valid_series r.series
    && valid_side r.side
    && valid_signed_quantity r.status r.quantity
    && valid_price r.price
    && valid_booked r.long
    && valid_booked r.short
    && valid_into r.into
    && valid_parent r.parent r.suffix

-- Document 02, K7, of both totals: "Each magnitude stays within 4,000,000,000,000,000,000"
unfoldable pub valid_total : ℤ → Bool
valid_total z = magnitude_at_most 4000000000000000000 z

-- "long and short lie in 0 to 1,000,000,000,000, cash has magnitude at most 1,000,000,000,000,000"; of the totals "Soundness asks only that range". Account and series are in neither sentence.
unfoldable pub sound_position : Position → Bool
sound_position p =
    in_range (pos 0) (pos 1000000000000) p.long
    && in_range (pos 0) (pos 1000000000000) p.short
    && magnitude_at_most 1000000000000000 p.cash
    && valid_total p.quantity
    && valid_total p.value

-- "an absent row reads as zeros": the position of that key.
unfoldable pub zero_position : ℤ → ℤ → Position
zero_position account series = record { account = account; series = series; long = pos 0; short = pos 0; cash = pos 0; quantity = pos 0; value = pos 0 }

unfoldable pub or_zeros : ℤ → ℤ → Option Position → Position
or_zeros account series none = zero_position account series
or_zeros account series (some p) = p

-- A quantity that comes to the position on this side at this price, or leaves it where the amount is negative, with what is booked to long and short. Document 02, K7: the totals are
-- "the signed quantity and signed quantity times price".
abbrev pub in_booked : (side amount price long short : ℤ) → Movement
in_booked side amount price long short = record {
  long = long;
  short = short;
  cash = pos 0;
  quantity = signed side amount;
  value = signed side amount *ℤ price;
}

-- A merge's residual is booked to cash. Document 02, K7, "Every request adds to the stored figures what it changes in these sums": Q times the average takes the place of V, and the residual is the
-- difference, signed as the side is.
abbrev pub by_residual : ℤ → Movement
by_residual residual = record { long = pos 0; short = pos 0; cash = residual; quantity = pos 0; value = residual }

-- A position with its figures changed by signed amounts.
unfoldable pub moved : Position → Movement → Position
moved p m = record {
  account = p.account;
  series = p.series;
  long = p.long +ℤ m.long;
  short = p.short +ℤ m.short;
  cash = p.cash +ℤ m.cash;
  quantity = p.quantity +ℤ m.quantity;
  value = p.value +ℤ m.value;
}

-- A record in another status, and nothing else changed; its day of booking stays too.
abbrev pub with_status : ℤ → Record → Record
with_status status r = record {
  id = r.id;
  suffix = r.suffix;
  parent = r.parent;
  kind = r.kind;
  status = status;
  account = r.account;
  series = r.series;
  side = r.side;
  quantity = r.quantity;
  price = r.price;
  long = r.long;
  short = r.short;
  into = r.into;
  day = r.day;
}

-- "Status of the named record becomes 1": it changes its status and nothing else.
unfoldable pub adjusted_record : Record → Record
adjusted_record r = with_status adjusted r

-- A row with suffix 0, parent 0 and status 0: a trade's, and the merged one. Document 02, K8: "new rows take the header's" day, here as in the two below.
unfoldable pub new_record : (today id kind account series side quantity price long short : ℤ) → Record
new_record today id kind account series side quantity price long short = record {
  id = id;
  suffix = pos 0;
  parent = pos 0;
  kind = kind;
  status = adjustable;
  account = account;
  series = series;
  side = side;
  quantity = quantity;
  price = price;
  long = long;
  short = short;
  into = pos 0;
  day = today;
}

-- "One inverse row follows, quantity negated", with the named suffix as parent. "Other cells of inverse and new rows are copied from the named record."
unfoldable pub inverse_record : (today : ℤ) → Record → (suffix kind long short into : ℤ) → Record
inverse_record today r suffix kind long short into = record {
  id = r.id;
  suffix = suffix;
  parent = r.suffix;
  kind = kind;
  status = inverse;
  account = r.account;
  series = r.series;
  side = r.side;
  quantity = neg_ℤ r.quantity;
  price = r.price;
  long = long;
  short = short;
  into = into;
  day = today;
}

-- An adjustable row that comes out of the named record, in this account and of this quantity. "Into is 0 except in the inverse rows of a merge."
unfoldable pub adjustable_record : (today : ℤ) → Record → (suffix kind account quantity long short : ℤ) → Record
adjustable_record today r suffix kind account quantity long short = record {
  id = r.id;
  suffix = suffix;
  parent = r.suffix;
  kind = kind;
  status = adjustable;
  account = account;
  series = r.series;
  side = r.side;
  quantity = quantity;
  price = r.price;
  long = long;
  short = short;
  into = pos 0;
  day = today;
}
