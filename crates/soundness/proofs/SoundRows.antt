-- The rows that rules make are sound: a new one from its figures, an adjusted, an inverse and an adjustable one from a sound record that they come from.
-- Cells that are copied are sound as they were; the others by their ranges. Assumes nothing.
use mathlib.Core.Path.{◌≡◌, refl, ap}
use mathlib.Core.Bool.{true, false}
use lib.IntN.{ℤ, pos}
use lib.Signed.{◌≤ℤ◌, ◌<ℤ◌}
use Rattle.integers.specs.Order.{eq_z, in_range}
use Rattle.integers.proofs.Linear.{zarith}
use Rattle.rules.specs.Figures.{magnitude_at_most, valid_id, valid_suffix, valid_account, valid_series, valid_price, valid_side, most_quantity, greatest_of_suffixes, adjustable, adjusted, inverse, under_give_up}
use Rattle.rules.specs.Rows.{valid_kind, valid_status, valid_booked, valid_into, valid_parent, sound_record, with_status, adjusted_record, new_record, inverse_record, adjustable_record}
use Rattle.rules.specs.Plan.{suffix_is_above}
use Rattle.rules.specs.declared.Record.{Record}
use Rattle.soundness.proofs.SoundRecord.{SoundRecord, sound-record}
use Rattle.soundness.proofs.FigureRanges.{signed_range, in-signed, inverse-signed, suffix-range, in-suffix, in-parent}

-- Test 13 does not apply to a row.
pub suffix-small : (r : Record) → suffix_is_above r ≡ false → r.suffix ≤ℤ greatest_of_suffixes
unfolding suffix_is_above
suffix-small r h = omega zarith

-- The statuses that rules give, and the cells that are 0.
status-adjustable : valid_status adjustable ≡ true
unfolding valid_status in_range
status-adjustable = refl

status-adjusted : valid_status adjusted ≡ true
unfolding valid_status in_range
status-adjusted = refl

status-inverse : valid_status inverse ≡ true
unfolding valid_status in_range
status-inverse = refl

status-under-give-up : valid_status under_give_up ≡ true
unfolding valid_status in_range
status-under-give-up = refl

suffix-zero : valid_suffix (pos 0) ≡ true
unfolding valid_suffix in_range
suffix-zero = refl

parent-zero : valid_parent (pos 0) (pos 0) ≡ true
unfolding valid_parent eq_z
parent-zero = refl

pub into-zero : valid_into (pos 0) ≡ true
unfolding valid_into eq_z
into-zero = refl

pub nothing-booked : valid_booked (pos 0) ≡ true
unfolding valid_booked magnitude_at_most in_range
nothing-booked = refl

-- A status that isn't inverse: 0, and 3 of a record under give-up.
pub adjustable-open : (status : ℤ) → status ≡ adjustable → eq_z status inverse ≡ false
unfolding eq_z
adjustable-open status e = ap (λ (z : ℤ). eq_z z inverse) e

pub under-give-up-open : (status : ℤ) → status ≡ under_give_up → eq_z status inverse ≡ false
unfolding eq_z
under-give-up-open status e = ap (λ (z : ℤ). eq_z z inverse) e

-- The quantity of a sound record that isn't inverse; of one with status 0.
pub open-quantity : (r : Record) → SoundRecord r → eq_z r.status inverse ≡ false → (pos 1 ≤ℤ r.quantity) × (r.quantity ≤ℤ pos most_quantity)
open-quantity r s e = signed_range r.status r.quantity e s.quantity

pub quantity-of : (r : Record) → SoundRecord r → r.status ≡ adjustable → (pos 1 ≤ℤ r.quantity) × (r.quantity ≤ℤ pos most_quantity)
quantity-of r s e = open-quantity r s (adjustable-open r.status e)

pub new-sound : (today id kind account series side quantity price long short : ℤ) →
    valid_id id ≡ true → valid_kind kind ≡ true → valid_account account ≡ true → valid_series series ≡ true → valid_side side ≡ true →
    pos 1 ≤ℤ quantity → quantity ≤ℤ pos most_quantity → valid_price price ≡ true → valid_booked long ≡ true → valid_booked short ≡ true →
    sound_record (new_record today id kind account series side quantity price long short) ≡ true
unfolding new_record eq_z
new-sound today id kind account series side quantity price long short i k a s d q₀ q₁ p l m =
    sound-record (new_record today id kind account series side quantity price long short)
    (record {
      id = i;
      suffix = suffix-zero;
      parent = suffix-zero;
      kind = k;
      status = status-adjustable;
      account = a;
      series = s;
      side = d;
      quantity = in-signed adjustable quantity refl q₀ q₁;
      price = p;
      long = l;
      short = m;
      into = into-zero;
      parent-below = parent-zero;
    })

-- From a sound record that isn't inverse.
module _ (r : Record) (s : SoundRecord r) (e : eq_z r.status inverse ≡ false) where
  -- In any other status that isn't inverse.
  pub restated-sound : (status : ℤ) → valid_status status ≡ true → eq_z status inverse ≡ false → sound_record (with_status status r) ≡ true
  restated-sound status valid stays =
      sound-record (with_status status r)
      (record {
        id = s.id;
        suffix = s.suffix;
        parent = s.parent;
        kind = s.kind;
        status = valid;
        account = s.account;
        series = s.series;
        side = s.side;
        quantity = in-signed status r.quantity stays (open-quantity r s e).0 (open-quantity r s e).1;
        price = s.price;
        long = s.long;
        short = s.short;
        into = s.into;
        parent-below = s.parent-below;
      })

  pub adjusted-sound : sound_record (adjusted_record r) ≡ true
  unfolding adjusted_record eq_z
  adjusted-sound = restated-sound adjusted status-adjusted refl

  pub adjustable-again-sound : sound_record (with_status adjustable r) ≡ true
  unfolding eq_z
  adjustable-again-sound = restated-sound adjustable status-adjustable refl

  pub under-give-up-sound : sound_record (with_status under_give_up r) ≡ true
  unfolding eq_z
  under-give-up-sound = restated-sound under_give_up status-under-give-up refl

  -- A row that comes out of it has a greater suffix.
  module _ (today suffix : ℤ) (above : r.suffix <ℤ suffix) (small : suffix ≤ℤ greatest_of_suffixes) where
    later-suffix : valid_suffix suffix ≡ true
    later-suffix = let low : pos 0 ≤ℤ r.suffix = (suffix-range r.suffix s.suffix).0 in in-suffix suffix (omega zarith) small

    pub inverse-sound : (kind long short into : ℤ) → valid_kind kind ≡ true → valid_booked long ≡ true → valid_booked short ≡ true → valid_into into ≡ true →
        sound_record (inverse_record today r suffix kind long short into) ≡ true
    unfolding inverse_record
    inverse-sound kind long short into k l m i =
        sound-record (inverse_record today r suffix kind long short into)
        (record {
          id = s.id;
          suffix = later-suffix;
          parent = s.suffix;
          kind = k;
          status = status-inverse;
          account = s.account;
          series = s.series;
          side = s.side;
          quantity = inverse-signed r.quantity (open-quantity r s e).0 (open-quantity r s e).1;
          price = s.price;
          long = l;
          short = m;
          into = i;
          parent-below = in-parent r.suffix suffix above;
        })

    pub adjustable-sound : (kind account quantity long short : ℤ) → valid_kind kind ≡ true → valid_account account ≡ true → pos 1 ≤ℤ quantity → quantity ≤ℤ pos most_quantity →
        valid_booked long ≡ true → valid_booked short ≡ true → sound_record (adjustable_record today r suffix kind account quantity long short) ≡ true
    unfolding adjustable_record eq_z
    adjustable-sound kind account quantity long short k a q₀ q₁ l m =
        sound-record (adjustable_record today r suffix kind account quantity long short)
        (record {
          id = s.id;
          suffix = later-suffix;
          parent = s.suffix;
          kind = k;
          status = status-adjustable;
          account = a;
          series = s.series;
          side = s.side;
          quantity = in-signed adjustable quantity refl q₀ q₁;
          price = s.price;
          long = l;
          short = m;
          into = into-zero;
          parent-below = in-parent r.suffix suffix above;
        })
