-- A sound record, figure by figure, and back to the one test of it. By the laws of `&&`. Assumes nothing.
use mathlib.Core.Path.{◌≡◌}
use mathlib.Core.Bool.{true}
use Rattle.rules.specs.Figures.{valid_id, valid_suffix, valid_account, valid_series, valid_price, valid_side}
use Rattle.rules.specs.Rows.{valid_kind, valid_status, valid_signed_quantity, valid_booked, valid_into, valid_parent, sound_record}
use Rattle.rules.specs.declared.Record.{Record}
use Rattle.keys.proofs.Split.{and_intro}
use Rattle.soundness.proofs.Accepted.{both}

pub record SoundRecord (r : Record) : Type 0 where
  pub id : valid_id r.id ≡ true
  pub suffix : valid_suffix r.suffix ≡ true
  pub parent : valid_suffix r.parent ≡ true
  pub kind : valid_kind r.kind ≡ true
  pub status : valid_status r.status ≡ true
  pub account : valid_account r.account ≡ true
  pub series : valid_series r.series ≡ true
  pub side : valid_side r.side ≡ true
  pub quantity : valid_signed_quantity r.status r.quantity ≡ true
  pub price : valid_price r.price ≡ true
  pub long : valid_booked r.long ≡ true
  pub short : valid_booked r.short ≡ true
  pub into : valid_into r.into ≡ true
  pub parent-below : valid_parent r.parent r.suffix ≡ true

pub sound-record : (r : Record) → SoundRecord r → sound_record r ≡ true
unfolding sound_record
sound-record r s =
    and_intro (and_intro (and_intro (and_intro (and_intro (and_intro (and_intro (and_intro (and_intro (and_intro (and_intro (and_intro (and_intro
    s.id s.suffix) s.parent) s.kind) s.status) s.account) s.series) s.side) s.quantity) s.price) s.long) s.short) s.into) s.parent-below

pub record-sound : (r : Record) → sound_record r ≡ true → SoundRecord r
unfolding sound_record
record-sound r h =
    let p1 = both _ _ h in
    let p2 = both _ _ p1.0 in
    let p3 = both _ _ p2.0 in
    let p4 = both _ _ p3.0 in
    let p5 = both _ _ p4.0 in
    let p6 = both _ _ p5.0 in
    let p7 = both _ _ p6.0 in
    let p8 = both _ _ p7.0 in
    let p9 = both _ _ p8.0 in
    let p10 = both _ _ p9.0 in
    let p11 = both _ _ p10.0 in
    let p12 = both _ _ p11.0 in
    let p13 = both _ _ p12.0 in
    record {
      id = p13.0;
      suffix = p13.1;
      parent = p12.1;
      kind = p11.1;
      status = p10.1;
      account = p9.1;
      series = p8.1;
      side = p7.1;
      quantity = p6.1;
      price = p5.1;
      long = p4.1;
      short = p3.1;
      into = p2.1;
      parent-below = p1.1;
    }
