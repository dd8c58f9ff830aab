-- `transfer::verdict_on_positions` meets its contract: past each of the tests 12 to 16 the verdict is that of the tests which remain, and each return is the one that
-- applies. Assumes nothing.
use Prim.Native.Nat.{ℕ, ◌+◌, ◌≤◌}
use native.Mathlib.Omega.{arith}
use mathlib.Core.Path.{◌≡◌, sym, ◌∙◌, ap, ap₂}
use mathlib.Core.Bool.{Bool, true, not, ◌&&◌}
use mathlib.Core.List.{List}
use lib.Dec.{ltb}
use lib.IntN.{ℤ, pos, neg_ℤ, ◌+ℤ◌}
use lib.ListN.{length}
use lib.Signed.{◌≤ℤ◌}
use mir.Facts.{to_z-of_z}
use mir.Syntax.{w64}
use mir.Val.{SFits, to_z, of_z}
use borrow.Author.Rules.{rules}
use Rattle.integers.proofs.Linear.{zarith, +-lin}
use Rattle.rules.specs.Figures.{magnitude_at_most, valid_price}
use Rattle.rules.specs.Rows.{sound_position, moved}
use Rattle.rules.specs.Transfer.{holds_too_little, in_side}
use Rattle.rules.specs.Layout.{room_of, rows_of}
use Rattle.rules.specs.Tables.{records_layout, positions_layout}
use Rattle.rules.specs.declared.Record.{Record}
use Rattle.rules.specs.declared.Position.{Position}
use Rattle.figures.proofs.Tests.{failed, passed}
use Rattle.requests.proofs.AbsentRow.{absent-is}
use Rattle.scan.proofs.ReadBack.{read_back}
use Rattle.soundness.proofs.NamedRecord.{next_of}
use Rattle.verdict.specs.Verdict.{absent_position}
use Rattle.verdict.proofs.Room.{position_read, absent-at-most-one}
use Rattle.verdict.proofs.SoundReads.{found-record, next-range, position-read-sound}
use Rattle.verdict.proofs.Remaining.{◌past◌, stops, ends}
use Rattle.verdict.proofs.Moving.{moving_old, moving_new, MovingFrom, moving-tests}
use Rattle.transfer.proofs.Negated.{negated_fits, negated-small, negated}
use Rattle.transfer.proofs.verdict_on_positions.Statement.{statement}
use Rattle.transfer.proofs.verdict_on_positions.Tie as tie

module _ (s : tie.Start) where
  abbrev rs : List ℤ
  rs = s.args.records.now

  abbrev ps : List ℤ
  ps = s.args.positions.now

  abbrev r : Record
  r = s.args.named.record

  abbrev id : ℤ
  id = s.args.id

  abbrev from : ℤ
  from = s.args.from

  abbrev to : ℤ
  to = s.args.to

  abbrev series : ℤ
  series = s.args.series

  abbrev next : ℤ
  next = next_of (rows_of records_layout rs) id

  next_fits : SFits w64 (next +ℤ pos 1)
  next_fits =
      let range : (pos 0 ≤ℤ next) × (next ≤ℤ pos 65536) = next-range rs s.requires.0.0 id in
      omega (zarith, +-lin next (pos 1))

  quantity-small : magnitude_at_most 1000000 r.quantity ≡ true
  quantity-small = (found-record rs s.requires.0.0 id s.args.suffix r s.requires.1.0.found).quantity-small

  price-valid : valid_price r.price ≡ true
  price-valid = (found-record rs s.requires.0.0 id s.args.suffix r s.requires.1.0.found).sound.price

  -- Both positions, as they were read.
  old-is : s.args.old.position ≡ position_read ps from series
  old-is = s.requires.1.1.read_is

  new_is : s.args.new.position ≡ position_read ps to series
  new_is = s.requires.1.2.read_is

  abbrev left : Position
  left = moving_old ps r from series

  abbrev reached : Position
  reached = moving_new ps r to series

  abbrev lacking : ℕ
  lacking = absent_position ps from series + absent_position ps to series

  -- The verdict is that of the tests from number n on.
  abbrev From : ℕ → Type 0
  From n = MovingFrom rs ps id from to series r n

-- ---- test 12

at-12 : (s : tie.Start) → From s 12
at-12 s = moving-tests (rs s) (ps s) (id s) (from s) (to s) (series s) (r s)

answer-12 : (c : tie.After-holds_too_little) →
    c.holds_too_little.result ≡ holds_too_little (r c.before.before.before) (position_read (ps c.before.before.before) (from c.before.before.before) (series c.before.before.before))
answer-12 c = c.holds_too_little.ensures ∙ ap (holds_too_little (r c.before.before.before)) (old-is c.before.before.before)

returns : tie.Need-returns-then-holds_too_little
returns c = stops (at-12 c.before.before.before.before) (sym (answer-12 c.before) ∙ c.if-holds_too_little.true)

-- ---- test 13

module _ (c : tie.After-struct_told-1) where
  abbrev start : tie.Start
  start = c.before.before.before.before.before.before

  at-13 : From start 13
  at-13 = at-12 start past sym (answer-12 c.before.before.before) ∙ c.if-holds_too_little.false

  next-is : to_z w64 (of_z w64 start.args.named.next) ≡ next start
  next-is = read_back start.args.named.next c.struct_told-1.given.1.1.0.1 ∙ start.requires.1.0.next-is

  last-is : to_z w64 (of_z w64 (to_z w64 (of_z w64 start.args.named.next) +ℤ pos 1)) ≡ (next start +ℤ pos 1)
  last-is = ap (λ (z : ℤ). to_z w64 (of_z w64 (z +ℤ pos 1))) next-is ∙ to_z-of_z (next_fits start)

add-if2 : tie.Need-overflow_add-named
add-if2 c = rw (next-is c) (next_fits (start c))

returns-2 : tie.Need-returns-then-named-gt-GREATEST_SUFFIX
returns-2 c = stops (at-13 c.before) (rw (last-is c.before) at c.if-named-gt-GREATEST_SUFFIX.true)

-- ---- test 14

module _ (c : tie.After-lacks_records_room) where
  abbrev start2 : tie.Start
  start2 = start c.before.before

  at-14 : From start2 14
  at-14 = at-13 c.before.before past rw (last-is c.before.before) at c.if-named-gt-GREATEST_SUFFIX.false

returns-3 : tie.Need-returns-then-lacks_records_room
returns-3 c = stops (at-14 c.before) (sym c.lacks_records_room.ensures ∙ c.if-lacks_records_room.true)

-- ---- test 15

module _ (c : tie.After-absent_row-2) where
  abbrev else3 : tie.Else-lacks_records_room
  else3 = c.before.before

  abbrev start3 : tie.Start
  start3 = start2 else3.before

  at-15 : From start3 15
  at-15 = at-14 else3.before past sym else3.lacks_records_room.ensures ∙ else3.if-lacks_records_room.false

  absent : c.absent_row.result + c.absent_row-2.result ≡ lacking start3
  absent =
      ap₂ ◌+◌
      (c.absent_row.ensures ∙ absent-is (ps start3) (from start3) (series start3) start3.args.old.found start3.requires.1.1.found-is)
      (c.absent_row-2.ensures ∙ absent-is (ps start3) (to start3) (series start3) start3.args.new.found start3.requires.1.2.found-is)

  absent-few : c.absent_row.result + c.absent_row-2.result ≤ 2
  absent-few = omega (arith, absent, absent-at-most-one (ps start3) (from start3) (series start3), absent-at-most-one (ps start3) (to start3) (series start3))

add-absent : tie.Need-overflow_add-absent
add-absent c = omega (arith, absent-few c)

lacks-positions-room-requires : tie.Need-lacks_positions_room-requires
lacks-positions-room-requires c κs = ((start3 c).requires.0.1, absent-few c)

module _ (c : tie.After-lacks_positions_room) where
  abbrev start4 : tie.Start
  start4 = start3 c.before

  answer-15 : c.lacks_positions_room.result ≡ ltb (room_of positions_layout (ps start4)) (length (rows_of positions_layout (ps start4)) + lacking start4)
  answer-15 = rw (absent c.before) at c.lacks_positions_room.ensures

returns-4 : tie.Need-returns-then-lacks_positions_room
returns-4 c = stops (at-15 c.before.before) (sym (answer-15 c.before) ∙ c.if-lacks_positions_room.true)

-- ---- test 16

module _ (c : tie.Else-lacks_positions_room) where
  abbrev start5 : tie.Start
  start5 = start4 c.before

  at-16 : From start5 16
  at-16 = at-15 c.before.before past sym (answer-15 c.before) ∙ c.if-lacks_positions_room.false

sub-left : tie.Need-overflow_sub-r
sub-left c =
    let s : tie.Start = start5 c.before.before.before in
    simp (read_back (r s).quantity c.struct_told-2-1.given.1.1.1.1.1.1.1.1.0.1) (negated_fits (r s).quantity (quantity-small s))

shifted-left-requires : tie.Need-shifted-left-requires
shifted-left-requires c κs =
    let s : tie.Start = start5 c.before.before.before in
    rw (negated (r s).quantity (quantity-small s) c.struct_told-2-1.given.1.1.1.1.1.1.1.1.0.1)
    (rw (old-is s) (position-read-sound (ps s) s.requires.0.1 (from s) (series s)), negated-small (r s).quantity (quantity-small s), price-valid s)

module _ (c : tie.After-sound_position) where
  abbrev else4 : tie.Else-lacks_positions_room
  else4 = c.before.before.before.before.before

  old-answer : c.sound_position.result ≡ sound_position (left (start5 else4))
  old-answer =
      let s : tie.Start = start5 else4 in
      let q = (r s).quantity in
      let negative : c.shifted-left.result ≡ moved s.args.old.position (in_side (r s).side (neg_ℤ q) (r s).price) = rw (negated q (quantity-small s) c.struct_told-2-1.given.1.1.1.1.1.1.1.1.0.1) at c.shifted-left.ensures in
      c.sound_position.ensures ∙ ap sound_position (negative ∙ ap (λ (p : Position). moved p (in_side (r s).side (neg_ℤ q) (r s).price)) (old-is s))

returns-5 : tie.Need-returns-then-not-sound_position
returns-5 c =
    let e : tie.Else-lacks_positions_room = else4 c.before in
    stops (at-16 e) (ap (λ (b : Bool). not (b && sound_position (reached (start5 e)))) (failed (old-answer c.before) c.if-not-sound_position.true-raw))

shifted-reached-requires : tie.Need-shifted-reached-requires
shifted-reached-requires c κs =
    let s : tie.Start = start5 (else4 c.before.before.before) in
    rw (read_back (r s).quantity c.struct_told-3-1.given.1.1.1.1.1.1.1.1.0.1)
    (rw (new_is s) (position-read-sound (ps s) s.requires.0.1 (to s) (series s)), quantity-small s, price-valid s)

module _ (c : tie.After-sound_position-2) where
  abbrev else5 : tie.Else-not-sound_position
  else5 = c.before.before.before.before

  abbrev start6 : tie.Start
  start6 = start5 (else4 else5.before)

  new-answer : c.sound_position-2.result ≡ sound_position (reached start6)
  new-answer =
      let q = (r start6).quantity in
      let positive : c.shifted-reached.result ≡ moved start6.args.new.position (in_side (r start6).side q (r start6).price) = rw (read_back q c.struct_told-3-1.given.1.1.1.1.1.1.1.1.0.1) at c.shifted-reached.ensures in
      c.sound_position-2.ensures ∙ ap sound_position (positive ∙ ap (λ (p : Position). moved p (in_side (r start6).side q (r start6).price)) (new_is start6))

  -- The old account's position stays sound: the test is that of the new one's.
  new-alone : not (sound_position (left start6) && sound_position (reached start6)) ≡ not (sound_position (reached start6))
  new-alone = rw (passed (old-answer else5.before) else5.if-not-sound_position.false-raw)

returns-6 : tie.Need-returns-then-not-sound_position-2
returns-6 c = stops (at-16 (else4 (else5 c.before).before)) (new-alone c.before ∙ ap not (failed (new-answer c.before) c.if-not-sound_position-2.true-raw))

returns-7 : tie.Need-returns
returns-7 c = ends (at-16 (else4 (else5 c.before).before) past new-alone c.before ∙ ap not (passed (new-answer c.before) c.if-not-sound_position-2.false-raw))

pub verdict_on_positions_spec : {M : Type 1} → statement M
verdict_on_positions_spec =
    tie.close
    (tie.spec
    (λ c κs. search rules)
    returns
    add-if2
    returns-2
    (λ c κs. search rules)
    returns-3
    (λ c κs. search rules)
    (λ c κs. search rules)
    add-absent
    lacks-positions-room-requires
    returns-4
    sub-left
    shifted-left-requires
    (λ c κs. search rules)
    returns-5
    shifted-reached-requires
    (λ c κs. search rules)
    returns-6
    returns-7)
