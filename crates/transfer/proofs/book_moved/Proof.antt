-- `transfer::book_moved` meets its contract: the record is adjusted and its two new rows inserted as the rules put them, and each position goes in. The old account's row
-- is there, so what was found of the new account's position holds once it is written. Assumes nothing.
use mathlib.Core.Path.{◌≡◌, sym, ◌∙◌, ap, subst}
use mathlib.Core.Bool.{true}
use mathlib.Core.List.{List, [], ◌∷◌}
use lib.IntN.{ℤ, pos, neg_ℤ, ◌+ℤ◌}
use lib.Signed.{◌≤ℤ◌}
use mir.Facts.{to_z-of_z}
use mir.Syntax.{w64}
use mir.Val.{SFits, to_z, of_z}
use borrow.Author.Rules.{rules}
use Rattle.integers.proofs.Linear.{zarith, +-lin}
use Rattle.rules.specs.Figures.{greatest_of_suffixes}
use Rattle.rules.specs.Keyed.{Key}
use Rattle.rules.specs.Rows.{key_of, record_key, position_key, sound_position, inverse_record, adjustable_record, moved}
use Rattle.rules.specs.Transfer.{in_side}
use Rattle.rules.specs.Layout.{rows_of}
use Rattle.rules.specs.Tables.{current_day, records_layout, positions_layout, sound_positions}
use Rattle.rules.specs.declared.Record.{Record}
use Rattle.rules.specs.declared.Position.{Position}
use Rattle.cells.proofs.RowCells.{positions-lawful}
use Rattle.cells.proofs.SoundCells.{record-rows-sound, positions-known}
use Rattle.soundness.proofs.NamedRecord.{next_of}
use Rattle.soundness.proofs.ReadPosition.{read-key}
use Rattle.lookup.specs.Found.{found_told}
use Rattle.lookup.specs.Lookup.{found_in}
use Rattle.lookup.proofs.KeysKept.{found-kept}
use Rattle.lookup.proofs.TableLookup.{positions-first}
use Rattle.scan.proofs.ReadBack.{read_back}
use Rattle.tables.specs.NewRows.{rows_like}
use Rattle.requests.specs.AdjustReady.{AdjustReady}
use Rattle.verdict.proofs.Puts.{put_one, put_all}
use Rattle.verdict.proofs.Ready.{PutReady}
use Rattle.verdict.proofs.SoundReads.{FoundRecord, found-record, position-read-sound}
use Rattle.verdict.proofs.Moving.{moving_inverse, moving_arrived, moving_rows, moving_old, moving_new}
use Rattle.verdict.proofs.MovingReady.{Movable, moving-ready, moving-adjusted, moving-next, moving-old-there, moving-put-old, moving-put-new, moving-returns}
use Rattle.transfer.proofs.Negated.{negated_fits, negated-small, negated}
use Rattle.transfer.proofs.book_moved.Statement.{statement}
use Rattle.transfer.proofs.book_moved.Tie as tie

-- What the function is given, and what the rules make of it.
module _ (s : tie.Start) where
  abbrev rs : List ℤ
  rs = s.args.records.now

  abbrev ps : List ℤ
  ps = s.args.positions.now

  abbrev id : ℤ
  id = s.args.id

  abbrev suffix : ℤ
  suffix = s.args.suffix

  abbrev from : ℤ
  from = s.args.from

  abbrev to : ℤ
  to = s.args.to

  abbrev series : ℤ
  series = s.args.series

  abbrev r : Record
  r = s.args.named.record

  abbrev leaving : ℤ
  leaving = s.args.leaving

  abbrev arriving : ℤ
  arriving = s.args.arriving

  abbrev next : ℤ
  next = next_of (rows_of records_layout rs) id

  abbrev left : Position
  left = moving_old ps r from series

  abbrev reached : Position
  reached = moving_new ps r to series

  found : FoundRecord id suffix r
  found = found-record rs (record-rows-sound rs s.requires.records-sound) id suffix r s.requires.record-known.found

  may : Movable rs ps id suffix from to series leaving arriving r
  may = record {
    records-sound = s.requires.records-sound;
    positions-sound = s.requires.positions-sound;
    named = s.requires.record-known.found;
    not-inverse = s.requires.not-inverse;
    accounts-differ = s.requires.accounts-differ;
    to-valid = s.requires.to-valid;
    inverse-kind = s.requires.inverse-kind;
    new-kind = s.requires.new-kind;
    accepted = s.requires.accepted;
  }

  -- ---- the records

  suffixes : (pos 0 ≤ℤ next) × ((next +ℤ pos 1) ≤ℤ greatest_of_suffixes)
  suffixes = moving-next rs ps id suffix from to series leaving arriving r may

  next_fits : SFits w64 (next +ℤ pos 1)
  next_fits = omega (zarith, +-lin next (pos 1), suffixes)

  adjusts : AdjustReady rs id suffix s.args.named (moving_inverse leaving (current_day rs) r next) (moving_arrived arriving (current_day rs) r next to) (r.quantity ∷ [])
  unfolding inverse_record adjustable_record
  adjusts = record {
    sound = record-rows-sound rs s.requires.records-sound;
    known = s.requires.record-known;
    adjusted-sound = moving-adjusted rs ps id suffix from to series leaving arriving r may;
    inverse-key = λ i. key_of (found.id-is i) (sym s.requires.record-known.next-is i);
    first_key = λ i. key_of (found.id-is i) (sym s.requires.record-known.next-is i +ℤ pos 1);
    room = (moving-ready rs ps id suffix from to series leaving arriving r may).records-room;
    last-suffix = subst (λ (z : ℤ). (z +ℤ pos 1) ≤ℤ greatest_of_suffixes) (sym s.requires.record-known.next-is) suffixes.1;
  }

  -- ---- the positions

  old-ready : sound_position s.args.old.position ≡ true
  old-ready = ap sound_position s.requires.old-known.read_is ∙ position-read-sound ps s.requires.positions-sound from series

  new-ready : sound_position s.args.new.position ≡ true
  new-ready = ap sound_position s.requires.new-known.read_is ∙ position-read-sound ps s.requires.positions-sound to series

  old-puts : PutReady ps left
  old-puts = moving-put-old rs ps id suffix from to series leaving arriving r may

  old-found : found_told s.args.old.found ≡ found_in positions_layout (position_key left) ps
  unfolding moved
  old-found = s.requires.old-known.found-is ∙ ap (λ (k : Key). found_in positions_layout k ps) (sym (read-key from series (rows_of positions_layout ps)))

  -- Once the old account's row is written.
  module _ (ps₁ : List ℤ) (put : ps₁ ≡ put_one positions_layout position_key ps left) where
    new-puts : sound_positions ps₁ ≡ true → PutReady ps₁ reached
    new-puts = moving-put-new rs ps id suffix from to series leaving arriving r may ps₁ put

    new-found : found_told s.args.new.found ≡ found_in positions_layout (position_key reached) ps₁
    unfolding moved
    new-found =
        let there = moving-old-there rs ps id suffix from to series leaving arriving r may in
        s.requires.new-known.found-is
        ∙ sym (found-kept positions_layout positions-lawful position_key positions-first sound_position ps (positions-known ps s.requires.positions-sound) left there.0 there.1 ps₁ put (key_of to series))
        ∙ ap (λ (k : Key). found_in positions_layout k ps₁) (sym (read-key to series (rows_of positions_layout ps)))

-- ---- what the calls give

module _ (c : tie.After-inverse_row-inverse) where
  abbrev start : tie.Start
  start = c.before.before.before.before

  today-is : to_z w64 (of_z w64 c.today-today.result) ≡ current_day (rs start)
  today-is = read_back c.today-today.result c.today-today.type_inv ∙ c.today-today.ensures

  next-is : to_z w64 (of_z w64 start.args.named.next) ≡ next start
  next-is = read_back start.args.named.next c.struct_told-1.given.1.1.0.1 ∙ start.requires.record-known.next-is

  inverse-is : c.inverse_row-inverse.result ≡ moving_inverse (leaving start) (current_day (rs start)) (r start) (next start)
  inverse-is = simp (today-is, next-is, to_z-of_z start.ranges.leaving) at c.inverse_row-inverse.ensures

module _ (c : tie.After-arrived_row-arrived) where
  abbrev start2 : tie.Start
  start2 = start c.before

  last-is : to_z w64 (of_z w64 (to_z w64 (of_z w64 start2.args.named.next) +ℤ pos 1)) ≡ (next start2 +ℤ pos 1)
  last-is = ap (λ (z : ℤ). to_z w64 (of_z w64 (z +ℤ pos 1))) (next-is c.before) ∙ to_z-of_z (next_fits start2)

  arrived-is : c.arrived_row-arrived.result ≡ moving_arrived (arriving start2) (current_day (rs start2)) (r start2) (next start2) (to start2)
  arrived-is = simp (today-is c.before, last-is, to_z-of_z start2.ranges.to, to_z-of_z start2.ranges.arriving) at c.arrived_row-arrived.ensures

-- The one quantity of the rows that come out of the record.
quantity-is : (c : tie.After-struct_told-2-1) → to_z w64 (of_z w64 (r (start2 c.before)).quantity) ≡ (r (start2 c.before)).quantity
quantity-is c = read_back (r (start2 c.before)).quantity c.struct_told-2-1.given.1.1.1.1.1.1.1.1.0.1

module _ (c : tie.After-adjust_named) where
  abbrev at-quantity : tie.After-struct_told-2-1
  at-quantity = c.before.before.before

  abbrev start3 : tie.Start
  start3 = start2 at-quantity.before

  records-put : c.adjust_named.new.records ≡ put_all records_layout record_key (rs start3) (moving_rows (leaving start3) (arriving start3) (current_day (rs start3)) (r start3) (next start3) (to start3))
  unfolding rows_like adjustable_record
  records-put = simp (inverse-is at-quantity.before.before, arrived-is at-quantity.before, quantity-is at-quantity) at c.adjust_named.ensures

module _ (c : tie.After-shifted-taken) where
  abbrev start4 : tie.Start
  start4 = start3 c.before.before.before.before.before

  left_is : c.shifted-taken.result ≡ left start4
  left_is =
      let q = (r start4).quantity in
      (rw (negated q (found start4).quantity-small c.struct_told-3-1.given.1.1.1.1.1.1.1.1.0.1) at c.shifted-taken.ensures)
      ∙ ap (λ (p : Position). moved p (in_side (r start4).side (neg_ℤ q) (r start4).price)) start4.requires.old-known.read_is

module _ (c : tie.After-shifted-given) where
  abbrev at-left : tie.After-shifted-taken
  at-left = c.before.before.before

  abbrev start5 : tie.Start
  start5 = start4 at-left

  reached_is : c.shifted-given.result ≡ reached start5
  reached_is =
      let q = (r start5).quantity in
      (rw (read_back q c.struct_told-4-1.given.1.1.1.1.1.1.1.1.0.1) at c.shifted-given.ensures)
      ∙ ap (λ (p : Position). moved p (in_side (r start5).side q (r start5).price)) start5.requires.new-known.read_is

module _ (c : tie.After-write_position) where
  abbrev at-reached : tie.After-shifted-given
  at-reached = c.before.before

  abbrev start6 : tie.Start
  start6 = start5 at-reached

  old-put : c.write_position.new.cells ≡ put_one positions_layout position_key (ps start6) (left start6)
  old-put = rw (left_is (at-left at-reached)) at c.write_position.ensures.0

-- ---- what the calls require

inverse-row-requires : tie.Need-inverse_row-inverse-requires
inverse-row-requires c κs = (found c.before.before.before).quantity-small

today-requires : tie.Need-today-today-requires
today-requires c κs = let s : tie.Start = c.before.before in record-rows-sound (rs s) s.requires.records-sound

add-arrived-row : tie.Need-overflow_add-next
add-arrived-row c = rw (next-is c) (next_fits (start c))

adjust-named-requires : tie.Need-adjust_named-requires
adjust-named-requires c κs =
    let q : tie.After-struct_told-2-1 = c.before.before in
    let s : tie.Start = start2 q.before in
    simp (to_z-of_z s.ranges.id, to_z-of_z s.ranges.suffix, inverse-is q.before.before, arrived-is q.before, quantity-is q) (adjusts s)

sub-left : tie.Need-overflow_sub-r
sub-left c =
    let s : tie.Start = start3 c.before.before.before.before in
    simp (read_back (r s).quantity c.struct_told-3-1.given.1.1.1.1.1.1.1.1.0.1) (negated_fits (r s).quantity (found s).quantity-small)

shifted-taken-requires : tie.Need-shifted-taken-requires
shifted-taken-requires c κs =
    let s : tie.Start = start3 c.before.before.before.before in
    rw (negated (r s).quantity (found s).quantity-small c.struct_told-3-1.given.1.1.1.1.1.1.1.1.0.1)
    (old-ready s, negated-small (r s).quantity (found s).quantity-small, (found s).sound.price)

shifted-given-requires : tie.Need-shifted-given-requires
shifted-given-requires c κs =
    let s : tie.Start = start4 c.before.before in
    rw (read_back (r s).quantity c.struct_told-4-1.given.1.1.1.1.1.1.1.1.0.1) (new-ready s, (found s).quantity-small, (found s).sound.price)

write-position-requires : tie.Need-write_position-requires
write-position-requires c κs =
    let at : tie.After-shifted-given = c.before in
    let p : PutReady (ps (start5 at)) (left (start5 at)) = old-puts (start5 at) in
    rw (left_is (at-left at)) (p.0, p.1, p.2, old-found (start5 at))

write-position-requires-2 : tie.Need-write_position-requires-2
write-position-requires-2 c κs =
    let w : tie.After-write_position = c.before.before in
    let s : tie.Start = start6 w in
    let p : PutReady w.write_position.new.cells (reached s) = new-puts s w.write_position.new.cells (old-put w) w.write_position.ensures.1 in
    rw (reached_is (at-reached w)) (p.0, p.1, p.2, new-found s w.write_position.new.cells (old-put w))

returns : tie.Need-returns
returns c =
    let w : tie.After-write_position = c.before.before.before.before in
    let s : tie.Start = start6 w in
    let a : tie.After-adjust_named = (at-left (at-reached w)).before.before.before.before.before in (
      records-put a,
      moving-returns (rs s) (ps s) (id s) (suffix s) (from s) (to s) (series s) (leaving s) (arriving s) (r s) (may s)
          w.write_position.new.cells c.write_position-2.new.cells (old-put w) (rw (reached_is (at-reached w)) at c.write_position-2.ensures.0),
    )

pub book_moved_spec : {M : Type 1} → statement M
book_moved_spec =
    tie.close
    (tie.spec
    today-requires
    inverse-row-requires
    add-arrived-row
    (λ c κs. search rules)
    (λ c. search rules)
    adjust-named-requires
    sub-left
    shifted-taken-requires
    shifted-given-requires
    write-position-requires
    write-position-requires-2
    (λ c. search rules)
    (λ c. search rules)
    returns)
