-- `separation::book` meets its contract: the named record adjusted, its inverse and the parts' rows inserted after it, are the rows of the accepted separation.
-- Assumes nothing.
use Prim.Native.Nat.{◌≤◌}
use native.Mathlib.Omega.{arith}
use mathlib.Core.Path.{◌≡◌, sym, ap, subst, ◌∙◌}
use mathlib.Core.List.{List, ◌∷◌}
use lib.IntN.{ℤ, pos, ◌+ℤ◌}
use lib.ListN.{length}
use lib.Signed.{◌≤ℤ◌}
use mir.Facts.{to_z-of_z, to_z_pos}
use mir.Syntax.{w64}
use mir.Val.{SFits, to_z, of_z}
use borrow.Author.Rules.{rules}
use Rattle.integers.proofs.Linear.{zarith, +-lin}
use Rattle.rules.specs.Figures.{greatest_of_suffixes}
use Rattle.rules.specs.Rows.{key_of, record_key, adjusted_record, inverse_record, adjustable_record}
use Rattle.rules.specs.Layout.{rows_of}
use Rattle.rules.specs.Tables.{current_day, records_layout}
use Rattle.rules.specs.Handle.{answered}
use Rattle.rules.specs.declared.Record.{Record}
use Rattle.rules.specs.declared.Reply.TheVariants.{Booked}
use Rattle.requests.specs.AdjustReady.{AdjustReady}
use Rattle.scan.proofs.ReadBack.{read_back}
use Rattle.soundness.proofs.NamedRecord.{next_of}
use Rattle.cells.proofs.SoundCells.{record-rows-sound}
use Rattle.verdict.proofs.Puts.{put_all}
use Rattle.verdict.proofs.SoundReads.{FoundRecord, found-record}
use Rattle.verdict.proofs.Separation.{separation_inverse, separation_rows}
use Rattle.verdict.proofs.SeparationReady.{separation-next, separation-adjusted, separation-room, separation-returns}
use Rattle.separation.proofs.PartRows.{first_part, separation-rows}
use Rattle.separation.proofs.book.Statement.{statement}
use Rattle.separation.proofs.book.Tie as tie

-- ---- what is known of an accepted separation

module _ (s : tie.Start) where
  abbrev rs : List ℤ
  rs = s.args.records.now

  abbrev parts : List ℤ
  parts = s.args.parts.now

  abbrev r : Record
  r = s.args.named.record

  abbrev next : ℤ
  next = next_of (rows_of records_layout rs) s.args.id

  suffixes : (pos 0 ≤ℤ next) × ((next +ℤ pos (length parts)) ≤ℤ greatest_of_suffixes)
  suffixes = separation-next rs s.args.positions.now s.args.id s.args.suffix s.args.account s.args.series parts s.requires.0 s.requires.1 s.requires.2

  found : FoundRecord s.args.id s.args.suffix r
  found = found-record rs (record-rows-sound rs s.requires.0) s.args.id s.args.suffix r s.requires.3.found

  first_fits : SFits w64 (next +ℤ pos 1)
  first_fits = let range = suffixes in omega (zarith, +-lin next (pos 1), +-lin next (pos (length parts)))

  few : length parts ≤ 65535
  few = let range = suffixes in omega (zarith, +-lin next (pos (length parts)))

  counted : to_z w64 (length parts) ≡ pos (length parts)
  counted = to_z_pos w64 (omega (arith, few))

  rows_fit : SFits w64 (pos (length parts) +ℤ pos 1)
  rows_fit = omega (zarith, few, +-lin (pos (length parts)) (pos 1))

  -- The row count that is answered.
  rows : to_z w64 (of_z w64 (to_z w64 (length parts) +ℤ pos 1)) ≡ pos (length parts) +ℤ pos 1
  rows = ap (λ (n : ℤ). to_z w64 (of_z w64 (n +ℤ pos 1))) counted ∙ to_z-of_z rows_fit

-- ---- the rows that come out of the record

abbrev start : tie.After-struct_told-1 → tie.Start
start c = c.before.before

next-is : (c : tie.After-struct_told-1) → to_z w64 (of_z w64 (start c).args.named.next) ≡ next (start c)
next-is c = read_back (start c).args.named.next c.struct_told-1.given.1.1.0.1 ∙ (start c).requires.3.next-is

-- The current day, as it was read.
module _ (c : tie.After-today-today) where
  abbrev told : tie.After-struct_told-1
  told = c.before

  today-is : to_z w64 (of_z w64 c.today-today.result) ≡ current_day (rs (start told))
  today-is = read_back c.today-today.result c.today-today.type_inv ∙ c.today-today.ensures

module _ (c : tie.After-inverse_record-inverse) where
  abbrev s : tie.Start
  s = start (told c.before)

  inverse : c.inverse_record-inverse.result ≡ separation_inverse (current_day (rs s)) (r s) (next s)
  inverse = simp (today-is c.before, next-is (told c.before)) at c.inverse_record-inverse.ensures

  first-is : to_z w64 (of_z w64 (to_z w64 (of_z w64 s.args.named.next) +ℤ pos 1)) ≡ next s +ℤ pos 1
  first-is = ap (λ (n : ℤ). to_z w64 (of_z w64 (n +ℤ pos 1))) (next-is (told c.before)) ∙ to_z-of_z (first_fits s)

today-requires : tie.Need-today-today-requires
today-requires c κs = let s : tie.Start = start c in record-rows-sound (rs s) s.requires.0

inverse-record-requires : tie.Need-inverse_record-inverse-requires
inverse-record-requires c κs = (found (start (told c))).quantity-small

add-adjustable-record : tie.Need-overflow_add-next
add-adjustable-record c = rw (next-is (told c.before)) (first_fits (s c))

module _ (c : tie.After-adjustable_record-first) where
  abbrev inverted : tie.After-inverse_record-inverse
  inverted = c.before.before.before

  abbrev s2 : tie.Start
  s2 = s inverted

  first : c.adjustable_record-first.result ≡ first_part (current_day (rs s2)) (r s2) (next s2 +ℤ pos 1) (r s2).quantity
  first =
      simp (
        today-is inverted.before,
        first-is inverted,
        read_back (r s2).account c.struct_told-2-1.given.1.1.1.1.1.0.1,
        read_back (r s2).quantity c.struct_told-3-1.given.1.1.1.1.1.1.1.1.0.1,
      ) at c.adjustable_record-first.ensures

  -- The id of both rows, and the suffixes.
  ready : (x y : Record) → x ≡ separation_inverse (current_day (rs s2)) (r s2) (next s2) → y ≡ first_part (current_day (rs s2)) (r s2) (next s2 +ℤ pos 1) (r s2).quantity
      → AdjustReady (rs s2) s2.args.id s2.args.suffix s2.args.named x y (parts s2)
  unfolding inverse_record adjustable_record
  ready x y e f =
      let own : next s2 ≡ s2.args.named.next = sym s2.requires.3.next-is in
      record {
        sound = record-rows-sound (rs s2) s2.requires.0;
        known = s2.requires.3;
        adjusted-sound =
            separation-adjusted (rs s2) s2.args.positions.now s2.args.id s2.args.suffix s2.args.account s2.args.series (parts s2) s2.requires.0 s2.requires.1 s2.requires.2
            (r s2) s2.requires.3.found;
        inverse-key = ap (λ (z : Record). record_key z) e ∙ (λ i. key_of ((found s2).id-is i) (own i));
        first_key = ap (λ (z : Record). record_key z) f ∙ (λ i. key_of ((found s2).id-is i) (own i +ℤ pos 1));
        room =
            separation-room (rs s2) s2.args.positions.now s2.args.id s2.args.suffix s2.args.account s2.args.series (parts s2) s2.requires.0 s2.requires.1 s2.requires.2
            (r s2) s2.requires.3.found;
        last-suffix = subst (λ (z : ℤ). (z +ℤ pos (length (parts s2))) ≤ℤ greatest_of_suffixes) own (suffixes s2).1;
      }

adjust-named-requires : tie.Need-adjust_named-requires
adjust-named-requires c κs =
    let a : tie.After-adjustable_record-first = c.before in
    let s : tie.Start = s2 a in
    simp (to_z-of_z s.ranges.id, to_z-of_z s.ranges.suffix) (ready a (inverted a).inverse_record-inverse.result a.adjustable_record-first.result (inverse (inverted a)) (first a))

cast-rows : tie.Need-overflow_cast-rows
cast-rows c = omega (zarith, few (s2 c.before.before.before))

add-rows : tie.Need-overflow_add-rows
add-rows c = let s : tie.Start = s2 c.before.before.before in rw (counted s) (rows_fit s)

returns : tie.Need-returns
returns c =
    let n : tie.After-adjust_named = c.before in
    let a : tie.After-adjustable_record-first = n.before.before in
    let s : tie.Start = s2 a in
    let put : n.adjust_named.new.records ≡ put_all records_layout record_key (rs s) (separation_rows (current_day (rs s)) (r s) (next s) (parts s)) =
    n.adjust_named.ensures
    ∙ ap (λ (rows : List Record). put_all records_layout record_key (rs s) (adjusted_record (r s) ∷ rows))
    (separation-rows (current_day (rs s)) (r s) (next s) (parts s) (inverted a).inverse_record-inverse.result a.adjustable_record-first.result (inverse (inverted a)) (first a)) in
    ap (λ (z : ℤ). answered (Booked z (pos 0)) n.adjust_named.new.records s.args.positions.now) (rows s)
    ∙ separation-returns (rs s) s.args.positions.now s.args.id s.args.suffix s.args.account s.args.series (parts s) s.requires.0 s.requires.1 (r s) s.requires.3.found
    n.adjust_named.new.records put

pub book_spec : {M : Type 1} → statement M
book_spec =
    tie.close
    (tie.spec
    today-requires
    inverse-record-requires
    add-adjustable-record
    (λ c κs. search rules)
    adjust-named-requires
    cast-rows
    add-rows
    (λ c. search rules)
    returns)
