-- `separation::verdict` meets its contract: past each test the verdict is that of the tests which remain, and each return is the one that applies. Assumes nothing.
use Prim.Native.Nat.{ℕ, ◌≤◌}
use native.Mathlib.Omega.{arith}
use mathlib.Core.Path.{◌≡◌, sym, ap, ◌∙◌}
use mathlib.Core.Bool.{true, not}
use mathlib.Core.List.{map}
use mathlib.Core.Option.{Option}
use lib.IntN.{ℤ, pos, ◌+ℤ◌}
use lib.ListN.{length}
use lib.Signed.{◌≤ℤ◌}
use mir.Facts.{to_z-of_z, to_z_pos}
use mir.Syntax.{w64}
use mir.Val.{SFits, to_z, of_z}
use borrow.Author.Rules.{rules, sfits_of}
use Rattle.integers.proofs.Bits.{of_z-inj}
use Rattle.integers.proofs.Linear.{zarith, +-lin}
use Rattle.integers.proofs.Parts.{true-eq_z, false-eq_z}
use Rattle.rules.specs.Figures.{valid_quantity}
use Rattle.rules.specs.Keyed.{is_some}
use Rattle.rules.specs.NamedRecord.{the_record, is_elsewhere, is_not_adjustable, status_refusal}
use Rattle.rules.specs.Refusal.{all_of}
use Rattle.rules.specs.Layout.{rows_of}
use Rattle.rules.specs.Tables.{records_layout}
use Rattle.rules.specs.declared.Record.{Record}
use Rattle.cells.proofs.SoundCells.{record-rows-sound}
use Rattle.figures.proofs.Tests.{is-literal, not-literal}
use Rattle.scan.proofs.ReadBack.{read_back}
use Rattle.soundness.proofs.NamedRecord.{next_of}
use Rattle.verdict.specs.Verdict.{Refused}
use Rattle.verdict.proofs.Remaining.{◌past◌, stops, ends}
use Rattle.verdict.proofs.SoundReads.{next-range}
use Rattle.verdict.proofs.Separation.{SeparationFrom, separation-tests}
use Rattle.separation.proofs.PartsLeft.{parts-told}
use Rattle.separation.proofs.verdict.Statement.{statement}
use Rattle.separation.proofs.verdict.Tie as tie

-- ---- 6: where the record is that was found

module _ (s : tie.Start) where
  abbrev r : Record
  r = s.args.named.record

  -- The verdict is that of the tests from number n on.
  abbrev From : ℕ → Type 0
  From n = SeparationFrom s.args.records.now s.args.positions.now s.args.id s.args.suffix s.args.account s.args.series s.args.parts.now n r

  at-6 : From 6
  unfolding is_some the_record
  at-6 =
      separation-tests s.args.records.now s.args.positions.now s.args.id s.args.suffix s.args.account s.args.series s.args.parts.now s.requires.1
      r (ap the_record s.requires.3.found)
      past ap not s.requires.2
      past ap (λ (o : Option Record). not (is_some o)) s.requires.3.found

  parts : (length s.args.parts.now ≤ 1000) × (all_of (map valid_quantity s.args.parts.now) ≡ true)
  parts = parts-told s.args.id s.args.suffix s.args.account s.args.series s.args.parts.now s.requires.2

  abbrev next : ℤ
  next = next_of (rows_of records_layout s.args.records.now) s.args.id

  abbrev count : ℤ
  count = pos (length s.args.parts.now)

  counted : to_z w64 (length s.args.parts.now) ≡ count
  counted = to_z_pos w64 (omega (arith, parts.0))

  last_fits : SFits w64 (next +ℤ count)
  last_fits =
      let range : (pos 0 ≤ℤ next) × (next ≤ℤ pos 65536) = next-range s.args.records.now (record-rows-sound s.args.records.now s.requires.0) s.args.id in
      omega (zarith, parts.0, +-lin next count)

abbrev start : tie.After-is_elsewhere → tie.Start
start c = c.before.before

answer-6 : (c : tie.After-is_elsewhere) → c.is_elsewhere.result ≡ is_elsewhere (start c).args.account (start c).args.series (r (start c))
answer-6 c = simp (to_z-of_z (start c).ranges.account, to_z-of_z (start c).ranges.series) at c.is_elsewhere.ensures

returns : tie.Need-returns-then-is_elsewhere
returns c = stops (at-6 (start c.before)) (sym (answer-6 c.before) ∙ c.if-is_elsewhere.true)

-- ---- 7: its status

abbrev start7 : tie.After-struct_told-1 → tie.Start
start7 c = start c.before.before.before

at_7 : (c : tie.Else-is_elsewhere) → From (start c.before) 7
at_7 c = at-6 (start c.before) past sym (answer-6 c.before) ∙ c.if-is_elsewhere.false

status-fits : (c : tie.After-struct_told-1) → SFits w64 (r (start7 c)).status
status-fits c = sfits_of c.struct_told-1.given.1.1.1.1.0.1

returns-2 : tie.Need-returns-then-r-ne-ADJUSTABLE
unfolding is_not_adjustable
returns-2 c =
    let t : tie.After-struct_told-1 = c.before.before.before in
    ap (λ (n : ℤ). Refused n (pos 0)) (c.status_refusal.ensures ∙ ap (λ (z : ℤ). pos (status_refusal z)) (to_z-of_z (status-fits t)))
    ∙ stops (at_7 t.before.before) (ap not (not-literal 0 (status-fits t) c.if-r-ne-ADJUSTABLE.true))

-- ---- 11: the parts' sum

at-11 : (c : tie.Else-r-ne-ADJUSTABLE) → From (start7 c.before) 11
unfolding is_not_adjustable
at-11 c = at_7 c.before.before.before past ap not (is-literal 0 tt (status-fits c.before) c.if-r-ne-ADJUSTABLE.false)

abbrev summed : tie.After-struct_told-2-1 → tie.After-sum_of
summed c = c.before.before

abbrev start11 : tie.After-struct_told-2-1 → tie.Start
start11 c = start7 (summed c).before.before

sum_fits : (c : tie.After-sum_of) → SFits w64 c.sum_of.result
sum_fits c = sfits_of c.sum_of.type_inv

quantity-fits : (c : tie.After-struct_told-2-1) → SFits w64 (r (start11 c)).quantity
quantity-fits c = sfits_of c.struct_told-2-1.given.1.1.1.1.1.1.1.1.0.1

sum-of-requires : tie.Need-sum_of-requires
sum-of-requires c κs = parts (start7 c.before)

returns-3 : tie.Need-returns-then-sum_of-r
returns-3 c =
    let m : tie.After-sum_of = summed c.before in
    stops (at-11 m.before) (ap not (false-eq_z _ _ (λ e. c.if-sum_of-r.true (ap (of_z w64) (m.sum_of.ensures ∙ e)))))

-- ---- 13: the last suffix

abbrev start13 : tie.Else-sum_of-r → tie.Start
start13 c = start11 c.before

at-13 : (c : tie.Else-sum_of-r) → From (start13 c) 13
at-13 c =
    let m : tie.After-sum_of = summed c.before in
    at-11 m.before past ap not (true-eq_z _ _ (sym m.sum_of.ensures ∙ of_z-inj (sum_fits m) (quantity-fits c.before) c.if-sum_of-r.false))

cast-last : tie.Need-overflow_cast-last
cast-last c = omega (zarith, (parts (start13 c)).0)

module _ (c : tie.After-struct_told-3-1) where
  abbrev else3 : tie.Else-sum_of-r
  else3 = c.before.before

  abbrev s13 : tie.Start
  s13 = start13 else3

  next-is : to_z w64 (of_z w64 s13.args.named.next) ≡ next s13
  next-is = read_back s13.args.named.next c.struct_told-3-1.given.1.1.0.1 ∙ s13.requires.3.next-is

  last-is : to_z w64 (of_z w64 (to_z w64 (of_z w64 s13.args.named.next) +ℤ to_z w64 (length s13.args.parts.now))) ≡ next s13 +ℤ count s13
  last-is = simp (next-is, counted s13) (to_z-of_z (last_fits s13))

add-last : tie.Need-overflow_add-last
add-last c = simp (next-is c, counted (s13 c)) (last_fits (s13 c))

returns-4 : tie.Need-returns-then-last-gt-GREATEST_SUFFIX
returns-4 c = stops (at-13 (else3 c.before)) (rw (last-is c.before) at c.if-last-gt-GREATEST_SUFFIX.true)

-- ---- 14: the room

at-14 : (c : tie.Else-last-gt-GREATEST_SUFFIX) → From (s13 c.before) 14
at-14 c = at-13 (else3 c.before) past rw (last-is c.before) at c.if-last-gt-GREATEST_SUFFIX.false

lacks-records-room-requires : tie.Need-lacks_records_room-requires
lacks-records-room-requires c κs = (record-rows-sound (s13 c.before).args.records.now (s13 c.before).requires.0, omega (arith, (parts (s13 c.before)).0))

returns-5 : tie.Need-returns-then-lacks_records_room
returns-5 c = stops (at-14 c.before.before) (sym c.lacks_records_room.ensures ∙ c.if-lacks_records_room.true)

returns-6 : tie.Need-returns
returns-6 c = ends (at-14 c.before.before past sym c.lacks_records_room.ensures ∙ c.if-lacks_records_room.false)

pub verdict_spec : {M : Type 1} → statement M
verdict_spec =
    tie.close
    (tie.spec
    (λ c κs. search rules)
    returns
    (λ c κs. search rules)
    returns-2
    sum-of-requires
    returns-3
    cast-last
    add-last
    returns-4
    (λ c. omega (arith, (parts (s13 c.before)).0))
    lacks-records-room-requires
    returns-5
    returns-6)
