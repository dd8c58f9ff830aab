-- Refused by its figures, since the process id is used or the record absent, or by the verdict on what was looked up; or booked.
use Rattle.std.proofs.Common.{◌≡◌, ℤ, pos, Some, None, Option, true, false, List, sym, ap, ◌∙◌, rules, w64, to_z, of_z}
use Rattle.std.proofs.Math.Option as Option
use Rattle.std.proofs.Math.Option.{none, some}
use Rattle.std.specs.Option.{is_some}
use mathlib.Core.Path.{subst}
use Rattle.std.specs.Prelude.{Err}
use mir.Facts.{to_z-of_z}
use Rattle.rules.specs.Keyed.{find, greatest}
use Rattle.rules.specs.Rows.{key_of, record_key}
use Rattle.rules.specs.ProcessRows.{process_key}
use Rattle.rules.specs.Reasons.{number_of, answer_of}
use Rattle.rules.specs.Handle.{answered_by}
use Rattle.rules.specs.Refusal.{first_refusal}
use Rattle.rules.specs.Layout.{row_at, rows_of}
use Rattle.rules.specs.Tables.{all_tables, records_layout, processes_layout}
use Rattle.rules.specs.declared.Record.{Record}
use Rattle.rules.specs.declared.Step.TheVariants.{Open}
use Rattle.rules.specs.declared.refusals.Refusal.{Refusal}
use Rattle.cells.proofs.SoundCells.{record-rows-sound}
use Rattle.lookup.specs.Lookup.{greatest_found, sought_in, record_sought}
use Rattle.lookup.specs.Greatest.{greatest_told}
use Rattle.lookup.specs.Sought.{Sought}
use Rattle.lookup.specs.declared.Present.{Present}
use Rattle.lookup.specs.declared.Absent.{Absent}
use Rattle.lookup.proofs.RowFound.{nothing-none, suffix-some}
use Rattle.lookup.proofs.TableLookup.{records-first}
use Rattle.lookup.specs.SoughtRows.{PresentAt, AbsentAt}
use Rattle.lookup.proofs.TableSought.{table-present, table-lacks}
use Rattle.processes.proofs.ProcessTable.{processes-first}
use Rattle.soundness.proofs.GiveUp.{give-up-figures, sound-process}
use Rattle.verdict.specs.Verdict.{Verdict, Accepted, Refused, judged, verdict_of}
use Rattle.give_up_steps.specs.HandledIn.{HandledIn}
use Rattle.give_up_steps.specs.StepTests.{opening_tests}
use Rattle.give_up_steps.specs.Terms.{step_of}
use Rattle.give_up_steps.specs.declared.Terms.{Terms}
use Rattle.opening.proofs.OpeningStep.{InRange, opening-figures, opening-used, opening-missing, opening-refused, opening-booked}
use Rattle.opening.proofs.OpeningTests.{accepted-restated, accepted-room}
use Rattle.std.proofs.lemmas.Bool.{false≢true}
use Rattle.opening.proofs.on_sound.Goals as goal

-- ---- the answers of the calls, with their arguments read back

module _ (rs qs : List ℤ) (g : Terms) (fits : InRange g) where
  abbrev by-process : Sought
  by-process = sought_in processes_layout (key_of (to_z w64 (of_z w64 g.process)) (to_z w64 (of_z w64 g.id))) qs

  used : (p : Present) → Sought.Present p.row p.greatest p.next ≡ by-process → greatest process_key g.process (rows_of processes_layout qs) ≡ some p.greatest
  used p e =
      (table-present processes_layout process_key processes-first qs (key_of g.process g.id) p.row p.greatest p.next (sym (simp (to_z-of_z fits.0, to_z-of_z fits.1) at e))).greatest-is

  lacks-process : (a : Absent) → Sought.Absent a.place (greatest_told a.greatest) ≡ by-process
      → AbsentAt processes_layout process_key qs (key_of g.process g.id) a.place (greatest_told a.greatest)
  lacks-process a e = table-lacks processes_layout process_key processes-first qs (key_of g.process g.id) a.place (greatest_told a.greatest) (sym (simp (to_z-of_z fits.0, to_z-of_z fits.1) at e))

  abbrev by-record : Sought
  by-record = record_sought rs (to_z w64 (of_z w64 g.id)) (to_z w64 (of_z w64 g.suffix))

  named : (p : Present) → Sought.Present p.row p.greatest p.next ≡ by-record → PresentAt records_layout record_key rs (key_of g.id g.suffix) p.row p.greatest p.next
  named p e = table-present records_layout record_key records-first rs (key_of g.id g.suffix) p.row p.greatest p.next (sym (simp (to_z-of_z fits.1, to_z-of_z fits.2) at e))

  lacks-record : (a : Absent) → Sought.Absent a.place (greatest_told a.greatest) ≡ by-record → find record_key (key_of g.id g.suffix) (rows_of records_layout rs) ≡ none
  lacks-record a e =
      (table-lacks records_layout record_key records-first rs (key_of g.id g.suffix) a.place (greatest_told a.greatest) (sym (simp (to_z-of_z fits.1, to_z-of_z fits.2) at e))).absent

  by-verdict : (r : Record) (told : Verdict) → told ≡ verdict_of (first_refusal (opening_tests qs r (to_z w64 (of_z w64 g.giving)) (to_z w64 (of_z w64 g.series))))
      → verdict_of (first_refusal (opening_tests qs r g.giving g.series)) ≡ told
  by-verdict r told e = sym (simp (to_z-of_z fits.3, to_z-of_z fits.5) at e)

-- The greatest transaction of a process id, or that it has none.
used-by : (u : Option.Option ℤ) (told : Option ℤ) → greatest_found u ≡ greatest_told told → is_some told ≡ true → (z : ℤ) × (u ≡ some z)
used-by u (Some z) e h = (z, suffix-some u z e)
used-by u None e h = absurd (false≢true h)

unused-by : (u : Option.Option ℤ) (told : Option ℤ) → greatest_found u ≡ greatest_told told → is_some told ≡ false → u ≡ none
unused-by u None e h = nothing-none u e
unused-by u (Some z) e h = absurd (false≢true (sym h))

-- ---- test 3

pub returns-then-not-figures_valid : goal.returns-then-not-figures_valid
returns-then-not-figures_valid c =
    rw c.from.ensures (opening-figures c.args.records.now c.args.positions.now c.args.processes.now c.requires c.args.g (sym c.figures_valid.ensures ∙ c.if-not-figures_valid.true))

-- ---- test 18

pub returns-in_default : goal.returns-in_default
returns-in_default c =
    let fits : InRange c.args.g = search rules in
    rw c.from-in_default.ensures
    (opening-used c.args.records.now c.args.positions.now c.args.processes.now c.requires c.args.g (sym c.figures_valid.ensures ∙ c.if-not-figures_valid.false)
    c.in_default.field-0.greatest (used c.args.records.now c.args.processes.now c.args.g fits c.in_default.field-0 c.in_default.ensures))

pub returns-then-is_some : goal.returns-then-is_some
returns-then-is_some c =
    let fits : InRange c.args.g = search rules in
    let lacks = lacks-process c.args.records.now c.args.processes.now c.args.g fits c.in-Err.absent c.in-Err.ensures in
    let used = used-by (greatest process_key c.args.g.process (rows_of processes_layout c.args.processes.now)) c.in-Err.absent.greatest lacks.greatest-is (sym c.is_some.ensures ∙ c.if-is_some.true) in
    rw c.from-then-is_some.ensures
    (opening-used c.args.records.now c.args.positions.now c.args.processes.now c.requires c.args.g (sym c.figures_valid.ensures ∙ c.if-not-figures_valid.false) used.0 used.1)

-- ---- test 5

unused : (qs : List ℤ) (g : Terms) (a : Absent) → AbsentAt processes_layout process_key qs (key_of g.process g.id) a.place (greatest_told a.greatest) → is_some a.greatest ≡ false
    → greatest process_key g.process (rows_of processes_layout qs) ≡ none
unused qs g a lacks h = unused-by (greatest process_key g.process (rows_of processes_layout qs)) a.greatest lacks.greatest-is h

pub look_up-requires-2 : goal.look_up-requires-2
look_up-requires-2 c = record-rows-sound c.args.records.now c.requires.records

pub returns-in_default-look_up : goal.returns-in_default-look_up
returns-in_default-look_up c =
    let fits : InRange c.args.g = search rules in
    let lacks = lacks-process c.args.records.now c.args.processes.now c.args.g fits c.in-Err.absent c.in-Err.ensures in
    rw c.from-in_default-look_up.ensures
    (opening-missing c.args.records.now c.args.positions.now c.args.processes.now c.requires c.args.g (sym c.figures_valid.ensures ∙ c.if-not-figures_valid.false)
    (unused c.args.processes.now c.args.g c.in-Err.absent lacks (sym c.is_some.ensures ∙ c.if-is_some.false))
    (lacks-record c.args.records.now c.args.processes.now c.args.g fits c.in_default-look_up.field-0 c.in_default-look_up.ensures))

-- ---- the record

pub read_record-r-requires : goal.read_record-r-requires
read_record-r-requires c =
    let fits : InRange c.args.g = search rules in
    (record-rows-sound c.args.records.now c.requires.records, (named c.args.records.now c.args.processes.now c.args.g fits c.in-Ok.there c.in-Ok.ensures).row_within)

pub returns-in-Err-passed : goal.returns-in-Err-passed
returns-in-Err-passed c =
    let rs : List ℤ = c.args.records.now in
    let qs : List ℤ = c.args.processes.now in
    let g : Terms = c.args.g in
    let fits : InRange c.args.g = search rules in
    let lacks = lacks-process rs qs g fits c.in-Err.absent c.in-Err.ensures in
    let there = named rs qs g fits c.in-Ok.there c.in-Ok.ensures in
    let r : Record = row_at records_layout rs c.in-Ok.there.row in
    let number : ℤ = number_of c.in-Err-passed.reason in
    subst
    (λ (e : Refusal). HandledIn (all_tables rs c.args.positions.now qs) (step_of Open g) (answered_by (answer_of (Err e)) (all_tables rs c.args.positions.now qs)))
    (sym c.from-refusal.ensures)
    (opening-refused rs c.args.positions.now qs c.requires g (sym c.figures_valid.ensures ∙ c.if-not-figures_valid.false) (unused qs g c.in-Err.absent lacks (sym c.is_some.ensures ∙ c.if-is_some.false))
    r there.found number (pos 0) (by-verdict rs qs g fits r (Refused number (pos 0)) (rw c.read_record-r.ensures at (ap judged (sym c.in-Err-passed.is) ∙ c.verdict-passed.ensures))))

-- ---- the booking

pub book-requires : goal.book-requires
book-requires c =
    let rs : List ℤ = c.args.records.now in
    let qs : List ℤ = c.args.processes.now in
    let g : Terms = c.args.g in
    let fits : InRange c.args.g = search rules in
    let lacks = lacks-process rs qs g fits c.in-Err.absent c.in-Err.ensures in
    let there = named rs qs g fits c.in-Ok.there c.in-Ok.ensures in
    let r : Record = row_at records_layout rs c.in-Ok.there.row in
    let accepted : verdict_of (first_refusal (opening_tests qs r g.giving g.series)) ≡ Accepted = by-verdict rs qs g fits r Accepted (rw c.read_record-r.ensures at (ap judged (sym c.in-Ok-passed.is) ∙ c.verdict-passed.ensures)) in
    record {
      records-sound = record-rows-sound rs c.requires.records;
      row_within = there.row_within;
      restated-sound = accepted-restated qs r g.giving g.series accepted rs (record-rows-sound rs c.requires.records) g.id g.suffix there.found;
      processes-sound = c.requires.processes;
      opened-sound = sound-process _ (give-up-figures g.process g.id g.suffix g.giving g.taking g.series (sym c.figures_valid.ensures ∙ c.if-not-figures_valid.false)).opened;
      unused = unused qs g c.in-Err.absent lacks (sym c.is_some.ensures ∙ c.if-is_some.false);
      room = accepted-room qs r g.giving g.series accepted;
      place_is = lacks.place_is;
    }

pub returns-in-Ok-passed : goal.returns-in-Ok-passed
returns-in-Ok-passed c =
    let rs : List ℤ = c.args.records.now in
    let qs : List ℤ = c.args.processes.now in
    let g : Terms = c.args.g in
    let fits : InRange c.args.g = search rules in
    let lacks = lacks-process rs qs g fits c.in-Err.absent c.in-Err.ensures in
    let there = named rs qs g fits c.in-Ok.there c.in-Ok.ensures in
    let r : Record = row_at records_layout rs c.in-Ok.there.row in
    opening-booked rs c.args.positions.now qs c.requires g (sym c.figures_valid.ensures ∙ c.if-not-figures_valid.false) (unused qs g c.in-Err.absent lacks (sym c.is_some.ensures ∙ c.if-is_some.false))
    r there.found (by-verdict rs qs g fits r Accepted (rw c.read_record-r.ensures at (ap judged (sym c.in-Ok-passed.is) ∙ c.verdict-passed.ensures))) c.book.new.records c.book.new.processes c.book.ensures.0 c.book.ensures.1
