-- Refused by its figures, since its record is absent, or by the verdict on what was looked up; or booked.
use Rattle.std.proofs.Common.{◌≡◌, true, refl, sym, ap, ◌∙◌, not}
use mathlib.Core.Option.{Option}
use mir.Facts.{to_z-of_z}
use Rattle.rules.specs.Keyed.{is_some}
use Rattle.rules.specs.Rows.{key_of, record_key}
use Rattle.rules.specs.Request.{transfer}
use Rattle.rules.specs.Transfer.{transfer_figures}
use Rattle.rules.specs.Tables.{records_layout}
use Rattle.rules.specs.declared.Record.{Record}
use Rattle.rules.specs.declared.refusals.Reason.TheVariants.{OutOfRange, NoRecord}
use Rattle.cells.proofs.SoundCells.{record-rows-sound}
use Rattle.figures.proofs.Tests.{failed, passed}
use Rattle.lookup.specs.Lookup.{record_sought}
use Rattle.lookup.specs.Sought.{sought_told}
use Rattle.lookup.proofs.TableLookup.{records-first}
use Rattle.lookup.proofs.TableSought.{table-lacks}
use Rattle.requests.proofs.OnSound.{refused-for, booked-soundly}
use Rattle.requests.specs.KnownPosition.{KnownPosition}
use Rattle.requests.specs.KnownRecord.{KnownRecord}
use Rattle.verdict.specs.Verdict.{judged}
use Rattle.verdict.proofs.Remaining.{◌past◌, stops}
use Rattle.verdict.proofs.Transfer.{transfer-tests}
use Rattle.transfer.proofs.on_sound.Goals.{After-figures_valid, After-look_up}
use Rattle.transfer.proofs.on_sound.Goals as goal

-- ---- test 3

answer-3 : (c : After-figures_valid) → c.figures_valid.result ≡ transfer_figures c.args.id c.args.suffix c.args.from c.args.to c.args.series
answer-3 c = simp (to_z-of_z c.ranges.id, to_z-of_z c.ranges.suffix, to_z-of_z c.ranges.from, to_z-of_z c.ranges.to, to_z-of_z c.ranges.series) at c.figures_valid.ensures

pub returns-then-not-figures_valid : goal.returns-then-not-figures_valid
returns-then-not-figures_valid c =
    let a = c.args in
    refused-for a.records.now a.positions.now c.requires (transfer a.id a.suffix a.from a.to a.series) OutOfRange c.from.result c.from.ensures
    (stops (transfer-tests a.records.now a.positions.now a.id a.suffix a.from a.to a.series _ refl) (ap not (failed (answer-3 c.before.before) c.if-not-figures_valid.true-raw)))

-- ---- test 5

pub look_up-requires : goal.look_up-requires
look_up-requires c = record-rows-sound c.args.records.now c.requires.0

module _ (c : After-look_up) where
  figures : transfer_figures c.args.id c.args.suffix c.args.from c.args.to c.args.series ≡ true
  figures = passed (answer-3 c.before.before) c.if-not-figures_valid.false-raw

  looked : sought_told c.look_up.result ≡ record_sought c.args.records.now c.args.id c.args.suffix
  looked = simp (to_z-of_z c.ranges.id, to_z-of_z c.ranges.suffix) at c.look_up.ensures

pub returns-in_default : goal.returns-in_default
unfolding is_some
returns-in_default c =
    let a = c.args in
    let l : After-look_up = c.before.before in
    let lacks = table-lacks records_layout record_key records-first a.records.now (key_of a.id a.suffix) _ _ (sym (looked l) ∙ ap sought_told c.in_default.is) in
    refused-for a.records.now a.positions.now c.requires (transfer a.id a.suffix a.from a.to a.series) NoRecord c.from-in_default.result c.from-in_default.ensures
    (stops
    (transfer-tests a.records.now a.positions.now a.id a.suffix a.from a.to a.series _ refl past ap not (figures l))
    (ap (λ (o : Option Record). not (is_some o)) lacks.absent))

-- ---- what was looked up

pub record_named-named-requires : goal.record_named-named-requires
record_named-named-requires c =
    simp (to_z-of_z c.ranges.id, to_z-of_z c.ranges.suffix)
    (record-rows-sound c.args.records.now c.requires.0, sym (looked c.before) ∙ ap sought_told c.in-Ok.is)

pub verdict-passed-requires : goal.verdict-passed-requires
verdict-passed-requires c =
    let a = c.args in
    let named : KnownRecord a.records.now a.id a.suffix c.record_named-named.result = simp (to_z-of_z c.ranges.id, to_z-of_z c.ranges.suffix) at c.record_named-named.ensures in
    let old : KnownPosition a.positions.now a.from a.series c.position_held-old.result = simp (to_z-of_z c.ranges.from, to_z-of_z c.ranges.series) at c.position_held-old.ensures in
    let new : KnownPosition a.positions.now a.to a.series c.position_held-new.result = simp (to_z-of_z c.ranges.to, to_z-of_z c.ranges.series) at c.position_held-new.ensures in
    simp (to_z-of_z c.ranges.id, to_z-of_z c.ranges.suffix, to_z-of_z c.ranges.from, to_z-of_z c.ranges.to, to_z-of_z c.ranges.series)
    (record {
      tables_sound = (record-rows-sound c.args.records.now c.requires.0, c.requires.1);
      looked_up = (figures c.before.before.before.before, named, old, new);
    })

pub returns-in-Err : goal.returns-in-Err
returns-in-Err c =
    let a = c.args in
    refused-for a.records.now a.positions.now c.requires (transfer a.id a.suffix a.from a.to a.series) c.in-Err.reason c.from-refusal.result c.from-refusal.ensures
    (ap judged (sym c.in-Err.is)
    ∙ simp (to_z-of_z c.ranges.id, to_z-of_z c.ranges.suffix, to_z-of_z c.ranges.from, to_z-of_z c.ranges.to, to_z-of_z c.ranges.series) at c.verdict-passed.ensures)

pub book-requires : goal.book-requires
book-requires c =
    let a = c.args in
    let named : KnownRecord a.records.now a.id a.suffix c.record_named-named.result = simp (to_z-of_z c.ranges.id, to_z-of_z c.ranges.suffix) at c.record_named-named.ensures in
    let old : KnownPosition a.positions.now a.from a.series c.position_held-old.result = simp (to_z-of_z c.ranges.from, to_z-of_z c.ranges.series) at c.position_held-old.ensures in
    let new : KnownPosition a.positions.now a.to a.series c.position_held-new.result = simp (to_z-of_z c.ranges.to, to_z-of_z c.ranges.series) at c.position_held-new.ensures in
    simp (to_z-of_z c.ranges.id, to_z-of_z c.ranges.suffix, to_z-of_z c.ranges.from, to_z-of_z c.ranges.to, to_z-of_z c.ranges.series)
    (record {
      accepted = (
        c.requires.0,
        c.requires.1,
        sym (simp (to_z-of_z c.ranges.id, to_z-of_z c.ranges.suffix, to_z-of_z c.ranges.from, to_z-of_z c.ranges.to, to_z-of_z c.ranges.series) at c.verdict-passed.ensures)
            ∙ ap judged c.in-Ok-passed.is,
      );
      looked_up = (named, old, new);
    })

pub returns-in-Ok-passed : goal.returns-in-Ok-passed
returns-in-Ok-passed c =
    let a = c.args in
    booked-soundly a.records.now a.positions.now c.requires (transfer a.id a.suffix a.from a.to a.series)
    (simp (to_z-of_z c.ranges.id, to_z-of_z c.ranges.suffix, to_z-of_z c.ranges.from, to_z-of_z c.ranges.to, to_z-of_z c.ranges.series) at c.verdict-passed.ensures)
    (ap judged c.in-Ok-passed.is) _
    (simp (to_z-of_z c.ranges.id, to_z-of_z c.ranges.suffix, to_z-of_z c.ranges.from, to_z-of_z c.ranges.to, to_z-of_z c.ranges.series) at c.book.ensures)
