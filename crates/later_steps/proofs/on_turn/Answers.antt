-- The record is looked up once (5), judged by 6 to 8, and the step completes the give-up or advances it.
use Rattle.std.proofs.Common.{◌≡◌, List, ℤ, pos, sym, ap, ◌∙◌, rules, w64, to_z, of_z}
use Rattle.std.proofs.Math.Option.{none}
use mir.Facts.{to_z-of_z}
use Rattle.std.proofs.lemmas.Result.{err_from_is_err_and}
use Rattle.rules.specs.Keyed.{find}
use Rattle.rules.specs.Rows.{key_of, record_key}
use Rattle.rules.specs.ProcessRows.{row_of_process}
use Rattle.rules.specs.Reasons.{number_of}
use Rattle.rules.specs.Refusal.{first_refusal}
use Rattle.rules.specs.GiveUp.{is_complete}
use Rattle.rules.specs.Layout.{rows_of}
use Rattle.rules.specs.Tables.{records_layout}
use Rattle.rules.specs.declared.ProcessRow.{ProcessRow}
use Rattle.rules.specs.declared.Record.{Record}
use Rattle.cells.proofs.SoundCells.{record-rows-sound}
use Rattle.lookup.specs.Lookup.{record_sought}
use Rattle.lookup.specs.Greatest.{greatest_told}
use Rattle.lookup.specs.Sought as Sought
use Rattle.lookup.specs.declared.Absent.{Absent}
use Rattle.lookup.proofs.TableLookup.{records-first}
use Rattle.lookup.proofs.TableSought.{table-lacks}
use Rattle.requests.specs.KnownRecord.{KnownRecord}
use Rattle.requests.specs.declared.Named.{Named}
use Rattle.verdict.specs.Verdict.{Verdict, Accepted, Refused, verdict_of}
use Rattle.give_up_steps.specs.StepTests.{later_tests}
use Rattle.give_up_steps.specs.declared.Terms.{Terms}
use Rattle.later_steps.specs.declared.Turn.{Turn}
use Rattle.later_steps.proofs.LaterSteps.{later-missing, later-refused}
use Rattle.later_steps.proofs.Ready.{InRange}
use Rattle.later_steps.proofs.on_turn.Goals as goal

-- ---- what the calls answered, with their arguments read back

module _ (rs : List ℤ) (g : Terms) (fits : InRange g) where
  lacks : (a : Absent) → Sought.Absent a.place (greatest_told a.greatest) ≡ record_sought rs (to_z w64 (of_z w64 g.id)) (to_z w64 (of_z w64 g.suffix))
      → find record_key (key_of g.id g.suffix) (rows_of records_layout rs) ≡ none
  lacks a e =
      (table-lacks records_layout record_key records-first rs (key_of g.id g.suffix) a.place (greatest_told a.greatest) (sym (simp (to_z-of_z fits.1, to_z-of_z fits.2) at e))).absent

  known : (n : Named) → KnownRecord rs (to_z w64 (of_z w64 g.id)) (to_z w64 (of_z w64 g.suffix)) n → KnownRecord rs g.id g.suffix n
  known n e = simp (to_z-of_z fits.1, to_z-of_z fits.2) at e

  judged-as : (r : Record) (told : Verdict) → told ≡ verdict_of (first_refusal (later_tests r (to_z w64 (of_z w64 g.giving)) (to_z w64 (of_z w64 g.series))))
      → verdict_of (first_refusal (later_tests r g.giving g.series)) ≡ told
  judged-as r told e = sym (simp (to_z-of_z fits.3, to_z-of_z fits.5) at e)

-- ---- test 5

pub look_up-requires : goal.look_up-requires
look_up-requires c = record-rows-sound c.args.records.now c.requires.sound.records

pub returns-in_default : goal.returns-in_default
returns-in_default c =
    let t : Turn = c.args.turn in
    let k = c.requires in
    let fits : InRange c.args.turn.terms = search rules in
    rw c.from.ensures
    (later-missing c.args.records.now c.args.positions.now c.args.processes.now k.sound t.terms t.step k.later k.figures (row_of_process t.process) k.known.found k.turn
    (lacks c.args.records.now t.terms fits c.in_default.field-0 c.in_default.ensures))

-- ---- tests 6 to 8

pub record_named-named-requires : goal.record_named-named-requires
record_named-named-requires c = (record-rows-sound c.args.records.now c.requires.sound.records, sym c.in-Ok.ensures)

pub returns-in_err-verdict : goal.returns-in_err-verdict
returns-in_err-verdict c =
    let rs : List ℤ = c.args.records.now in
    let t : Turn = c.args.turn in
    let k = c.requires in
    let fits : InRange c.args.turn.terms = search rules in
    let n : Named = c.record_named-named.result in
    let number : ℤ = number_of c.in_err-verdict.field-0.0 in
    let told = err_from_is_err_and c.from_residual.result c.from_residual.ensures.1 in
    rw (told.1, told.2)
    (later-refused rs c.args.positions.now c.args.processes.now k.sound t.terms t.step k.later k.figures (row_of_process t.process) k.known.found k.turn
    n.record (known rs t.terms fits n c.record_named-named.ensures).found
    number (pos 0) (judged-as rs t.terms fits n.record (Refused number (pos 0)) c.in_err-verdict.ensures))

-- ---- the booking

pub complete-requires : goal.complete-requires
complete-requires c =
    let t : Turn = c.args.turn in
    let fits : InRange c.args.turn.terms = search rules in
    let n : Named = c.record_named-named.result in (
      record {
        ready = c.requires;
        record-known = known c.args.records.now t.terms fits n c.record_named-named.ensures;
        passed = judged-as c.args.records.now t.terms fits n.record Accepted c.in_ok-verdict.ensures;
      },
      sym (c.is_complete.ensures ∙ ap (λ (p : ProcessRow). is_complete p) c.stepped.ensures) ∙ c.if-is_complete.true,
    )

pub advance-requires : goal.advance-requires
advance-requires c =
    let t : Turn = c.args.turn in
    let fits : InRange c.args.turn.terms = search rules in
    let n : Named = c.record_named-named.result in (
      record {
        ready = c.requires;
        record-known = known c.args.records.now t.terms fits n c.record_named-named.ensures;
        passed = judged-as c.args.records.now t.terms fits n.record Accepted c.in_ok-verdict.ensures;
      },
      sym (c.is_complete.ensures ∙ ap (λ (p : ProcessRow). is_complete p) c.stepped.ensures) ∙ c.if-is_complete.false,
    )
