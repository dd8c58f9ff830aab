-- What is known of a later step past tests 1 to 8, in the shape in which its booking asks for it: the record is under give-up, and the process in its place. Assumes nothing.
use mathlib.Core.Path.{◌≡◌, refl, sym, ◌∙◌, ap, subst}
use mathlib.Core.Bool.{true, false}
use mathlib.Core.List.{List}
use lib.IntN.{ℤ}
use mir.Syntax.{w64}
use mir.Val.{SFits}
use borrow.Author.Tests.{not-false}
use Rattle.integers.specs.Order.{eq_z}
use Rattle.integers.proofs.Parts.{eq_z-true}
use Rattle.rules.specs.Figures.{valid_account, adjustable, inverse, under_give_up, give_up_kind, take_up_kind}
use Rattle.rules.specs.Rows.{key_of, record_key, with_status, sound_record, valid_kind}
use Rattle.rules.specs.ProcessRows.{process_key, row_of_process, sound_process}
use Rattle.rules.specs.Refusal.{test, first_refusal}
use Rattle.rules.specs.GiveUp.{stepped, finished}
use Rattle.rules.specs.Layout.{row_at, rows_of}
use Rattle.rules.specs.Tables.{records_layout, processes_layout}
use Rattle.rules.specs.declared.Process.{Process}
use Rattle.rules.specs.declared.ProcessRow.{ProcessRow}
use Rattle.rules.specs.declared.Record.{Record}
use Rattle.keys.proofs.Lookup.{find-all}
use Rattle.cells.proofs.SoundCells.{record-rows-sound, records-known, processes-known}
use Rattle.soundness.proofs.Accepted.{passed}
use Rattle.soundness.proofs.SoundRecord.{record-sound}
use Rattle.soundness.proofs.SoundRows.{under-give-up-open, adjustable-again-sound}
use Rattle.soundness.proofs.GiveUp.{SoundProcess, process-sound, sound-process, stepped-sound, finished-sound, stepped-key, give-up-figures}
use Rattle.requests.specs.declared.Named.{Named}
use Rattle.processes.specs.Ready.{ReplaceReady}
use Rattle.verdict.proofs.Acceptance.{none-accepted}
use Rattle.give_up_steps.specs.StepTests.{later_tests}
use Rattle.give_up_steps.specs.declared.Terms.{Terms}
use Rattle.later_steps.specs.LaterReady.{RecordReady}
use Rattle.later_steps.specs.declared.Turn.{Turn}

-- The figures of a request are those of its bits.
abbrev pub InRange : Terms → Type 0
InRange g = (SFits w64 g.process) × (SFits w64 g.id) × (SFits w64 g.suffix) × (SFits w64 g.giving) × (SFits w64 g.taking) × (SFits w64 g.series)

module _ (rs ps qs : List ℤ) (t : Turn) (named : Named) (k : RecordReady rs ps qs t named) where
  abbrev g : Terms
  g = t.terms

  abbrev p : Process
  p = t.process

  abbrev r : Record
  r = named.record

  -- Test 7 has passed: status 3.
  pub under-give-up : r.status ≡ under_give_up
  unfolding test
  under-give-up =
      let w = passed (later_tests r g.giving g.series) (none-accepted (first_refusal (later_tests r g.giving g.series)) k.passed) in
      eq_z-true r.status under_give_up (not-false (eq_z r.status under_give_up) w.1.0)

  pub not-inverse : eq_z r.status inverse ≡ false
  not-inverse = under-give-up-open r.status under-give-up

  record-is-sound : sound_record r ≡ true
  record-is-sound =
      find-all record_key sound_record (key_of g.id g.suffix) (rows_of records_layout rs) r (records-known rs (record-rows-sound rs k.ready.sound.records)).rows-sound k.record-known.found

  -- It is sound with status 0.
  pub adjustable-again : sound_record (with_status adjustable (row_at records_layout rs named.row)) ≡ true
  adjustable-again =
      subst (λ (x : Record). sound_record (with_status adjustable x) ≡ true) k.record-known.row_is (adjustable-again-sound r (record-sound r record-is-sound) not-inverse)

  pub accounts-differ : eq_z g.giving g.taking ≡ false
  accounts-differ = (give-up-figures g.process g.id g.suffix g.giving g.taking g.series k.ready.figures).accounts-differ

  pub taking-valid : valid_account g.taking ≡ true
  taking-valid = (give-up-figures g.process g.id g.suffix g.giving g.taking g.series k.ready.figures).taking-valid

  -- ---- the process

  process-is-sound : SoundProcess (row_of_process p)
  process-is-sound =
      process-sound (row_of_process p)
      (find-all process_key sound_process (key_of g.process g.id) (rows_of processes_layout qs) (row_of_process p) (processes-known qs k.ready.sound.processes).rows-sound k.ready.known.found)

  -- A row that the step has made, ready to be written in its place.
  replace : (q : Process) → SoundProcess (row_of_process q) → process_key (row_of_process q) ≡ process_key (row_of_process p) → ReplaceReady qs t.at q
  replace q s e = record {
    sound = k.ready.sound.processes;
    row-sound = sound-process (row_of_process q) s;
    row_within = k.ready.known.row_within;
    key-is = e ∙ ap (λ (x : ProcessRow). process_key x) k.ready.known.row_is;
  }

  pub stepped-ready : (q : Process) → row_of_process q ≡ stepped t.step (row_of_process p) → ReplaceReady qs t.at q
  unfolding finished
  stepped-ready q e =
      replace q (subst (λ (x : ProcessRow). SoundProcess x) (sym e) (stepped-sound t.step (row_of_process p) process-is-sound))
      (ap (λ (x : ProcessRow). process_key x) e ∙ stepped-key t.step (row_of_process p))

  pub finished-ready : (q : Process) → row_of_process q ≡ finished (stepped t.step (row_of_process p)) → ReplaceReady qs t.at q
  finished-ready q e =
      replace q (subst (λ (x : ProcessRow). SoundProcess x) (sym e) (finished-sound (stepped t.step (row_of_process p)) (stepped-sound t.step (row_of_process p) process-is-sound)))
      (ap (λ (x : ProcessRow). process_key x) e ∙ stepped-key t.step (row_of_process p))

-- The types of the completing step's rows.
pub kind-give-up : valid_kind give_up_kind ≡ true
unfolding valid_kind eq_z
kind-give-up = refl

pub kind-take-up : valid_kind take_up_kind ≡ true
unfolding valid_kind eq_z
kind-take-up = refl
