-- Test 3, the process looked up once, test 18, and then the record.
use Rattle.std.proofs.Common.{◌≡◌, List, ℤ, sym, ap, ◌∙◌, rules, w64, to_z, of_z}
use Rattle.std.proofs.Math.Option.{none, some}
use mir.Facts.{to_z-of_z}
use Rattle.rules.specs.Keyed.{find}
use Rattle.rules.specs.Rows.{key_of}
use Rattle.rules.specs.ProcessRows.{process_key, row_of_process}
use Rattle.rules.specs.Layout.{rows_of}
use Rattle.rules.specs.Tables.{processes_layout}
use Rattle.lookup.specs.Lookup.{sought_in}
use Rattle.lookup.specs.Greatest.{greatest_told}
use Rattle.lookup.specs.Sought.{Sought}
use Rattle.lookup.specs.SoughtRows.{PresentAt}
use Rattle.lookup.specs.declared.Present.{Present}
use Rattle.lookup.specs.declared.Absent.{Absent}
use Rattle.lookup.proofs.TableSought.{table-present, table-lacks}
use Rattle.processes.proofs.ProcessTable.{processes-first}
use Rattle.give_up_steps.specs.declared.Terms.{Terms}
use Rattle.later_steps.proofs.LaterSteps.{later-figures, later-unknown, later-out}
use Rattle.later_steps.proofs.Ready.{InRange}
use Rattle.later_steps.proofs.on_sound.Goals as goal

-- ---- what the lookup answered, with its arguments read back

module _ (qs : List ℤ) (g : Terms) (fits : InRange g) where
  abbrev by-process : Sought
  by-process = sought_in processes_layout (key_of (to_z w64 (of_z w64 g.process)) (to_z w64 (of_z w64 g.id))) qs

  there : (p : Present) → Sought.Present p.row p.greatest p.next ≡ by-process → PresentAt processes_layout process_key qs (key_of g.process g.id) p.row p.greatest p.next
  there p e = table-present processes_layout process_key processes-first qs (key_of g.process g.id) p.row p.greatest p.next (sym (simp (to_z-of_z fits.0, to_z-of_z fits.1) at e))

  unknown : (a : Absent) → Sought.Absent a.place (greatest_told a.greatest) ≡ by-process → find process_key (key_of g.process g.id) (rows_of processes_layout qs) ≡ none
  unknown a e =
      (table-lacks processes_layout process_key processes-first qs (key_of g.process g.id) a.place (greatest_told a.greatest) (sym (simp (to_z-of_z fits.0, to_z-of_z fits.1) at e))).absent

-- ---- test 3

pub returns-then-not-figures_valid : goal.returns-then-not-figures_valid
returns-then-not-figures_valid c =
    rw c.from.ensures
    (later-figures c.args.records.now c.args.positions.now c.args.processes.now c.requires.0 c.args.g c.args.step c.requires.1 (sym c.figures_valid.ensures ∙ c.if-not-figures_valid.true))

-- ---- test 18

pub returns-in_default : goal.returns-in_default
returns-in_default c =
    let fits : InRange c.args.g = search rules in
    rw c.from-in_default.ensures
    (later-unknown c.args.records.now c.args.positions.now c.args.processes.now c.requires.0 c.args.g c.args.step c.requires.1 (sym c.figures_valid.ensures ∙ c.if-not-figures_valid.false)
    (unknown c.args.processes.now c.args.g fits c.in_default.field-0 c.in_default.ensures))

pub read_process-process-requires : goal.read_process-process-requires
read_process-process-requires c =
    let fits : InRange c.args.g = search rules in
    (c.requires.0.processes, (there c.args.processes.now c.args.g fits c.in-Ok.there c.in-Ok.ensures).row_within)

pub returns-then-not-may_step : goal.returns-then-not-may_step
returns-then-not-may_step c =
    let fits : InRange c.args.g = search rules in
    rw c.from-then-not-may_step.ensures
    (later-out c.args.records.now c.args.positions.now c.args.processes.now c.requires.0 c.args.g c.args.step c.requires.1 (sym c.figures_valid.ensures ∙ c.if-not-figures_valid.false)
    (row_of_process c.read_process-process.result)
    ((there c.args.processes.now c.args.g fits c.in-Ok.there c.in-Ok.ensures).found ∙ ap some (sym c.read_process-process.ensures))
    (sym c.may_step.ensures ∙ c.if-not-may_step.true))

-- ---- the record

pub on_turn-requires : goal.on_turn-requires
on_turn-requires c =
    let fits : InRange c.args.g = search rules in
    let here = there c.args.processes.now c.args.g fits c.in-Ok.there c.in-Ok.ensures in
    record {
      sound = c.requires.0;
      later = c.requires.1;
      figures = sym c.figures_valid.ensures ∙ c.if-not-figures_valid.false;
      known = record { row_within = here.row_within; row_is = c.read_process-process.ensures; found = here.found ∙ ap some (sym c.read_process-process.ensures) };
      turn = sym c.may_step.ensures ∙ c.if-not-may_step.false;
    }
