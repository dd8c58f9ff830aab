-- One status written, or nothing.
use Rattle.std.proofs.Common.{sym, ◌∙◌}
use Rattle.std.proofs.lemmas.Bool.{false≢true}
use Rattle.rules.specs.Figures.{adjustable}
use Rattle.rules.specs.Rows.{with_status}
use Rattle.rules.specs.Layout.{row_at}
use Rattle.rules.specs.Tables.{records_layout}
use Rattle.rules.specs.declared.Record.{Record}
use Rattle.later_steps.proofs.Restated.{set-back, left_alone, record-left, record-restated}
use Rattle.later_steps.proofs.restate.Goals.{in-Cancel, in_default}
use Rattle.later_steps.proofs.restate.Goals as goal

pub returns-then-matches : goal.returns-then-matches
returns-then-matches c =
    let r : Record = row_at records_layout c.args.records.now c.args.row in
    elim c.match-matches.branch [
      | in-Cancel w ↦ record-restated c.args.records.now c.args.step r (with_status adjustable r) (set-back c.args.step r w.in-Cancel.is) c.set_status.new.cells c.set_status.ensures.0
      | in_default w ↦ absurd (false≢true (sym w.matches-is ∙ c.if-matches.true))
    ]

pub returns-else-matches : goal.returns-else-matches
returns-else-matches c =
    let r : Record = row_at records_layout c.args.records.now c.args.row in
    elim c.match-matches.branch [
      | in-Cancel w ↦ absurd (false≢true (sym c.if-matches.false ∙ w.matches-is))
      | in_default w ↦ record-left c.args.records.now c.args.step r c.requires.0 (left_alone c.args.step r c.requires.3 w.in_default.not-Cancel w.in_default.not-Refuse)
    ]
