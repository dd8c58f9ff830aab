-- The record's status and the row of the process are written, and nothing else.
use Rattle.std.proofs.Common.{List, ℤ, sym, ap, ◌∙◌}
use Rattle.rules.specs.Keyed.{upsert_all}
use Rattle.rules.specs.Rows.{record_key}
use Rattle.rules.specs.ProcessRows.{row_of_process}
use Rattle.rules.specs.GiveUp.{record_after}
use Rattle.rules.specs.Layout.{rows_of, write}
use Rattle.rules.specs.Tables.{records_layout}
use Rattle.rules.specs.declared.Record.{Record}
use Rattle.cells.proofs.SoundCells.{record-rows-sound}
use Rattle.later_steps.proofs.LaterSteps.{later-advanced}
use Rattle.later_steps.proofs.Ready.{adjustable-again, stepped-ready}
use Rattle.later_steps.proofs.advance.Goals as goal

pub restate-requires : goal.restate-requires
restate-requires c =
    let k = c.requires.0 in (
      record-rows-sound c.args.records.now k.ready.sound.records,
      k.record-known.row_within,
      adjustable-again c.args.records.now c.args.positions.now c.args.processes.now c.args.turn c.args.named k,
      k.ready.later,
    )

pub replace_process-requires : goal.replace_process-requires
replace_process-requires c =
    stepped-ready c.args.records.now c.args.positions.now c.args.processes.now c.args.turn c.args.named c.requires.0 c.stepped-q.result c.stepped-q.ensures

pub returns : goal.returns
returns c =
    let rs : List ℤ = c.args.records.now in
    let t = c.args.turn in
    let k = c.requires.0 in
    later-advanced rs c.args.positions.now c.args.processes.now k.ready.sound t.terms t.step k.ready.later k.ready.figures (row_of_process t.process) k.ready.known.found k.ready.turn
    c.args.named.record k.record-known.found k.passed c.requires.1 (row_of_process c.stepped-q.result) c.stepped-q.ensures c.restate.new.records c.replace_process.new.cells
    (c.restate.ensures
    ∙ ap (λ (r : Record). write records_layout rs (upsert_all record_key (record_after t.step r) (rows_of records_layout rs))) (sym k.record-known.row_is))
    c.replace_process.ensures.0
