-- `book::replay` meets its contract: where the records are not sound, the first line decides; otherwise the lines one by one, by whether the other two tables are sound. Assumes nothing.
use mathlib.Core.Path.{sym, ◌∙◌, ap}
use borrow.Author.Rules.{rules}
use borrow.Author.Tests.{not-true, not-false}
use Rattle.rules.specs.Call.{handle_call}
use Rattle.rules.specs.Handle.{answered_by}
use Rattle.rules.specs.Tables.{Tables, all_tables}
use Rattle.rules.specs.declared.Reply.{Reply}
use Rattle.replaying.proofs.AtOnce.{at_once}
use Rattle.book.proofs.replay.Statement.{statement}
use Rattle.book.proofs.replay.Tie as tie

returns : tie.Need-returns-then-not-records_sound
unfolding handle_call
returns c =
    let t : tie.Then-not-records_sound = c.before in
    let s : tie.Start = t.before.before.before in
    let tables : Tables = all_tables s.args.records.now s.args.positions.now s.args.processes.now in
    ap (λ (r : Reply). answered_by r tables) c.on_unsound_records.ensures
    ∙ at_once tables (sym t.records_sound-records_sound.ensures ∙ not-true t.records_sound-records_sound.result t.if-not-records_sound.true-raw) s.args.text.now

on-sound-records-requires : tie.Need-on_sound_records-requires
on-sound-records-requires c κs =
    let q : tie.After-processes_sound-processes_sound = c.before.before.before in
    let p : tie.After-positions_sound-positions_sound = q.before in
    let e : tie.Else-not-records_sound = p.before in
    (sym e.records_sound-records_sound.ensures ∙ not-false e.records_sound-records_sound.result e.if-not-records_sound.false-raw, p.positions_sound-positions_sound.ensures, q.processes_sound-processes_sound.ensures)

returns-2 : tie.Need-returns
unfolding handle_call
returns-2 c = c.on_sound_records.ensures

pub replay_spec : {M : Type 1} → statement M
replay_spec =
    tie.close
    (tie.spec
    (λ c κs. search rules)
    (λ c κs. search rules)
    (λ c. search rules)
    returns
    (λ c κs. search rules)
    (λ c κs. search rules)
    on-sound-records-requires
    (λ c. search rules)
    (λ c. search rules)
    (λ c. search rules)
    returns-2)
