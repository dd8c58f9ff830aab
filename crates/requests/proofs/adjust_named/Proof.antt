-- `requests::adjust_named` meets its contract: the record adjusted, then its rows inserted. Assumes nothing.
use mathlib.Core.Path.{sym, ap, ◌∙◌}
use borrow.Author.Rules.{rules}
use Rattle.rules.specs.Rows.{sound_record, adjusted_record}
use Rattle.rules.specs.declared.Record.{Record}
use Rattle.requests.proofs.Adjusting.{rows-ready, adjusted-with-rows}
use Rattle.requests.proofs.adjust_named.Statement.{statement}
use Rattle.requests.proofs.adjust_named.Tie as tie

set-status-requires : tie.Need-set_status-requires
unfolding adjusted_record
set-status-requires c κs =
    let s : tie.Start = c.before in
    (s.requires.sound, s.requires.known.row_within, ap (λ (r : Record). sound_record (adjusted_record r)) (sym s.requires.known.row_is) ∙ s.requires.adjusted-sound)

insert-rows-requires : tie.Need-insert_rows-requires
unfolding adjusted_record
insert-rows-requires c κs =
    let a : tie.After-set_status = c.before.before in
    let s : tie.Start = a.before.before in
    rows-ready s.args.records.now s.args.id s.args.suffix s.args.named s.args.inverse s.args.first s.args.quantities.now s.requires
    a.set_status.new.cells a.set_status.ensures.0 a.set_status.ensures.1

returns : tie.Need-returns
unfolding adjusted_record
returns c =
    let a : tie.After-set_status = c.before.before.before.before in
    let s : tie.Start = a.before.before in
    adjusted-with-rows s.args.records.now s.args.id s.args.suffix s.args.named s.args.inverse s.args.first s.args.quantities.now s.requires
    a.set_status.new.cells a.set_status.ensures.0 c.insert_rows.new.cells c.insert_rows.ensures

pub adjust_named_spec : {M : Type 1} → statement M
adjust_named_spec = tie.close (tie.spec set-status-requires insert-rows-requires (λ c. search rules) returns)
