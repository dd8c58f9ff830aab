-- `processes::look_up` meets its contract: the lookup over as many rows as the count says; the keys rise, since the process ids do. Assumes nothing.
use mathlib.Core.Path.{◌≡◌, ap, ◌∙◌}
use Prim.Native.Nat.{ℕ}
use mir.Facts.{to_z-of_z}
use borrow.Author.Rules.{rules}
use Rattle.rules.specs.Rows.{key_of}
use Rattle.rules.specs.ProcessRows.{process_key, sound_process}
use Rattle.rules.specs.Tables.{processes_layout}
use Rattle.cells.proofs.Count.{length-rows_of}
use Rattle.lookup.specs.Sought.{sought_told}
use Rattle.lookup.specs.Lookup.{row_sought}
use Rattle.lookup.proofs.TableLookup.{table-searchable}
use Rattle.processes.proofs.ProcessTable.{processes-first, processes-by-key}
use Rattle.processes.proofs.look_up.Statement.{statement}
use Rattle.processes.proofs.look_up.Tie as tie

look-up-requires : tie.Need-look_up-requires
look-up-requires c κs =
    let s : tie.Start = c.before in
    table-searchable processes_layout process_key processes-first s.args.cells.now sound_process (processes-by-key s.args.cells.now s.requires) c.count.result c.count.ensures

returns : tie.Need-returns
returns c =
    let s : tie.Start = c.before.before in
    let answer : sought_told c.look_up.result ≡ row_sought processes_layout.header processes_layout.width (key_of s.args.process s.args.id) c.count.result s.args.cells.now = simp (to_z-of_z s.ranges.process, to_z-of_z s.ranges.id) at c.look_up.ensures in
    answer ∙ ap (λ (n : ℕ). row_sought processes_layout.header processes_layout.width (key_of s.args.process s.args.id) n s.args.cells.now) (c.count.ensures ∙ length-rows_of processes_layout s.args.cells.now)

pub look_up_spec : {M : Type 1} → statement M
look_up_spec = tie.close (tie.spec (λ c κs. search rules) look-up-requires returns)
