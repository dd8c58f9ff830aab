-- The record's row takes status 3, and the row of the process that is opened goes in at its place.
use Rattle.std.proofs.Common.{◌≡◌, List, ℤ, sym, ap, ◌∙◌, rules, w64, to_z, of_z}
use mir.Facts.{to_z-of_z}
use Rattle.rules.specs.Keyed.{greatest, upsert}
use Rattle.rules.specs.ProcessRows.{process_key, sound_process, row_of_process, opened_process}
use Rattle.rules.specs.Layout.{rows_of, write}
use Rattle.rules.specs.Tables.{processes_layout}
use Rattle.rules.specs.declared.Process.{Process}
use Rattle.rules.specs.declared.ProcessRow.{ProcessRow}
use Rattle.lookup.specs.Lookup.{place_in}
use Rattle.give_up_steps.specs.Terms.{opened_row}
use Rattle.give_up_steps.specs.declared.Terms.{Terms}
use Rattle.opening.proofs.OpeningStep.{InRange}
use Rattle.opening.proofs.book.Goals as goal

-- The row that `stages::opened` made, with its arguments read back.
opened : (g : Terms) (p : Process) → InRange g
    → row_of_process p ≡ opened_process (to_z w64 (of_z w64 g.process)) (to_z w64 (of_z w64 g.id)) (to_z w64 (of_z w64 g.suffix)) (to_z w64 (of_z w64 g.giving)) (to_z w64 (of_z w64 g.taking)) (to_z w64 (of_z w64 g.series))
    → row_of_process p ≡ opened_row g
opened g p f e = simp (to_z-of_z f.0, to_z-of_z f.1, to_z-of_z f.2, to_z-of_z f.3, to_z-of_z f.4, to_z-of_z f.5) at e

pub insert_process-requires : goal.insert_process-requires
unfolding opened_process
insert_process-requires c =
    let qs : List ℤ = c.args.processes.now in
    let made : row_of_process c.opened-p.result ≡ opened_row c.args.g = opened c.args.g c.opened-p.result (search rules) c.opened-p.ensures in
    record {
      sound = c.requires.processes-sound;
      row-sound = ap sound_process made ∙ c.requires.opened-sound;
      unused = ap (λ (p : ProcessRow). greatest process_key p.process (rows_of processes_layout qs)) made ∙ c.requires.unused;
      room = c.requires.room;
      place_is = c.requires.place_is ∙ ap (λ (p : ProcessRow). place_in processes_layout (process_key p) qs) (sym made);
    }

pub returns : goal.returns
returns c =
    let qs : List ℤ = c.args.processes.now in (
      c.set_status.ensures.0,
      c.insert_process.ensures.0
          ∙ ap (λ (p : ProcessRow). write processes_layout qs (upsert process_key p (rows_of processes_layout qs))) (opened c.args.g c.opened-p.result (search rules) c.opened-p.ensures),
    )
