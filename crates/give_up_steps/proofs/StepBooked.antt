-- What an accepted step answers and leaves, as cells: a step that does not complete writes the record's status, where it changes, and the row of its process; one that completes leaves
-- what a transfer leaves, with its own types, and the row of its process. By the definitions. Assumes nothing.
use mathlib.Core.Path.{◌≡◌, refl, ◌∙◌, ap}
use mathlib.Core.Bool.{Bool, true, false, cond}
use mathlib.Core.List.{List, [], ◌++◌}
use mathlib.Core.Option.{Option, some}
use lib.IntN.{ℤ, pos}
use Rattle.rules.specs.Figures.{give_up_kind, take_up_kind}
use Rattle.rules.specs.Keyed.{upsert, upsert_all}
use Rattle.rules.specs.Rows.{record_key, position_key}
use Rattle.rules.specs.ProcessRows.{process_key}
use Rattle.rules.specs.NamedRecord.{the_record}
use Rattle.rules.specs.Books.{view_of}
use Rattle.rules.specs.Plan.{Effects, put_process, booked, plan_reply}
use Rattle.rules.specs.GiveUp.{is_complete, record_after, step_effects, finished, give_up_effects, give_up_plan}
use Rattle.rules.specs.Layout.{rows_of, write}
use Rattle.rules.specs.Tables.{all_tables, books_of, write_books, records_layout, positions_layout, processes_layout, sound_positions}
use Rattle.rules.specs.Handle.{Answer, answered_by, plan_of, written_by, plan_tables}
use Rattle.rules.specs.declared.Record.{Record}
use Rattle.rules.specs.declared.ProcessRow.{ProcessRow}
use Rattle.rules.specs.declared.Step.{Step}
use Rattle.rules.specs.declared.Step.TheVariants.{Open, Claim, Cancel, Refuse, ApproveGiver, ApproveTaker}
use Rattle.rules.specs.declared.Reply.TheVariants.{Booked}
use Rattle.keys.proofs.Clauses.{upsert_all-nil}
use Rattle.cells.proofs.RowCells.{positions-lawful}
use Rattle.cells.proofs.SoundCells.{positions-known}
use Rattle.cells.proofs.Write.{write-own}
use Rattle.verdict.specs.Verdict.{accepted_in}
use Rattle.verdict.specs.Moving.{moving_effects, records_after, positions_after}
use Rattle.give_up_steps.proofs.StepVerdict.{request, found_record, after}

-- No row is added.
nothing-added : (step : Step) (r : Record) → record_after step r ++ [] ≡ record_after step r
unfolding record_after
nothing-added Open r = refl
nothing-added Claim r = refl
nothing-added Cancel r = refl
nothing-added Refuse r = refl
nothing-added ApproveGiver r = refl
nothing-added ApproveTaker r = refl

module _ (rs ps qs : List ℤ) (process id suffix giving taking series : ℤ) (step : Step) (r : Record) (named : found_record rs ps qs process id suffix giving taking series ≡ some r) where
  -- What the step makes of the process, and the process table with its row.
  abbrev p : ProcessRow
  p = after rs ps qs process id suffix giving taking series step

  abbrev pub processes_with : List ℤ
  processes_with = write processes_layout qs (upsert process_key (finished p) (rows_of processes_layout qs))

  -- The answer with these effects and the row of the process.
  abbrev leaves : Effects → Answer
  leaves e = answered_by e.reply (all_tables (records_after e rs) (positions_after e ps) processes_with)

  booked-as : accepted_in (all_tables rs ps qs) (request rs ps qs process id suffix giving taking series step)
      ≡ leaves (cond (is_complete p) (moving_effects give_up_kind take_up_kind rs ps r id giving taking series) (step_effects step r))
  unfolding accepted_in plan_of give_up_plan give_up_effects view_of books_of plan_reply plan_tables written_by write_books booked put_process the_record
  booked-as =
      ap (λ (o : Option Record). leaves (cond (is_complete p) (moving_effects give_up_kind take_up_kind rs ps (the_record o) id giving taking series) (step_effects step (the_record o)))) named

  pub complete-booked : is_complete p ≡ true → accepted_in (all_tables rs ps qs) (request rs ps qs process id suffix giving taking series step)
      ≡ answered_by (Booked (pos 2) (pos 0))
      (all_tables (records_after (moving_effects give_up_kind take_up_kind rs ps r id giving taking series) rs) (positions_after (moving_effects give_up_kind take_up_kind rs ps r id giving taking series) ps) processes_with)
  complete-booked h = booked-as ∙ ap (λ (b : Bool). leaves (cond b (moving_effects give_up_kind take_up_kind rs ps r id giving taking series) (step_effects step r))) h

  pub step-booked : is_complete p ≡ false → sound_positions ps ≡ true → accepted_in (all_tables rs ps qs) (request rs ps qs process id suffix giving taking series step)
      ≡ answered_by (Booked (pos 0) (pos 0)) (all_tables (write records_layout rs (upsert_all record_key (record_after step r) (rows_of records_layout rs))) ps processes_with)
  step-booked h sound =
      booked-as
      ∙ ap (λ (b : Bool). leaves (cond b (moving_effects give_up_kind take_up_kind rs ps r id giving taking series) (step_effects step r))) h
      ∙ (λ i. answered_by (Booked (pos 0) (pos 0)) (all_tables (write records_layout rs (upsert_all record_key (nothing-added step r i) (rows_of records_layout rs))) (own i) processes_with))
    where
      own : write positions_layout ps (upsert_all position_key [] (rows_of positions_layout ps)) ≡ ps
      own =
          ap (write positions_layout ps) (upsert_all-nil position_key (rows_of positions_layout ps))
          ∙ write-own positions_layout positions-lawful ps (positions-known ps sound).count-sound
