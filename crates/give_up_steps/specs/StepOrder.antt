-- The refusals of a step on sound tables, in order, as document 02, K3, says them: of an opening, and of a later step that does not complete the give-up.
use Rattle.std.specs.Prelude.{ℕ, ◌+◌, ◌≡◌, Bool, not, List, [], ◌∷◌, ltb, ℤ, length}
use Rattle.std.proofs.Math.Option.{some}
use Rattle.std.proofs.Math.ListN.{get_elem?}
use Rattle.integers.specs.Order.{eq_z}
use Rattle.rules.specs.Figures.{is_to_close, under_give_up}
use Rattle.rules.specs.Keyed.{is_some}
use Rattle.rules.specs.ProcessRows.{the_process}
use Rattle.rules.specs.NamedRecord.{the_record, is_elsewhere, status_test}
use Rattle.rules.specs.Refusal.{Test, test}
use Rattle.rules.specs.Books.{View, view_of}
use Rattle.rules.specs.GiveUp.{give_up_figures, may_step, stepped, is_complete}
use Rattle.rules.specs.Tables.{Tables, books_of}
use Rattle.rules.specs.declared.Record.{Record}
use Rattle.rules.specs.declared.ProcessRow.{ProcessRow}
use Rattle.rules.specs.declared.Step.{Step}

-- "Opening tests the record by 5 to 8, and its own room last (23)"; "Adjusting or opening on status 3 is refused 17, one test with 7"; "a used process id ... refused 18, after 3"
unfoldable pub opening_refusals : Tables → (process id suffix giving taking series : ℤ) → List Test
opening_refusals t process id suffix giving taking series =
    let v : View = view_of (books_of t) in
    let r : Record = the_record (v.record_at id suffix) in
    test 3 (not (give_up_figures process id suffix giving taking series))
    ∷ test 18 (is_some (v.transaction_of process))
    ∷ test 5 (not (is_some (v.record_at id suffix)))
    ∷ test 6 (is_elsewhere giving series r)
    ∷ status_test r
    ∷ test 8 (is_to_close r.side)
    ∷ test 23 (ltb (books_of t).processes_room (length (books_of t).processes + 1))
    ∷ []

-- "A step out of turn, a repeated approval, an unknown process, ... or figures unlike the row's are refused 18, after 3. Later steps test the record by 5 to 8 too, 7 meaning status not 3."
unfoldable pub later_refusals : Step → Tables → (process id suffix giving taking series : ℤ) → List Test
later_refusals step t process id suffix giving taking series =
    let v : View = view_of (books_of t) in
    let r : Record = the_record (v.record_at id suffix) in
    test 3 (not (give_up_figures process id suffix giving taking series))
    ∷ test 18 (not (may_step step suffix giving taking series (v.process_at process id)))
    ∷ test 5 (not (is_some (v.record_at id suffix)))
    ∷ test 6 (is_elsewhere giving series r)
    ∷ test 7 (not (eq_z r.status under_give_up))
    ∷ test 8 (is_to_close r.side)
    ∷ []

-- "The call that completes claim and both approvals"
unfoldable pub completes : Step → Tables → (process id : ℤ) → Bool
completes step t process id = is_complete (stepped step (the_process ((view_of (books_of t)).process_at process id)))

-- "a used process id": a row has it
pub record IsUsed (process : ℤ) (rows : List ProcessRow) : Type 0 where
  pub place : ℕ
  pub row : ProcessRow
  pub stands : get_elem? rows place ≡ some row
  pub has-it : row.process ≡ process
