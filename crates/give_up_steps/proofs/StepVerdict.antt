-- The verdict on a step in the shape in which code meets it: test by test up to the record, then the tests of the record, then the room of the process table or, where the step
-- completes, the tests of what moves. On sound tables. Assumes nothing.
use Prim.Native.Nat.{ℕ, ◌+◌}
use native.Mathlib.Omega.{arith}
use mathlib.Core.Path.{◌≡◌, refl, sym, ◌∙◌, ap, subst}
use mathlib.Core.Bool.{Bool, true, false, cond, not, ◌&&◌}
use mathlib.Core.List.{List, [], ◌∷◌, ◌++◌}
use mathlib.Core.Option.{Option, none, some}
use lib.Dec.{ltb}
use lib.IntN.{ℤ, pos}
use lib.ListN.{length}
use borrow.Author.Tests.{le-ltb}
use Rattle.integers.specs.Order.{eq_z}
use Rattle.rules.specs.Figures.{is_to_close, transfer_kind, give_up_kind, take_up_kind}
use Rattle.rules.specs.Keyed.{Key, is_some, find, greatest, absent_from}
use Rattle.rules.specs.Rows.{key_of, record_key, position_key, or_zeros}
use Rattle.rules.specs.ProcessRows.{process_key, opened_process, the_process}
use Rattle.rules.specs.NamedRecord.{the_record, next_suffix, is_elsewhere}
use Rattle.rules.specs.Refusal.{Test, test, any_of, all_of, first_refusal}
use Rattle.rules.specs.Request.{Request, give_up}
use Rattle.rules.specs.Books.{view_of}
use Rattle.rules.specs.Plan.{with_process_row, process_room_test, booking_tests, plan_tests}
use Rattle.rules.specs.Transfer.{holds_too_little}
use Rattle.rules.specs.GiveUp.{give_up_figures, is_opening, is_at, is_out_of_turn, stepped, is_complete, step_status_test, step_effects, finished, give_up_effects, process_before, give_up_plan}
use Rattle.rules.specs.Layout.{room_of, rows_of}
use Rattle.rules.specs.Tables.{current_day, Tables, all_tables, tables_of, books_of, records_layout, positions_layout, processes_layout}
use Rattle.rules.specs.Handle.{plan_of}
use Rattle.rules.specs.declared.Record.{Record}
use Rattle.rules.specs.declared.Position.{Position}
use Rattle.rules.specs.declared.ProcessRow.{ProcessRow}
use Rattle.rules.specs.declared.Step.{Step}
use Rattle.rules.specs.declared.Step.TheVariants.{Open}
use Rattle.keys.proofs.Clauses.{is_some-none, is_some-some, absent_from-nil, absent_from-new, absent_from-old}
use Rattle.keys.proofs.Greatest.{greatest-none}
use Rattle.keys.proofs.Lookup.{find-key}
use Rattle.cells.proofs.SoundCells.{record-rows-sound, records-known, positions-known, processes-known}
use Rattle.soundness.specs.SoundTables.{SoundTables}
use Rattle.soundness.proofs.GiveUp.{stepped-key}
use Rattle.verdict.specs.Verdict.{verdict_of, verdict_in}
use Rattle.verdict.specs.Moving.{moving_effects, moving_verdict}
use Rattle.verdict.specs.Verdict.{Refused}
use Rattle.verdict.proofs.Remaining.{verdict_by, Remaining, ◌past◌, stops}
use Rattle.verdict.proofs.Moving.{moving-step}

-- Tests that pass at the end of a list change nothing.
passing-end : (xs ys : List Test) → first_refusal ys ≡ none → first_refusal (xs ++ ys) ≡ first_refusal xs
unfolding first_refusal
passing-end [] ys h = h
passing-end (t ∷ xs) ys h = ap (λ (o : Option Test). cond t.applies (some t) o) (passing-end xs ys h)

-- Lists of tests that end alike.
pub same-front : (xs ys zs : List Test) → first_refusal ys ≡ first_refusal zs → first_refusal (xs ++ ys) ≡ first_refusal (xs ++ zs)
unfolding first_refusal
same-front [] ys zs h = h
same-front (x ∷ xs) ys zs h = ap (λ (o : Option Test). cond x.applies (some x) o) (same-front xs ys zs h)

module _ (rs ps qs : List ℤ) (process id suffix giving taking series : ℤ) where
  abbrev pub t : Tables
  t = all_tables rs ps qs

  abbrev pub request : Step → Request
  request step = give_up step process id suffix giving taking series

  abbrev pub used : Option ℤ
  used = greatest process_key process (rows_of processes_layout qs)

  abbrev pub found_process : Option ProcessRow
  found_process = find process_key (key_of process id) (rows_of processes_layout qs)

  abbrev pub found_record : Option Record
  found_record = find record_key (key_of id suffix) (rows_of records_layout rs)

  abbrev pub next : ℤ
  next = next_suffix (greatest record_key id (rows_of records_layout rs))

  abbrev pub old : Position
  old = or_zeros giving series (find position_key (key_of giving series) (rows_of positions_layout ps))

  abbrev pub new : Position
  new = or_zeros taking series (find position_key (key_of taking series) (rows_of positions_layout ps))

  -- What the step makes of the process.
  abbrev pub after : Step → ProcessRow
  after step = stepped step (process_before step process id suffix giving taking series found_process)

  -- Of an opening: pending, so that it does not complete. Of a later step: by the row that it finds.
  pub opened-waits : is_complete (after Open) ≡ false
  unfolding stepped process_before opened_process is_complete is_at eq_z
  opened-waits = refl

  pub after-found : (step : Step) → is_opening step ≡ false → after step ≡ stepped step (the_process found_process)
  unfolding process_before
  after-found step later = ap (λ (b : Bool). stepped step (cond b (opened_process process id suffix giving taking series) (the_process found_process))) later

  -- The tests from 12 on, and from 6 on, of the record r.
  abbrev pub tail : Step → Record → List Test
  tail step r = test 12 (is_complete (after step) && holds_too_little r old) ∷ booking_tests (books_of t) (give_up_effects step (current_day rs) r (after step) next taking old new)

  abbrev pub from_record : Step → Record → List Test
  from_record step r = test 6 (is_elsewhere giving series r) ∷ step_status_test step r ∷ test 8 (is_to_close r.side) ∷ tail step r

  abbrev pub Judged : Step → List Test → Type 0
  Judged step tests = Remaining (verdict_in t (request step)) tests

  all-tests : (step : Step) → Judged step
      (test 3 (not (give_up_figures process id suffix giving taking series)) ∷ test 18 (is_out_of_turn step suffix giving taking series used found_process)
      ∷ test 5 (not (is_some found_record)) ∷ from_record step (the_record found_record))
  unfolding verdict_in plan_of give_up_plan plan_tests view_of books_of
  all-tests step = record { is = refl }

  -- Past 3; past 18; past 5, where r is the record.
  pub past-figures : (step : Step) → give_up_figures process id suffix giving taking series ≡ true → Judged step
      (test 18 (is_out_of_turn step suffix giving taking series used found_process) ∷ test 5 (not (is_some found_record)) ∷ from_record step (the_record found_record))
  unfolding test
  past-figures step figures = all-tests step past ap not figures

  pub past-turn : (step : Step) → give_up_figures process id suffix giving taking series ≡ true → is_out_of_turn step suffix giving taking series used found_process ≡ false
      → Judged step (test 5 (not (is_some found_record)) ∷ from_record step (the_record found_record))
  unfolding test
  past-turn step figures turn = past-figures step figures past turn

  pub past-found : (step : Step) → give_up_figures process id suffix giving taking series ≡ true → is_out_of_turn step suffix giving taking series used found_process ≡ false
      → (r : Record) → found_record ≡ some r → Judged step (from_record step r)
  unfolding test the_record
  past-found step figures turn r e =
      subst (λ (o : Option Record). Judged step (from_record step (the_record o))) e
      (past-turn step figures turn past (ap (λ (o : Option Record). not (is_some o)) e ∙ ap not (is_some-some r)))

  -- Each of these refuses.
  pub refuses-figures : (step : Step) → give_up_figures process id suffix giving taking series ≡ false → verdict_in t (request step) ≡ Refused (pos 3) (pos 0)
  unfolding test
  refuses-figures step h = sym (stops (all-tests step) (ap not h))

  pub refuses-turn : (step : Step) → give_up_figures process id suffix giving taking series ≡ true → is_out_of_turn step suffix giving taking series used found_process ≡ true
      → verdict_in t (request step) ≡ Refused (pos 18) (pos 0)
  unfolding test
  refuses-turn step figures h = sym (stops (past-figures step figures) h)

  pub refuses-missing : (step : Step) → give_up_figures process id suffix giving taking series ≡ true → is_out_of_turn step suffix giving taking series used found_process ≡ false
      → found_record ≡ none → verdict_in t (request step) ≡ Refused (pos 5) (pos 0)
  unfolding test
  refuses-missing step figures turn e =
      sym (stops (past-turn step figures turn) (ap (λ (o : Option Record). not (is_some o)) e ∙ ap not (is_some-none Record)))

  -- ---- the tests from 12 on

  module _ (sound : SoundTables t) where
    -- A step that does not complete has that of the process table's room alone.
    pub step-tail : (step : Step) (r : Record) → is_complete (after step) ≡ false → first_refusal (tail step r) ≡ first_refusal (process_room_test (books_of t) (some (finished (after step))))
    unfolding give_up_effects booking_tests books_of test first_refusal any_of all_of
    step-tail step r h =
        let room : ltb (room_of records_layout rs) (length (rows_of records_layout rs) + 0) ≡ false =
        le-ltb (room_of records_layout rs) (length (rows_of records_layout rs) + 0) (omega (arith, (records-known rs (record-rows-sound rs sound.records)).rows_fit)) in
        let fits : ltb (room_of positions_layout ps) (length (rows_of positions_layout ps) + absent_from position_key (rows_of positions_layout ps) []) ≡ false =
        le-ltb (room_of positions_layout ps) (length (rows_of positions_layout ps) + absent_from position_key (rows_of positions_layout ps) [])
        (omega (arith, (positions-known ps sound.positions).rows_fit, absent_from-nil position_key (rows_of positions_layout ps))) in
        rw (h, room, fits)

    -- The row of a process that is there needs no room.
    pub present-room : (p x : ProcessRow) → find process_key (process_key p) (rows_of processes_layout qs) ≡ some x → first_refusal (process_room_test (books_of t) (some p)) ≡ none
    unfolding process_room_test books_of test first_refusal
    present-room p x e =
        let fits : ltb (room_of processes_layout qs) (length (rows_of processes_layout qs) + absent_from process_key (rows_of processes_layout qs) (p ∷ [])) ≡ false =
        le-ltb (room_of processes_layout qs) (length (rows_of processes_layout qs) + absent_from process_key (rows_of processes_layout qs) (p ∷ []))
        (omega (arith, (processes-known qs sound.processes).rows_fit, absent_from-old process_key (rows_of processes_layout qs) p x [] e, absent_from-nil process_key (rows_of processes_layout qs))) in
        rw fits

    -- A later step writes its row in the place of the one that it found,
    pub stepped-stands : (step : Step) (p : ProcessRow) → found_process ≡ some p → find process_key (process_key (finished (stepped step p))) (rows_of processes_layout qs) ≡ some p
    stepped-stands step p found =
        ap (λ (k : Key). find process_key k (rows_of processes_layout qs)) (stepped-key step p ∙ find-key process_key (key_of process id) (rows_of processes_layout qs) p found) ∙ found

    pub stepped-room : (step : Step) → is_opening step ≡ false → (p : ProcessRow) → found_process ≡ some p → first_refusal (process_room_test (books_of t) (some (finished (after step)))) ≡ none
    unfolding the_process
    stepped-room step later p found =
        ap (λ (q : ProcessRow). first_refusal (process_room_test (books_of t) (some (finished q)))) (after-found step later ∙ ap (λ (o : Option ProcessRow). stepped step (the_process o)) found)
        ∙ present-room (finished (stepped step p)) p (stepped-stands step p found)

    -- and an opening, where its process id is not used, a row more: test 23.
    pub opened-room : used ≡ none → first_refusal (process_room_test (books_of t) (some (finished (after Open)))) ≡ first_refusal (test 23 (ltb (room_of processes_layout qs) (length (rows_of processes_layout qs) + 1)) ∷ [])
    unfolding process_room_test books_of stepped process_before opened_process finished is_complete is_at eq_z
    opened-room unused =
        ap (λ (n : ℕ). first_refusal (test 23 (ltb (room_of processes_layout qs) (length (rows_of processes_layout qs) + n)) ∷ []))
        (absent_from-new process_key (rows_of processes_layout qs) (opened_process process id suffix giving taking series) [] (greatest-none process_key process id (rows_of processes_layout qs) unused)
        ∙ ap (λ (n : ℕ). 1 + n) (absent_from-nil process_key (rows_of processes_layout qs)))

    -- A step that completes has those of a record that moves, and then that of the room.
    pub complete-tail : (step : Step) (r : Record) → is_complete (after step) ≡ true
        → first_refusal (process_room_test (books_of t) (some (finished (after step)))) ≡ none → verdict_by (tail step r) ≡ moving_verdict rs ps r id giving taking series
    unfolding give_up_effects moving_verdict
    complete-tail step r h room =
        ap (λ (b : Bool). verdict_by (test 12 (b && holds_too_little r old)
        ∷ booking_tests (books_of t) (with_process_row (finished (after step)) (cond b (moving_effects give_up_kind take_up_kind rs ps r id giving taking series) (step_effects step r))))) h
        ∙ ap (λ (tests : List Test). verdict_by (test 12 (holds_too_little r old) ∷ tests)) (moving-step rs ps id giving taking series r give_up_kind take_up_kind qs (finished (after step)))
        ∙ ap verdict_of (passing-end (test 12 (holds_too_little r old) ∷ booking_tests (books_of (tables_of rs ps)) (moving_effects transfer_kind transfer_kind rs ps r id giving taking series)) (process_room_test (books_of t) (some (finished (after step)))) room)
