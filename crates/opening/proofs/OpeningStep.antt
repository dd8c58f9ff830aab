-- An opening on sound tables: refused 18 where the process id is used, else judged by the tests of the record and the process table's room; booked, the record has status 3 and the table the
-- new row. Assumes nothing.
use mathlib.Core.Path.{◌≡◌, refl, sym, ◌∙◌, ap}
use mathlib.Core.Bool.{true, false}
use mathlib.Core.List.{List, [], ◌∷◌}
use mathlib.Core.Option.{Option, none, some}
use lib.IntN.{ℤ, pos}
use mir.Syntax.{w64}
use mir.Val.{SFits}
use Rattle.integers.specs.Order.{eq_z}
use Rattle.rules.specs.Figures.{under_give_up}
use Rattle.rules.specs.Keyed.{is_some, upsert, upsert_all}
use Rattle.rules.specs.Rows.{record_key, with_status}
use Rattle.rules.specs.ProcessRows.{process_key, opened_process}
use Rattle.rules.specs.Refusal.{first_refusal}
use Rattle.rules.specs.Request.{Request}
use Rattle.rules.specs.GiveUp.{is_at, is_out_of_turn, stepped, is_complete, step_status_test, record_after, finished, process_before}
use Rattle.rules.specs.Layout.{rows_of, write}
use Rattle.rules.specs.Tables.{all_tables, records_layout, processes_layout}
use Rattle.rules.specs.Handle.{answered_by}
use Rattle.rules.specs.declared.Record.{Record}
use Rattle.rules.specs.declared.ProcessRow.{ProcessRow}
use Rattle.rules.specs.declared.Reply.TheVariants as Reply
use Rattle.rules.specs.declared.Step.TheVariants.{Open}
use Rattle.keys.proofs.Clauses.{is_some-none, is_some-some, upsert_all-nil, upsert_all-cons}
use Rattle.soundness.specs.SoundTables.{SoundTables}
use Rattle.verdict.specs.Verdict.{verdict_of, verdict_in}
use Rattle.verdict.specs.Verdict.{Accepted, Refused}
use Rattle.give_up_steps.specs.HandledIn.{HandledIn}
use Rattle.give_up_steps.specs.StepTests.{opening_tests}
use Rattle.give_up_steps.specs.Terms.{step_of, terms_valid, opened_row}
use Rattle.give_up_steps.specs.declared.Terms.{Terms}
use Rattle.give_up_steps.proofs.Answering.{refused-soundly, booked-soundly}
use Rattle.give_up_steps.proofs.StepVerdict.{same-front, used, found_process, found_record, after, opened-waits, opened-room, past-found, refuses-figures, refuses-turn, refuses-missing, step-tail}
use Rattle.give_up_steps.proofs.StepBooked.{step-booked}

-- The figures of a request are those of its bits.
abbrev pub InRange : Terms → Type 0
InRange g = (SFits w64 g.process) × (SFits w64 g.id) × (SFits w64 g.suffix) × (SFits w64 g.giving) × (SFits w64 g.taking) × (SFits w64 g.series)

module _ (rs ps qs : List ℤ) (sound : SoundTables (all_tables rs ps qs)) (g : Terms) where
  abbrev pub opens : Request
  opens = step_of Open g

  abbrev row : ProcessRow
  row = opened_row g

  row-finished : finished (after rs ps qs g.process g.id g.suffix g.giving g.taking g.series Open) ≡ row
  unfolding stepped process_before opened_process finished is_complete is_at eq_z
  row-finished = refl

  pub opening-figures : terms_valid g ≡ false → HandledIn (all_tables rs ps qs) opens (answered_by (Reply.Refused (pos 3) (pos 0)) (all_tables rs ps qs))
  opening-figures h = refused-soundly (all_tables rs ps qs) sound opens (pos 3) (pos 0) (refuses-figures rs ps qs g.process g.id g.suffix g.giving g.taking g.series Open h)

  module _ (figures : terms_valid g ≡ true) where
    pub opening-used : (o : ℤ) → used rs ps qs g.process g.id g.suffix g.giving g.taking g.series ≡ some o
        → HandledIn (all_tables rs ps qs) opens (answered_by (Reply.Refused (pos 18) (pos 0)) (all_tables rs ps qs))
    unfolding is_out_of_turn
    opening-used o e =
        refused-soundly (all_tables rs ps qs) sound opens (pos 18) (pos 0)
        (refuses-turn rs ps qs g.process g.id g.suffix g.giving g.taking g.series Open figures (ap (λ (x : Option ℤ). is_some x) e ∙ is_some-some o))

    module _ (unused : used rs ps qs g.process g.id g.suffix g.giving g.taking g.series ≡ none) where
      turn : is_out_of_turn Open g.suffix g.giving g.taking g.series (used rs ps qs g.process g.id g.suffix g.giving g.taking g.series) (found_process rs ps qs g.process g.id g.suffix g.giving g.taking g.series) ≡ false
      unfolding is_out_of_turn
      turn = ap (λ (x : Option ℤ). is_some x) unused ∙ is_some-none ℤ

      pub opening-missing : found_record rs ps qs g.process g.id g.suffix g.giving g.taking g.series ≡ none
          → HandledIn (all_tables rs ps qs) opens (answered_by (Reply.Refused (pos 5) (pos 0)) (all_tables rs ps qs))
      opening-missing e = refused-soundly (all_tables rs ps qs) sound opens (pos 5) (pos 0) (refuses-missing rs ps qs g.process g.id g.suffix g.giving g.taking g.series Open figures turn e)

      pub opening-judged : (r : Record) → found_record rs ps qs g.process g.id g.suffix g.giving g.taking g.series ≡ some r
          → verdict_in (all_tables rs ps qs) opens ≡ verdict_of (first_refusal (opening_tests qs r g.giving g.series))
      unfolding step_status_test
      opening-judged r e =
          (past-found rs ps qs g.process g.id g.suffix g.giving g.taking g.series Open figures turn r e).is
          ∙ ap verdict_of
          (same-front (_ ∷ _ ∷ _ ∷ []) _ _
          (step-tail rs ps qs g.process g.id g.suffix g.giving g.taking g.series sound Open r (opened-waits rs ps qs g.process g.id g.suffix g.giving g.taking g.series)
          ∙ opened-room rs ps qs g.process g.id g.suffix g.giving g.taking g.series sound unused))

      pub opening-refused : (r : Record) → found_record rs ps qs g.process g.id g.suffix g.giving g.taking g.series ≡ some r → (n p : ℤ)
          → verdict_of (first_refusal (opening_tests qs r g.giving g.series)) ≡ Refused n p
          → HandledIn (all_tables rs ps qs) opens (answered_by (Reply.Refused n p) (all_tables rs ps qs))
      opening-refused r e n p v = refused-soundly (all_tables rs ps qs) sound opens n p (opening-judged r e ∙ v)

      pub opening-booked : (r : Record) → found_record rs ps qs g.process g.id g.suffix g.giving g.taking g.series ≡ some r
          → verdict_of (first_refusal (opening_tests qs r g.giving g.series)) ≡ Accepted → (rs₁ qs₁ : List ℤ)
          → rs₁ ≡ write records_layout rs (upsert record_key (with_status under_give_up r) (rows_of records_layout rs))
          → qs₁ ≡ write processes_layout qs (upsert process_key row (rows_of processes_layout qs))
          → HandledIn (all_tables rs ps qs) opens (answered_by (Reply.Booked (pos 0) (pos 0)) (all_tables rs₁ ps qs₁))
      unfolding record_after
      opening-booked r e v rs₁ qs₁ f h =
          booked-soundly (all_tables rs ps qs) sound opens (opening-judged r e ∙ v) _
          ((λ i. answered_by (Reply.Booked (pos 0) (pos 0)) (all_tables ((f ∙ one-put) i) ps ((h ∙ as-finished) i)))
          ∙ sym (step-booked rs ps qs g.process g.id g.suffix g.giving g.taking g.series Open r e (opened-waits rs ps qs g.process g.id g.suffix g.giving g.taking g.series) sound.positions))
        where
          one-put : write records_layout rs (upsert record_key (with_status under_give_up r) (rows_of records_layout rs))
              ≡ write records_layout rs (upsert_all record_key (with_status under_give_up r ∷ []) (rows_of records_layout rs))
          one-put =
              ap (write records_layout rs)
              (sym (upsert_all-cons record_key (with_status under_give_up r) [] (rows_of records_layout rs) ∙ upsert_all-nil record_key (upsert record_key (with_status under_give_up r) (rows_of records_layout rs))))

          as-finished : write processes_layout qs (upsert process_key row (rows_of processes_layout qs))
              ≡ write processes_layout qs (upsert process_key (finished (after rs ps qs g.process g.id g.suffix g.giving g.taking g.series Open)) (rows_of processes_layout qs))
          as-finished = ap (λ (p : ProcessRow). write processes_layout qs (upsert process_key p (rows_of processes_layout qs))) (sym row-finished)
