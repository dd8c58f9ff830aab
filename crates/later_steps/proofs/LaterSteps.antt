-- A step on a give-up that is open, on sound tables: refused 18 where it finds no such process or it isn't its turn, else judged by the tests of the record, and where it completes by those of a
-- record that moves. Booked, the tables are what the rules say. Assumes nothing.
use mathlib.Core.Path.{◌≡◌, refl, sym, ◌∙◌, ap}
use mathlib.Core.Bool.{Bool, true, false, cond, not, ◌&&◌}
use mathlib.Core.List.{List, [], ◌∷◌, ◌++◌}
use mathlib.Core.Option.{Option, none, some}
use lib.IntN.{ℤ, pos}
use Rattle.rules.specs.Figures.{give_up_kind, take_up_kind}
use Rattle.rules.specs.Keyed.{find, upsert, upsert_all}
use Rattle.rules.specs.Rows.{record_key}
use Rattle.rules.specs.ProcessRows.{process_key, the_process}
use Rattle.rules.specs.Refusal.{Test, first_refusal}
use Rattle.rules.specs.Request.{Request}
use Rattle.rules.specs.Plan.{process_room_test}
use Rattle.rules.specs.GiveUp.{is_opening, has_figures, has_turn, may_step, is_out_of_turn, stepped, is_complete, step_status_test, record_after, finished}
use Rattle.rules.specs.Layout.{rows_of, write}
use Rattle.rules.specs.Tables.{all_tables, books_of, records_layout, processes_layout}
use Rattle.rules.specs.Handle.{answered_by}
use Rattle.rules.specs.declared.Record.{Record}
use Rattle.rules.specs.declared.ProcessRow.{ProcessRow}
use Rattle.rules.specs.declared.Reply.TheVariants as Reply
use Rattle.rules.specs.declared.Step.{Step}
use Rattle.keys.proofs.Split.{none-some}
use Rattle.soundness.specs.SoundTables.{SoundTables}
use Rattle.verdict.specs.Verdict.{verdict_of, verdict_in}
use Rattle.verdict.specs.Moving.{moving_effects, moving_verdict, records_after, positions_after}
use Rattle.verdict.specs.Verdict.{Accepted, Refused}
use Rattle.verdict.proofs.Acceptance.{none-accepted}
use Rattle.verdict.proofs.Handled.{refused-before}
use Rattle.verdict.proofs.Remaining.{verdict_by}
use Rattle.give_up_steps.specs.HandledIn.{HandledIn}
use Rattle.give_up_steps.specs.StepTests.{later_tests}
use Rattle.give_up_steps.specs.Terms.{step_of, terms_valid}
use Rattle.give_up_steps.specs.declared.Terms.{Terms}
use Rattle.give_up_steps.proofs.Answering.{refused-soundly, booked-soundly}
use Rattle.give_up_steps.proofs.StepVerdict.{used, found_process, found_record, after, after-found, tail, past-found, refuses-figures, refuses-turn, refuses-missing, step-tail, stepped-stands as written-in-place, stepped-room, complete-tail}
use Rattle.give_up_steps.proofs.StepBooked.{processes_with, step-booked, complete-booked}

-- Tests that pass at the front of a list change nothing.
passing-front : (xs ys : List Test) → first_refusal xs ≡ none → first_refusal (xs ++ ys) ≡ first_refusal ys
unfolding first_refusal
passing-front [] ys h = refl
passing-front (x ∷ xs) ys h = go x.applies h (passing-front xs ys)
  where
    go : (b : Bool) → cond b (some x) (first_refusal xs) ≡ none → (first_refusal xs ≡ none → first_refusal (xs ++ ys) ≡ first_refusal ys) → cond b (some x) (first_refusal (xs ++ ys)) ≡ first_refusal ys
    go true k again = none-some k refl
    go false k again = again k

module _ (rs ps qs : List ℤ) (sound : SoundTables (all_tables rs ps qs)) (g : Terms) (step : Step) (later : is_opening step ≡ false) where
  abbrev pub steps : Request
  steps = step_of step g

  pub later-figures : terms_valid g ≡ false → HandledIn (all_tables rs ps qs) steps (answered_by (Reply.Refused (pos 3) (pos 0)) (all_tables rs ps qs))
  later-figures h = refused-soundly (all_tables rs ps qs) sound steps (pos 3) (pos 0) (refuses-figures rs ps qs g.process g.id g.suffix g.giving g.taking g.series step h)

  module _ (figures : terms_valid g ≡ true) where
    out-of-turn : (b : Bool) → not (may_step step g.suffix g.giving g.taking g.series (found_process rs ps qs g.process g.id g.suffix g.giving g.taking g.series)) ≡ b
        → is_out_of_turn step g.suffix g.giving g.taking g.series (used rs ps qs g.process g.id g.suffix g.giving g.taking g.series) (found_process rs ps qs g.process g.id g.suffix g.giving g.taking g.series) ≡ b
    unfolding is_out_of_turn
    out-of-turn b h = rw later h

    refused-18 : not (may_step step g.suffix g.giving g.taking g.series (found_process rs ps qs g.process g.id g.suffix g.giving g.taking g.series)) ≡ true
        → HandledIn (all_tables rs ps qs) steps (answered_by (Reply.Refused (pos 18) (pos 0)) (all_tables rs ps qs))
    refused-18 h = refused-soundly (all_tables rs ps qs) sound steps (pos 18) (pos 0) (refuses-turn rs ps qs g.process g.id g.suffix g.giving g.taking g.series step figures (out-of-turn true h))

    -- No such process.
    pub later-unknown : found_process rs ps qs g.process g.id g.suffix g.giving g.taking g.series ≡ none
        → HandledIn (all_tables rs ps qs) steps (answered_by (Reply.Refused (pos 18) (pos 0)) (all_tables rs ps qs))
    unfolding may_step
    later-unknown e = refused-18 (ap (λ (o : Option ProcessRow). not (may_step step g.suffix g.giving g.taking g.series o)) e)

    module _ (x : ProcessRow) (found : found_process rs ps qs g.process g.id g.suffix g.giving g.taking g.series ≡ some x) where
      -- Figures unlike the row's, or out of turn.
      pub later-out : (has_figures g.suffix g.giving g.taking g.series x && has_turn step x) ≡ false
          → HandledIn (all_tables rs ps qs) steps (answered_by (Reply.Refused (pos 18) (pos 0)) (all_tables rs ps qs))
      unfolding may_step
      later-out h = refused-18 (ap (λ (o : Option ProcessRow). not (may_step step g.suffix g.giving g.taking g.series o)) found ∙ ap not h)

      module _ (turn : (has_figures g.suffix g.giving g.taking g.series x && has_turn step x) ≡ true) where
        its-turn : is_out_of_turn step g.suffix g.giving g.taking g.series (used rs ps qs g.process g.id g.suffix g.giving g.taking g.series) (found_process rs ps qs g.process g.id g.suffix g.giving g.taking g.series) ≡ false
        unfolding may_step
        its-turn = out-of-turn false (ap (λ (o : Option ProcessRow). not (may_step step g.suffix g.giving g.taking g.series o)) found ∙ ap not turn)

        -- What the step makes of the row that it found.
        after_is : after rs ps qs g.process g.id g.suffix g.giving g.taking g.series step ≡ stepped step x
        unfolding the_process
        after_is = after-found rs ps qs g.process g.id g.suffix g.giving g.taking g.series step later ∙ ap (λ (o : Option ProcessRow). stepped step (the_process o)) found

        -- Its row has the key of the row that it found, and is written in its place.
        pub stepped-stands : find process_key (process_key (finished (stepped step x))) (rows_of processes_layout qs) ≡ some x
        stepped-stands = written-in-place rs ps qs g.process g.id g.suffix g.giving g.taking g.series sound step x found

        has_room : first_refusal (process_room_test (books_of (all_tables rs ps qs)) (some (finished (after rs ps qs g.process g.id g.suffix g.giving g.taking g.series step)))) ≡ none
        has_room = stepped-room rs ps qs g.process g.id g.suffix g.giving g.taking g.series sound step later x found

        pub later-missing : found_record rs ps qs g.process g.id g.suffix g.giving g.taking g.series ≡ none
            → HandledIn (all_tables rs ps qs) steps (answered_by (Reply.Refused (pos 5) (pos 0)) (all_tables rs ps qs))
        later-missing e = refused-soundly (all_tables rs ps qs) sound steps (pos 5) (pos 0) (refuses-missing rs ps qs g.process g.id g.suffix g.giving g.taking g.series step figures its-turn e)

        module _ (r : Record) (named : found_record rs ps qs g.process g.id g.suffix g.giving g.taking g.series ≡ some r) where
          judged : verdict_in (all_tables rs ps qs) steps ≡ verdict_of (first_refusal (later_tests r g.giving g.series ++ tail rs ps qs g.process g.id g.suffix g.giving g.taking g.series step r))
          unfolding step_status_test
          judged = (rw later at (past-found rs ps qs g.process g.id g.suffix g.giving g.taking g.series step figures its-turn r named).is)

          pub later-refused : (n p : ℤ) → verdict_of (first_refusal (later_tests r g.giving g.series)) ≡ Refused n p
              → HandledIn (all_tables rs ps qs) steps (answered_by (Reply.Refused n p) (all_tables rs ps qs))
          later-refused n p v =
              refused-soundly (all_tables rs ps qs) sound steps n p (judged ∙ refused-before (later_tests r g.giving g.series) (tail rs ps qs g.process g.id g.suffix g.giving g.taking g.series step r) n p v)

          module _ (passed : verdict_of (first_refusal (later_tests r g.giving g.series)) ≡ Accepted) where
            judged-tail : verdict_in (all_tables rs ps qs) steps ≡ verdict_by (tail rs ps qs g.process g.id g.suffix g.giving g.taking g.series step r)
            judged-tail =
                judged
                ∙ ap verdict_of (passing-front (later_tests r g.giving g.series) (tail rs ps qs g.process g.id g.suffix g.giving g.taking g.series step r) (none-accepted (first_refusal (later_tests r g.giving g.series)) passed))

            -- The process table as the code writes it.
            as-stepped : (q : ProcessRow) → q ≡ finished (stepped step x) → (qs₁ : List ℤ) → qs₁ ≡ write processes_layout qs (upsert process_key q (rows_of processes_layout qs))
                → qs₁ ≡ processes_with rs ps qs g.process g.id g.suffix g.giving g.taking g.series step r named
            as-stepped q e qs₁ w =
                w
                ∙ ap (λ (p : ProcessRow). write processes_layout qs (upsert process_key p (rows_of processes_layout qs))) e
                ∙ ap (λ (p : ProcessRow). write processes_layout qs (upsert process_key (finished p) (rows_of processes_layout qs))) (sym after_is)

            -- A step that does not complete.
            pub later-advanced : is_complete (stepped step x) ≡ false → (q : ProcessRow) → q ≡ stepped step x → (rs₁ qs₁ : List ℤ)
                → rs₁ ≡ write records_layout rs (upsert_all record_key (record_after step r) (rows_of records_layout rs))
                → qs₁ ≡ write processes_layout qs (upsert process_key q (rows_of processes_layout qs))
                → HandledIn (all_tables rs ps qs) steps (answered_by (Reply.Booked (pos 0) (pos 0)) (all_tables rs₁ ps qs₁))
            unfolding finished verdict_of
            later-advanced h q e rs₁ qs₁ f w =
                booked-soundly (all_tables rs ps qs) sound steps
                (judged-tail ∙ ap verdict_of (step-tail rs ps qs g.process g.id g.suffix g.giving g.taking g.series sound step r waits ∙ has_room)) _
                ((λ i. answered_by (Reply.Booked (pos 0) (pos 0)) (all_tables (f i) ps (as-stepped q (e ∙ own) qs₁ w i)))
                ∙ sym (step-booked rs ps qs g.process g.id g.suffix g.giving g.taking g.series step r named waits sound.positions))
              where
                waits : is_complete (after rs ps qs g.process g.id g.suffix g.giving g.taking g.series step) ≡ false
                waits = ap is_complete after_is ∙ h

                own : stepped step x ≡ finished (stepped step x)
                own = rw h

            -- The step that completes, by the verdict on what moves.
            module _ (complete : is_complete (stepped step x) ≡ true) where
              completes : is_complete (after rs ps qs g.process g.id g.suffix g.giving g.taking g.series step) ≡ true
              completes = ap is_complete after_is ∙ complete

              judged-moving : verdict_in (all_tables rs ps qs) steps ≡ moving_verdict rs ps r g.id g.giving g.taking g.series
              judged-moving = judged-tail ∙ complete-tail rs ps qs g.process g.id g.suffix g.giving g.taking g.series sound step r completes has_room

              pub later-not-moved : (n p : ℤ) → moving_verdict rs ps r g.id g.giving g.taking g.series ≡ Refused n p
                  → HandledIn (all_tables rs ps qs) steps (answered_by (Reply.Refused n p) (all_tables rs ps qs))
              later-not-moved n p v = refused-soundly (all_tables rs ps qs) sound steps n p (judged-moving ∙ v)

              pub later-completed : moving_verdict rs ps r g.id g.giving g.taking g.series ≡ Accepted → (q : ProcessRow) → q ≡ finished (stepped step x) → (rs₁ ps₁ qs₁ : List ℤ)
                  → rs₁ ≡ records_after (moving_effects give_up_kind take_up_kind rs ps r g.id g.giving g.taking g.series) rs
                  → ps₁ ≡ positions_after (moving_effects give_up_kind take_up_kind rs ps r g.id g.giving g.taking g.series) ps
                  → qs₁ ≡ write processes_layout qs (upsert process_key q (rows_of processes_layout qs))
                  → HandledIn (all_tables rs ps qs) steps (answered_by (Reply.Booked (pos 2) (pos 0)) (all_tables rs₁ ps₁ qs₁))
              later-completed v q e rs₁ ps₁ qs₁ f h w =
                  booked-soundly (all_tables rs ps qs) sound steps (judged-moving ∙ v) _
                  ((λ i. answered_by (Reply.Booked (pos 2) (pos 0)) (all_tables (f i) (h i) (as-stepped q e qs₁ w i)))
                  ∙ sym (complete-booked rs ps qs g.process g.id g.suffix g.giving g.taking g.series step r named completes))
