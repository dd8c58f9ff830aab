-- The order of a step's refusals on sound tables (document 02, K3): of an opening exactly 3, 18, 5, 6, 7 or 17, 8 and 23 (`opening-order`); of a later step that does not complete exactly 3, 18, 5, 6, 7 and 8
-- (`later-order`): 12 to 16 refuse neither, nor 23 a later step, whose process has its row. And the test of an opening that its process id is used is true exactly where a row has it (`used-exactly`). Assumes nothing.
use Prim.Native.Nat.{ℕ, zero, suc}
use mathlib.Core.Path.{◌≡◌, refl, sym, ◌∙◌, ap}
use mathlib.Core.Bool.{Bool, true, false, cond, not}
use mathlib.Core.List.{List, [], ◌∷◌}
use mathlib.Core.Logic.{◌↔◌, ◌⊎◌, inl, inr}
use mathlib.Core.Option.{Option, none, some}
use lib.IntN.{ℤ}
use lib.ListN.{get_elem?}
use Rattle.integers.specs.Order.{eq_z}
use Rattle.integers.proofs.Parts.{eq_z-true, true-eq_z}
use Rattle.rules.specs.Keyed.{is_some, greatest}
use Rattle.rules.specs.ProcessRows.{process_key}
use Rattle.rules.specs.NamedRecord.{the_record}
use Rattle.rules.specs.Refusal.{Test, test, first_refusal}
use Rattle.rules.specs.Request.{give_up}
use Rattle.rules.specs.Books.{view_of}
use Rattle.rules.specs.Plan.{plan_tests}
use Rattle.rules.specs.GiveUp.{is_opening, may_step, is_out_of_turn, is_complete, step_status_test, give_up_plan}
use Rattle.rules.specs.Tables.{Tables, books_of}
use Rattle.rules.specs.Handle.{plan_of, refusal_of}
use Rattle.rules.specs.declared.ProcessRow.{ProcessRow}
use Rattle.rules.specs.declared.Step.{Step}
use Rattle.rules.specs.declared.Step.TheVariants.{Open}
use Rattle.keys.proofs.Split.{split, clash, none-some, some_inj}
use Rattle.keys.proofs.Counts.{is_some-absent}
use Rattle.keys.proofs.Clauses.{is_some-none, is_some-some, greatest-nil, greatest-here, greatest-there}
use Rattle.soundness.specs.SoundTables.{SoundTables}
use Rattle.history.proofs.Refusals.{no-refusal}
use Rattle.verdict.proofs.Handled.{plan-sound}
use Rattle.give_up_steps.specs.StepOrder.{opening_refusals, later_refusals, completes, IsUsed}
use Rattle.give_up_steps.proofs.StepVerdict.{same-front, opened-waits, after-found, found_process, tail, step-tail, stepped-room, opened-room}

-- ---- a used process id

used-row : (process : ℤ) (rows : List ProcessRow) → is_some (greatest process_key process rows) ≡ true → IsUsed process rows
used-row process [] h = clash h (ap (λ (o : Option ℤ). is_some o) (greatest-nil process_key process) ∙ is_some-none ℤ)
used-row process (p ∷ rest) h = go (split (eq_z p.process process)) (used-row process rest)
  where
    go : (eq_z p.process process ≡ true) ⊎ (eq_z p.process process ≡ false) → (is_some (greatest process_key process rest) ≡ true → IsUsed process rest) → IsUsed process (p ∷ rest)
    go (inl e) again = record { place = 0; row = p; stands = refl; has-it = eq_z-true p.process process e }
    go (inr e) again =
        let u : IsUsed process rest = again (ap (λ (o : Option ℤ). is_some o) (sym (greatest-there process_key process p rest e)) ∙ h) in
        record { place = suc u.place; row = u.row; stands = u.stands; has-it = u.has-it }

row-used : (process : ℤ) (rows : List ProcessRow) (place : ℕ) (row : ProcessRow) → get_elem? rows place ≡ some row → row.process ≡ process → is_some (greatest process_key process rows) ≡ true
row-used process [] place row h e = none-some refl h
row-used process (p ∷ rest) zero row h e =
    ap (λ (o : Option ℤ). is_some o) (greatest-here process_key process p rest (true-eq_z p.process process (ap (λ (q : ProcessRow). q.process) (some_inj refl h) ∙ e))) ∙ is_some-some _
row-used process (p ∷ rest) (suc place) row h e = go (split (eq_z p.process process)) (row-used process rest place row h e)
  where
    go : (eq_z p.process process ≡ true) ⊎ (eq_z p.process process ≡ false) → is_some (greatest process_key process rest) ≡ true → is_some (greatest process_key process (p ∷ rest)) ≡ true
    go (inl same) again = ap (λ (o : Option ℤ). is_some o) (greatest-here process_key process p rest same) ∙ is_some-some _
    go (inr other) again = ap (λ (o : Option ℤ). is_some o) (greatest-there process_key process p rest other) ∙ again

pub used-exactly : (t : Tables) (process : ℤ) → (is_some ((view_of (books_of t)).transaction_of process) ≡ true) ↔ IsUsed process (books_of t).processes
unfolding view_of
used-exactly t process = (used-row process (books_of t).processes, λ u. row-used process (books_of t).processes u.place u.row u.stands u.has-it)

-- ---- lists of tests that are alike

-- After two tests, where the rest is alike once the second does not apply.
past-second : (x : Test) (n : ℕ) (b : Bool) (ys zs : List Test) → (b ≡ false → first_refusal ys ≡ first_refusal zs) → first_refusal (x ∷ test n b ∷ ys) ≡ first_refusal (x ∷ test n b ∷ zs)
unfolding first_refusal test
past-second x n true ys zs h = refl
past-second x n false ys zs h = ap (λ (o : Option Test). cond x.applies (some x) o) (h refl)

-- ---- the order

module _ (t : Tables) (sound : SoundTables t) (process id suffix giving taking series : ℤ) where
  abbrev rs : List ℤ
  rs = t.records

  abbrev ps : List ℤ
  ps = t.positions

  abbrev qs : List ℤ
  qs = t.processes

  pub opening-order : refusal_of t (give_up Open process id suffix giving taking series) ≡ first_refusal (opening_refusals t process id suffix giving taking series)
  unfolding plan_of give_up_plan plan_tests opening_refusals view_of books_of is_out_of_turn step_status_test
  opening-order =
      plan-sound t sound (give_up Open process id suffix giving taking series) _
      ∙ past-second _ 18 _ _ _ (λ unused.
      same-front (_ ∷ _ ∷ _ ∷ _ ∷ []) (tail rs ps qs process id suffix giving taking series Open (the_record _)) _
      (step-tail rs ps qs process id suffix giving taking series sound Open (the_record _) (opened-waits rs ps qs process id suffix giving taking series)
      ∙ opened-room rs ps qs process id suffix giving taking series sound (is_some-absent _ unused)))

  -- The process whose turn it is has its row.
  found : (step : Step) (o : Option ProcessRow) → not (may_step step suffix giving taking series o) ≡ false → (p : ProcessRow) × (o ≡ some p)
  unfolding may_step
  found step none h = clash refl h
  found step (some p) h = (p, refl)

  pub later-order : (step : Step) → is_opening step ≡ false → completes step t process id ≡ false
      → refusal_of t (give_up step process id suffix giving taking series) ≡ first_refusal (later_refusals step t process id suffix giving taking series)
  unfolding plan_of give_up_plan plan_tests later_refusals completes view_of books_of is_out_of_turn step_status_test
  later-order step later waits =
      plan-sound t sound (give_up step process id suffix giving taking series) _
      ∙ rw later
      (past-second _ 18 _ _ _ (λ turn.
      let (p, at) = found step (found_process rs ps qs process id suffix giving taking series) turn in
      same-front (_ ∷ _ ∷ _ ∷ _ ∷ []) (tail rs ps qs process id suffix giving taking series step (the_record _)) []
      (step-tail rs ps qs process id suffix giving taking series sound step (the_record _) (ap is_complete (after-found rs ps qs process id suffix giving taking series step later) ∙ waits)
      ∙ stepped-room rs ps qs process id suffix giving taking series sound step later p at
      ∙ sym no-refusal)))
