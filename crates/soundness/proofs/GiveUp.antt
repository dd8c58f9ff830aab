-- An accepted step of a give-up on sound books: the process row that it writes is sound and the process ids rise with it; the named record stands, and stays sound in its new status;
-- the step that completes books a transfer's rows. Assumes nothing.
use mathlib.Core.Path.{◌≡◌, refl, sym, ◌∙◌, ap, subst}
use mathlib.Core.Bool.{Bool, true, false, cond, not}
use mathlib.Core.List.{List, [], ◌∷◌, map}
use mathlib.Core.Option.{Option, none, some}
use borrow.Author.Tests.{not-false, not-true}
use lib.IntN.{ℤ, pos}
use Rattle.integers.specs.Order.{eq_z, in_range}
use Rattle.integers.proofs.Parts.{eq_z-true}
use Rattle.rules.specs.Figures.{valid_id, valid_suffix, valid_account, valid_series, adjustable, inverse, under_give_up, give_up_kind, take_up_kind}
use Rattle.rules.specs.Keyed.{Key, is_some, find, greatest, rising, upsert}
use Rattle.rules.specs.NamedRecord.{is_not_adjustable, status_test}
use Rattle.rules.specs.Rows.{key_of, record_key, position_key, with_status, sound_record, valid_kind}
use Rattle.rules.specs.ProcessRows.{process_key, process_number, pending, claimed, refused, cancelled, done, with_progress, opened_process, the_process, valid_stage, valid_approval, sound_process}
use Rattle.rules.specs.Refusal.{test, all_of, any_of}
use Rattle.rules.specs.Request.{give_up}
use Rattle.rules.specs.Books.{Books, view_of}
use Rattle.rules.specs.Handle.{plan_of}
use Rattle.rules.specs.Plan.{Effects, with_process_row, suffix_is_above}
use Rattle.rules.specs.Transfer.{transfer_figures, transfer_effects}
use Rattle.rules.specs.GiveUp.{give_up_figures, is_opening, may_step, is_out_of_turn, stepped, is_complete, step_status_test, record_after, step_effects, finished, give_up_effects, process_before, give_up_plan}
use Rattle.rules.specs.Tables.{day_within}
use Rattle.rules.specs.declared.Record.{Record}
use Rattle.rules.specs.declared.ProcessRow.{ProcessRow}
use Rattle.rules.specs.declared.Step.{Step}
use Rattle.rules.specs.declared.Step.TheVariants.{Open, Claim, Cancel, Refuse, ApproveGiver, ApproveTaker}
use Rattle.keys.proofs.Split.{clash, and_left, and_right, and_intro}
use Rattle.keys.proofs.Clauses.{all_of-nil, all_of-intro}
use Rattle.keys.proofs.Lookup.{find-key, find-all}
use Rattle.keys.proofs.Counts.{is_some-absent, distinct_nil, has_all, has_all-intro}
use Rattle.keys.proofs.FirstFigures.{new-rises, same-rises}
use Rattle.soundness.specs.SoundBooks.{SoundBooks, plan_on, Accepts}
use Rattle.soundness.proofs.Accepted.{both, own-passed, booking-passed}
use Rattle.soundness.proofs.ReadPosition.{read_at}
use Rattle.soundness.proofs.SoundRows.{adjustable-open, under-give-up-open, adjustable-again-sound, under-give-up-sound}
use Rattle.soundness.proofs.NamedRecord.{record_of, next_of, Named, named-open, restated-stands}
use Rattle.soundness.proofs.Days.{restated-within}
use Rattle.soundness.proofs.BookingFacts.{ProcessFacts, BookingFacts, PlanFacts}
use Rattle.soundness.proofs.Transfer.{transfer-effects-facts}

-- ---- the process row, figure by figure

pub record SoundProcess (p : ProcessRow) : Type 0 where
  pub process : valid_id p.process ≡ true
  pub id : valid_id p.id ≡ true
  pub suffix : valid_suffix p.suffix ≡ true
  pub giving : valid_account p.giving ≡ true
  pub taking : valid_account p.taking ≡ true
  pub series : valid_series p.series ≡ true
  pub giver : valid_approval p.giver ≡ true
  pub taker : valid_approval p.taker ≡ true
  pub stage : valid_stage p.stage ≡ true

pub sound-process : (p : ProcessRow) → SoundProcess p → sound_process p ≡ true
unfolding sound_process
sound-process p s =
    and_intro (and_intro (and_intro (and_intro (and_intro (and_intro (and_intro (and_intro
    s.process s.id) s.suffix) s.giving) s.taking) s.series) s.giver) s.taker) s.stage

pub process-sound : (p : ProcessRow) → sound_process p ≡ true → SoundProcess p
unfolding sound_process
process-sound p h =
    let p1 = both _ _ h in
    let p2 = both _ _ p1.0 in
    let p3 = both _ _ p2.0 in
    let p4 = both _ _ p3.0 in
    let p5 = both _ _ p4.0 in
    let p6 = both _ _ p5.0 in
    let p7 = both _ _ p6.0 in
    let p8 = both _ _ p7.0 in
    record {
      process = p8.0;
      id = p8.1;
      suffix = p7.1;
      giving = p6.1;
      taking = p5.1;
      series = p4.1;
      giver = p3.1;
      taker = p2.1;
      stage = p1.1;
    }

-- The approvals and stages that steps write.
no-approval : valid_approval (pos 0) ≡ true
unfolding valid_approval in_range
no-approval = refl

approval : valid_approval (pos 1) ≡ true
unfolding valid_approval in_range
approval = refl

stage-pending : valid_stage pending ≡ true
unfolding valid_stage eq_z
stage-pending = refl

stage-claimed : valid_stage claimed ≡ true
unfolding valid_stage eq_z
stage-claimed = refl

stage-refused : valid_stage refused ≡ true
unfolding valid_stage eq_z
stage-refused = refl

stage-cancelled : valid_stage cancelled ≡ true
unfolding valid_stage eq_z
stage-cancelled = refl

stage-done : valid_stage done ≡ true
unfolding valid_stage eq_z
stage-done = refl

progressed-sound : (p : ProcessRow) → SoundProcess p → (giver taker stage : ℤ) → valid_approval giver ≡ true → valid_approval taker ≡ true → valid_stage stage ≡ true
    → SoundProcess (with_progress p giver taker stage)
progressed-sound p s giver taker stage a b c = record {
  process = s.process;
  id = s.id;
  suffix = s.suffix;
  giving = s.giving;
  taking = s.taking;
  series = s.series;
  giver = a;
  taker = b;
  stage = c;
}

pub stepped-sound : (step : Step) (p : ProcessRow) → SoundProcess p → SoundProcess (stepped step p)
unfolding stepped
stepped-sound Open p s = s
stepped-sound Claim p s = progressed-sound p s p.giver p.taker claimed s.giver s.taker stage-claimed
stepped-sound Cancel p s = progressed-sound p s p.giver p.taker cancelled s.giver s.taker stage-cancelled
stepped-sound Refuse p s = progressed-sound p s p.giver p.taker refused s.giver s.taker stage-refused
stepped-sound ApproveGiver p s = progressed-sound p s (pos 1) p.taker p.stage approval s.taker s.stage
stepped-sound ApproveTaker p s = progressed-sound p s p.giver (pos 1) p.stage s.giver approval s.stage

pub finished-sound : (p : ProcessRow) → SoundProcess p → SoundProcess (finished p)
unfolding finished
finished-sound p s = progressed-sound p s p.giver p.taker (cond (is_complete p) done p.stage) s.giver s.taker (go (is_complete p))
  where
    go : (b : Bool) → valid_stage (cond b done p.stage) ≡ true
    go true = stage-done
    go false = s.stage

pub stepped-key : (step : Step) (p : ProcessRow) → process_key (finished (stepped step p)) ≡ process_key p
unfolding stepped finished
stepped-key Open p = refl
stepped-key Claim p = refl
stepped-key Cancel p = refl
stepped-key Refuse p = refl
stepped-key ApproveGiver p = refl
stepped-key ApproveTaker p = refl

-- ---- what a step has passed

-- Test 3 of both accounts, and of the row that an opening makes.
pub record GiveUpFigures (process id suffix giving taking series : ℤ) : Type 0 where
  pub opened : SoundProcess (opened_process process id suffix giving taking series)
  pub taking-valid : valid_account taking ≡ true
  pub accounts-differ : eq_z giving taking ≡ false

pub give-up-figures : (process id suffix giving taking series : ℤ) → give_up_figures process id suffix giving taking series ≡ true → GiveUpFigures process id suffix giving taking series
unfolding give_up_figures transfer_figures opened_process
give-up-figures process id suffix giving taking series h =
    let p1 = both (valid_id process) _ h in
    let p2 = both _ (not (eq_z giving taking)) p1.1 in
    let p3 = both _ (valid_series series) p2.0 in
    let p4 = both _ (valid_account taking) p3.0 in
    let p5 = both _ (valid_account giving) p4.0 in
    record {
      opened = record {
        process = p1.0;
        id = and_left (valid_id id) (valid_suffix suffix) p5.0;
        suffix = and_right (valid_id id) (valid_suffix suffix) p5.0;
        giving = p5.1;
        taking = p4.1;
        series = p3.1;
        giver = no-approval;
        taker = no-approval;
        stage = stage-pending;
      };
      taking-valid = p4.1;
      accounts-differ = not-true (eq_z giving taking) p2.1;
    }

-- Test 7 leaves a record that isn't inverse: of status 0 where the step opens, else of status 3.
pub status-passed : (step : Step) (r : Record) → (step_status_test step r).applies ≡ false → r.status ≡ cond (is_opening step) adjustable under_give_up
unfolding step_status_test status_test test is_not_adjustable
status-passed Open r h = eq_z-true r.status adjustable (not-false (eq_z r.status adjustable) h)
status-passed Claim r h = eq_z-true r.status under_give_up (not-false (eq_z r.status under_give_up) h)
status-passed Cancel r h = eq_z-true r.status under_give_up (not-false (eq_z r.status under_give_up) h)
status-passed Refuse r h = eq_z-true r.status under_give_up (not-false (eq_z r.status under_give_up) h)
status-passed ApproveGiver r h = eq_z-true r.status under_give_up (not-false (eq_z r.status under_give_up) h)
status-passed ApproveTaker r h = eq_z-true r.status under_give_up (not-false (eq_z r.status under_give_up) h)

status-open : (step : Step) (status : ℤ) → status ≡ cond (is_opening step) adjustable under_give_up → eq_z status inverse ≡ false
status-open Open status e = adjustable-open status e
status-open Claim status e = under-give-up-open status e
status-open Cancel status e = under-give-up-open status e
status-open Refuse status e = under-give-up-open status e
status-open ApproveGiver status e = under-give-up-open status e
status-open ApproveTaker status e = under-give-up-open status e

-- Of a later step, the row that it found.
later-found : (step : Step) (suffix giving taking series : ℤ) (o : Option ProcessRow) → not (may_step step suffix giving taking series o) ≡ false → (p : ProcessRow) × (o ≡ some p)
unfolding may_step
later-found step suffix giving taking series none h = clash refl h
later-found step suffix giving taking series (some p) h = (p, refl)

-- ---- the facts

module _ (b : Books) (sound : SoundBooks b) (step : Step) (process id suffix giving taking series : ℤ) (accepted : Accepts b (give_up step process id suffix giving taking series)) where
  abbrev t : List Record
  t = b.records

  abbrev k : Key
  k = key_of id suffix

  abbrev found_process : Option ProcessRow
  found_process = find process_key (key_of process id) b.processes

  abbrev before : ProcessRow
  before = process_before step process id suffix giving taking series found_process

  abbrev after : ProcessRow
  after = stepped step before

  pub figures-passed : GiveUpFigures process id suffix giving taking series
  unfolding plan_of give_up_plan view_of test
  figures-passed = give-up-figures process id suffix giving taking series (not-false (give_up_figures process id suffix giving taking series) (own-passed b _ _ accepted).0)

  pub turn-passed : is_out_of_turn step suffix giving taking series (greatest process_key process b.processes) found_process ≡ false
  unfolding plan_of give_up_plan view_of test
  turn-passed = (own-passed b _ _ accepted).1.0

  record-found : is_some (find record_key k t) ≡ true
  unfolding plan_of give_up_plan view_of test
  record-found = not-false (is_some (find record_key k t)) (own-passed b _ _ accepted).1.1.0

  pub record-status : (record_of t k).status ≡ cond (is_opening step) adjustable under_give_up
  unfolding plan_of give_up_plan view_of
  record-status = status-passed step (record_of t k) (own-passed b _ _ accepted).1.1.1.1.0

  pub record-named : Named t k
  record-named = named-open t k sound.records-sound record-found (status-open step (record_of t k).status record-status)

  -- The process before the step is sound and has the named key, and with it in the table the process ids rise.
  pub record Before (s : Step) (p : ProcessRow) : Type 0 where
    pub is-sound : SoundProcess p
    pub rises : (q : ProcessRow) → process_key q ≡ process_key p → rising process_number (upsert process_key q b.processes) ≡ true

  opening-before : is_some (greatest process_key process b.processes) ≡ false → Before Open (opened_process process id suffix giving taking series)
  unfolding opened_process
  opening-before h = record {
    is-sound = figures-passed.opened;
    rises = λ q e. new-rises process_key q b.processes sound.processes-rise
        (ap (λ (x : Key). greatest process_key x.major b.processes) e ∙ is_some-absent (greatest process_key process b.processes) h);
  }

  later-before : (s : Step) → not (may_step s suffix giving taking series found_process) ≡ false → Before s (the_process found_process)
  unfolding the_process
  later-before s h =
      let w : (p : ProcessRow) × (found_process ≡ some p) = later-found s suffix giving taking series found_process h in
      let key : process_key w.0 ≡ key_of process id = find-key process_key (key_of process id) b.processes w.0 w.1 in
      subst (λ (o : Option ProcessRow). Before s (the_process o)) (sym w.1)
      (record {
        is-sound = process-sound w.0 (find-all process_key sound_process (key_of process id) b.processes w.0 sound.processes-sound w.1);
        rises = λ q e. same-rises process_key q w.0 b.processes sound.processes-rise
            (ap (λ (x : Key). find process_key x b.processes) (e ∙ key) ∙ w.1);
      })

  pub before-known : Before step before
  unfolding process_before is_out_of_turn
  before-known = go step turn-passed
    where
      go : (s : Step) → is_out_of_turn s suffix giving taking series (greatest process_key process b.processes) found_process ≡ false
          → Before s (cond (is_opening s) (opened_process process id suffix giving taking series) (the_process found_process))
      go Open h = opening-before h
      go Claim h = later-before Claim h
      go Cancel h = later-before Cancel h
      go Refuse h = later-before Refuse h
      go ApproveGiver h = later-before ApproveGiver h
      go ApproveTaker h = later-before ApproveTaker h

  process-facts : ProcessFacts b.processes (some (finished after))
  process-facts = (
    sound-process (finished after) (finished-sound after (stepped-sound step before before-known.is-sound)),
    before-known.rises (finished after) (stepped-key step before),
  )

  -- The effects on records and positions.
  abbrev ChangedFacts : List Record → Type 0
  ChangedFacts changed = (has_all record_key t changed ≡ true) × (all_of (map sound_record changed) ≡ true) × (all_of (map (day_within b.day) changed) ≡ true)

  restated-facts : (status : ℤ) → sound_record (with_status status (record_of t k)) ≡ true → ChangedFacts (with_status status (record_of t k) ∷ [])
  restated-facts status s = (
    has_all-intro record_key t (with_status status (record_of t k)) (record_of t k) [] (restated-stands t k record-named status) all_of-nil,
    all_of-intro (sound_record (with_status status (record_of t k))) [] s all_of-nil,
    all_of-intro (day_within b.day (with_status status (record_of t k))) [] (restated-within b.day t k sound.days-sound record-named status) all_of-nil,
  )

  changed-facts : (s : Step) → ChangedFacts (record_after s (record_of t k))
  unfolding record_after
  changed-facts Open = restated-facts under_give_up (under-give-up-sound (record_of t k) record-named.sound record-named.not-inverse)
  changed-facts Claim = (all_of-nil, all_of-nil, all_of-nil)
  changed-facts Cancel = restated-facts adjustable (adjustable-again-sound (record_of t k) record-named.sound record-named.not-inverse)
  changed-facts Refuse = restated-facts adjustable (adjustable-again-sound (record_of t k) record-named.sound record-named.not-inverse)
  changed-facts ApproveGiver = (all_of-nil, all_of-nil, all_of-nil)
  changed-facts ApproveTaker = (all_of-nil, all_of-nil, all_of-nil)

  step-facts : BookingFacts b (step_effects step (record_of t k))
  step-facts = record {
    changed-present = (changed-facts step).0;
    changed-sound = (changed-facts step).1;
    changed-days = (changed-facts step).2;
    added-absent = all_of-nil;
    added-distinct = distinct_nil record_key;
    added-sound = all_of-nil;
    added-days = all_of-nil;
    positions-distinct = distinct_nil position_key;
    process-kept = tt;
    answered = refl;
  }

  abbrev completing : Effects
  completing = transfer_effects give_up_kind take_up_kind b.day (record_of t k) (next_of t id) taking (read_at giving series b.positions) (read_at taking series b.positions)

  kind-give-up : valid_kind give_up_kind ≡ true
  unfolding valid_kind eq_z
  kind-give-up = refl

  kind-take-up : valid_kind take_up_kind ≡ true
  unfolding valid_kind eq_z
  kind-take-up = refl

  effects-facts : (c : Bool) → any_of (map suffix_is_above (cond c completing (step_effects step (record_of t k))).added) ≡ false
      → BookingFacts b (cond c completing (step_effects step (record_of t k)))
  effects-facts true a =
      transfer-effects-facts b id suffix giving taking series give_up_kind take_up_kind sound.days-sound record-named kind-give-up kind-take-up figures-passed.taking-valid figures-passed.accounts-differ a
  effects-facts false a = step-facts

  -- With the row of its process.
  with-process : (p : ProcessRow) (e : Effects) → BookingFacts b e → ProcessFacts b.processes (some p) → BookingFacts b (with_process_row p e)
  with-process p e f g = record {
    changed-present = f.changed-present;
    changed-sound = f.changed-sound;
    changed-days = f.changed-days;
    added-absent = f.added-absent;
    added-distinct = f.added-distinct;
    added-sound = f.added-sound;
    added-days = f.added-days;
    positions-distinct = f.positions-distinct;
    process-kept = g;
    answered = f.answered;
  }

  pub give-up-facts : PlanFacts b (plan_on b (give_up step process id suffix giving taking series))
  unfolding plan_of give_up_plan view_of give_up_effects
  give-up-facts = with-process (finished after) _ (effects-facts (is_complete after) (booking-passed b _ _ accepted).suffixes) process-facts
