-- An accepted step of a give-up on sound books keeps the law "a record has status 3 exactly where a process that is pending or claimed names it, and then just one does": an opening adds
-- the one process that names the record and sets its status to 3; a step that ends the process (cancelled, refused, or completed) takes it away and sets 0 or 1; the others change neither.
-- From the tests that it has passed (18 and 7) and the puts of its rows. Assumes nothing.
use Prim.Native.Nat.{ℕ, ◌+◌}
use mathlib.Core.Path.{◌≡◌, refl, sym, ◌∙◌, ap, subst}
use mathlib.Core.Bool.{Bool, true, false, cond, not, ◌&&◌, ◌||◌}
use mathlib.Core.List.{List, [], ◌∷◌, ◌++◌}
use mathlib.Core.Logic.{◌⊎◌, inl, inr}
use mathlib.Core.Option.{Option}
use borrow.Author.Tests.{not-true, not-false}
use native.Mathlib.Omega.{arith}
use lib.IntN.{ℤ, pos}
use Rattle.integers.specs.Order.{eq_z}
use Rattle.integers.proofs.Parts.{eq_z-true}
use Rattle.rules.specs.Figures.{adjustable, under_give_up, give_up_kind, take_up_kind}
use Rattle.rules.specs.Keyed.{Key, same, is_some, find, greatest, upsert, upsert_all}
use Rattle.rules.specs.Rows.{key_of, record_key, with_status, adjusted_record}
use Rattle.rules.specs.ProcessRows.{process_key, pending, claimed, done, with_stage, opened_process, the_process}
use Rattle.rules.specs.Request.{give_up}
use Rattle.rules.specs.Books.{Books, view_of}
use Rattle.rules.specs.Handle.{plan_of}
use Rattle.rules.specs.Plan.{Effects, put_process, booked, plan_books}
use Rattle.rules.specs.Transfer.{transfer_effects}
use Rattle.rules.specs.GiveUp.{is_opening, is_at, has_turn, has_figures, may_step, is_out_of_turn, stepped, is_complete, record_after, step_effects, finished, give_up_effects, process_before, give_up_plan}
use Rattle.rules.specs.declared.Record.{Record}
use Rattle.rules.specs.declared.ProcessRow.{ProcessRow}
use Rattle.rules.specs.declared.Step.{Step}
use Rattle.rules.specs.declared.Step.TheVariants.{Open, Claim, Cancel, Refuse, ApproveGiver, ApproveTaker}
use Rattle.keys.proofs.Split.{split, clash, and_left, and_right, or_left, or_right, cond-true, cond-false, Found, absent, present, found}
use Rattle.keys.proofs.KeyOrder.{same-eq}
use Rattle.keys.proofs.Clauses.{upsert_all-nil, upsert_all-cons}
use Rattle.keys.proofs.Lookup.{find-key}
use Rattle.keys.proofs.Greatest.{greatest-none}
use Rattle.keys.proofs.Folds.{only-weaken}
use Rattle.keys.proofs.Counts.{is_some-absent, lacks_all}
use Rattle.keys.proofs.FirstFigures.{rises-by-key}
use Rattle.soundness.specs.SoundBooks.{SoundBooks, Accepts, after}
use Rattle.soundness.proofs.NamedRecord.{record_of, next_of, Named}
use Rattle.soundness.proofs.ReadPosition.{read_at}
use Rattle.soundness.proofs.GiveUp.{stepped-key, turn-passed, record-status, record-named, give-up-facts}
use Rattle.history.specs.UnderGiveUp.{is_open_for, open_for, Matched}
use Rattle.history.proofs.OpenProcesses.{one_for, found_for, open_for-put}
use Rattle.history.proofs.RecordsUnder.{under_at, is_under, under-found, under-put, NoneUnderAt, puts-leave, absent-none-under, adjusted-not-under, transfer-none-under}

-- ---- counting

one-where : (a s : Bool) → ◌≡◌ {A = ℕ} (cond (a && s) 1 0) (cond s (cond a 1 0) 0)
one-where true true = refl
one-where true false = refl
one-where false true = refl
one-where false false = refl

-- At one key, which is the named one or not (s): the named record was under give-up or not and its process open alike (was), both are afterwards or neither (now), and elsewhere nothing changes.
counts-on : (was now s u v : Bool) (before after : ℕ) → after + cond s (cond was 1 0) 0 ≡ before + cond s (cond now 1 0) 0 → before ≡ cond u 1 0 → (s ≡ true → u ≡ was) → v ≡ cond s now u →
    after ≡ cond v 1 0
counts-on was now true u v before after e m h w =
    let x : before ≡ cond was 1 0 = m ∙ ap (λ (y : Bool). cond y 1 0) (h refl) in
    let z : after ≡ cond now 1 0 = omega arith in
    z ∙ ap (λ (y : Bool). cond y 1 0) (sym w)
counts-on was now false u v before after e m h w =
    let z : after ≡ before = omega arith in
    z ∙ m ∙ ap (λ (y : Bool). cond y 1 0) (sym w)

-- ---- what each step does to its process and its record

-- Pending or claimed.
abbrev is_open : ProcessRow → Bool
is_open p = is_at pending p || is_at claimed p

open-for : (k : Key) (p : ProcessRow) → is_open_for k p ≡ (is_open p && same (key_of p.id p.suffix) k)
unfolding is_open_for
open-for k p = refl

-- Of a process of these figures.
one-for : (k j : Key) (p : ProcessRow) → key_of p.id p.suffix ≡ j → one_for k p ≡ cond (same j k) (cond (is_open p) 1 0) 0
one-for k j p e = ap (λ (x : Bool). cond x 1 0) (open-for k p) ∙ ap (λ (x : Key). cond (is_open p && same x k) 1 0) e ∙ one-where (is_open p) (same j k)

-- A process is open after a step that does not complete it, unless it was cancelled or refused.
abbrev leaves_open : Step → Bool
leaves_open Open = true
leaves_open Claim = true
leaves_open Cancel = false
leaves_open Refuse = false
leaves_open ApproveGiver = true
leaves_open ApproveTaker = true

unfinished-open : (step : Step) (p : ProcessRow) → is_open p ≡ true → is_open (with_stage (stepped step p).stage (stepped step p)) ≡ leaves_open step
unfolding stepped is_at eq_z
unfinished-open Open p h = h
unfinished-open Claim p h = refl
unfinished-open Cancel p h = refl
unfinished-open Refuse p h = refl
unfinished-open ApproveGiver p h = h
unfinished-open ApproveTaker p h = h

done-not-open : (p : ProcessRow) → is_open (with_stage done p) ≡ false
unfolding is_at eq_z
done-not-open p = refl

opened-open : (process id suffix giving taking series : ℤ) → is_open (opened_process process id suffix giving taking series) ≡ true
unfolding opened_process is_at eq_z
opened-open process id suffix giving taking series = refl

-- Every step that has its turn finds an open process.
turn-open : (step : Step) (p : ProcessRow) → has_turn step p ≡ true → is_open p ≡ true
unfolding has_turn
turn-open Open p h = clash h refl
turn-open Claim p h = or_left (is_at claimed p) h
turn-open Cancel p h = or_left (is_at claimed p) h
turn-open Refuse p h = or_left (is_at claimed p) h
turn-open ApproveGiver p h = and_left (is_open p) (eq_z p.giver (pos 0)) h
turn-open ApproveTaker p h = or_right (is_at pending p) (and_left (is_at claimed p) (eq_z p.taker (pos 0)) h)

-- It goes on naming its record.
stepped-names : (step : Step) (p : ProcessRow) → key_of (finished (stepped step p)).id (finished (stepped step p)).suffix ≡ key_of p.id p.suffix
unfolding stepped finished
stepped-names Open p = refl
stepped-names Claim p = refl
stepped-names Cancel p = refl
stepped-names Refuse p = refl
stepped-names ApproveGiver p = refl
stepped-names ApproveTaker p = refl

-- Past test 7 the record is under give-up, but for an opening.
status-under : (step : Step) (status : ℤ) → status ≡ cond (is_opening step) adjustable under_give_up → eq_z status under_give_up ≡ not (is_opening step)
unfolding eq_z
status-under Open status e = ap (λ (z : ℤ). eq_z z under_give_up) e
status-under Claim status e = ap (λ (z : ℤ). eq_z z under_give_up) e
status-under Cancel status e = ap (λ (z : ℤ). eq_z z under_give_up) e
status-under Refuse status e = ap (λ (z : ℤ). eq_z z under_give_up) e
status-under ApproveGiver status e = ap (λ (z : ℤ). eq_z z under_give_up) e
status-under ApproveTaker status e = ap (λ (z : ℤ). eq_z z under_give_up) e

restated-under : (r : Record) → is_under (with_status under_give_up r) ≡ true
unfolding eq_z
restated-under r = refl

restated-free : (r : Record) → is_under (with_status adjustable r) ≡ false
unfolding eq_z
restated-free r = refl

-- ---- the records

-- One record put at the named key.
named_put : (t : List Record) (j : Key) (new : Record) (now : Bool) → record_key new ≡ j → is_under new ≡ now → (k : Key) →
    under_at k (upsert record_key new t) ≡ cond (same j k) now (under_at k t)
named_put t j new now e u k =
    under-put k new t
    ∙ ap (λ (x : Key). cond (same x k) (is_under new) (under_at k t)) e
    ∙ ap (λ (x : Bool). cond (same j k) x (under_at k t)) u

-- And rows at absent keys with it.
absent-still-free : (t : List Record) (new : Record) → is_under new ≡ false → (rows : List Record) → lacks_all record_key t rows ≡ true → NoneUnderAt (upsert record_key new t) rows
absent-still-free t new u rows h =
    only-weaken record_key (λ (k : Key). not (under_at k t)) (λ (k : Key). not (under_at k (upsert record_key new t))) rows
    (λ k w. ap not (under-put k new t ∙ go k (not-true (under_at k t) w))) (absent-none-under t rows h)
  where
    go : (k : Key) → under_at k t ≡ false → cond (same (record_key new) k) (is_under new) (under_at k t) ≡ false
    go k w = pick (split (same (record_key new) k))
      where
        pick : (same (record_key new) k ≡ true) ⊎ (same (record_key new) k ≡ false) → cond (same (record_key new) k) (is_under new) (under_at k t) ≡ false
        pick (inl s) = cond-true (is_under new) (under_at k t) s ∙ u
        pick (inr s) = cond-false (is_under new) (under_at k t) s ∙ w

-- No record put.
none-put : (t : List Record) (j k : Key) → under_at j t ≡ true → under_at k t ≡ cond (same j k) true (under_at k t)
none-put t j k u = go (split (same j k))
  where
    go : (same j k ≡ true) ⊎ (same j k ≡ false) → under_at k t ≡ cond (same j k) true (under_at k t)
    go (inl s) = subst (λ (x : Key). under_at x t ≡ true) (same-eq j k s) u ∙ sym (cond-true true (under_at k t) s)
    go (inr s) = sym (cond-false true (under_at k t) s)

one-put : (t : List Record) (new : Record) (k : Key) → under_at k (upsert_all record_key (new ∷ []) t) ≡ under_at k (upsert record_key new t)
one-put t new k = ap (under_at k) (upsert_all-cons record_key new [] t ∙ upsert_all-nil record_key (upsert record_key new t))

-- Of a step that does not complete.
step-records : (step : Step) (t : List Record) (j : Key) (r : Record) → record_key r ≡ j → under_at j t ≡ not (is_opening step) → (k : Key) →
    under_at k (upsert_all record_key (record_after step r ++ []) t) ≡ cond (same j k) (leaves_open step) (under_at k t)
unfolding record_after
step-records Open t j r e u k = one-put t (with_status under_give_up r) k ∙ named_put t j (with_status under_give_up r) true e (restated-under r) k
step-records Claim t j r e u k = ap (under_at k) (upsert_all-nil record_key t) ∙ none-put t j k u
step-records Cancel t j r e u k = one-put t (with_status adjustable r) k ∙ named_put t j (with_status adjustable r) false e (restated-free r) k
step-records Refuse t j r e u k = one-put t (with_status adjustable r) k ∙ named_put t j (with_status adjustable r) false e (restated-free r) k
step-records ApproveGiver t j r e u k = ap (under_at k) (upsert_all-nil record_key t) ∙ none-put t j k u
step-records ApproveTaker t j r e u k = ap (under_at k) (upsert_all-nil record_key t) ∙ none-put t j k u

adjusted-key : (r : Record) → record_key (adjusted_record r) ≡ record_key r
unfolding adjusted_record
adjusted-key r = refl

-- ---- an accepted step

module _ (b : Books) (sound : SoundBooks b) (step : Step) (process id suffix giving taking series : ℤ) (accepted : Accepts b (give_up step process id suffix giving taking series)) where
  abbrev t : List Record
  t = b.records

  -- The named record.
  abbrev j : Key
  j = key_of id suffix

  abbrev r : Record
  r = record_of t j

  abbrev found_process : Option ProcessRow
  found_process = find process_key (key_of process id) b.processes

  -- The process before the step and after it.
  abbrev before : ProcessRow
  before = process_before step process id suffix giving taking series found_process

  abbrev next : ProcessRow
  next = stepped step before

  named-record : Named t j
  named-record = record-named b sound step process id suffix giving taking series accepted

  under-before : under_at j t ≡ not (is_opening step)
  under-before =
      under-found j t r named-record.stands ∙ status-under step r.status (record-status b sound step process id suffix giving taking series accepted)

  -- The process before the step: it names the record, is open, and is the one that is found, but for an opening, which finds none.
  record Process (s : Step) (p : ProcessRow) : Type 0 where
    pub key : process_key p ≡ key_of process id
    pub names : key_of p.id p.suffix ≡ j
    pub is-open : is_open p ≡ true
    pub found-one : (k : Key) → found_for k found_process ≡ cond (same j k) (cond (not (is_opening s)) 1 0) 0

  nothing-where : (s : Bool) → ◌≡◌ {A = ℕ} (cond s 0 0) 0
  nothing-where true = refl
  nothing-where false = refl

  opening-process : is_some (greatest process_key process b.processes) ≡ false → Process Open (opened_process process id suffix giving taking series)
  unfolding opened_process
  opening-process h = record {
    key = refl;
    names = refl;
    is-open = opened-open process id suffix giving taking series;
    found-one = λ k.
        ap (found_for k) (greatest-none process_key process id b.processes (is_some-absent (greatest process_key process b.processes) h)) ∙ sym (nothing-where (same j k));
  }

  later-process : (s : Step) → is_opening s ≡ false → not (may_step s suffix giving taking series found_process) ≡ false → Process s (the_process found_process)
  unfolding may_step has_figures the_process
  later-process s later h = go (found found_process)
    where
      go : Found found_process → Process s (the_process found_process)
      go (absent e) = clash (ap (λ (o : Option ProcessRow). not (may_step s suffix giving taking series o)) e) h
      go (present p e) =
          let may : (has_figures suffix giving taking series p && has_turn s p) ≡ true =
          not-false (has_figures suffix giving taking series p && has_turn s p) (ap (λ (o : Option ProcessRow). not (may_step s suffix giving taking series o)) (sym e) ∙ h) in
          let g : Bool = eq_z p.giving giving in
          let w : Bool = eq_z p.taking taking in
          let x : Bool = eq_z p.suffix suffix in
          let figures : (x && g && w && eq_z p.series series) ≡ true = and_left (has_figures suffix giving taking series p) (has_turn s p) may in
          let same-suffix : p.suffix ≡ suffix = eq_z-true p.suffix suffix (and_left x g (and_left (x && g) w (and_left (x && g && w) (eq_z p.series series) figures))) in
          let same_key : process_key p ≡ key_of process id = find-key process_key (key_of process id) b.processes p e in
          let name : key_of p.id p.suffix ≡ j = λ i. key_of (same_key i).minor (same-suffix i) in
          let was-open : is_open p ≡ true = turn-open s p (and_right (has_figures suffix giving taking series p) (has_turn s p) may) in
          subst (λ (o : Option ProcessRow). Process s (the_process o)) (sym e)
          (record {
            key = same_key;
            names = name;
            is-open = was-open;
            found-one = λ k.
                ap (found_for k) e ∙ one-for k j p name ∙ ap (λ (y : Bool). cond (same j k) (cond y 1 0) 0) (was-open ∙ sym (ap not later));
          })

  process-known : Process step before
  unfolding process_before is_out_of_turn
  process-known = go step (turn-passed b sound step process id suffix giving taking series accepted)
    where
      go : (s : Step) → is_out_of_turn s suffix giving taking series (greatest process_key process b.processes) found_process ≡ false
          → Process s (cond (is_opening s) (opened_process process id suffix giving taking series) (the_process found_process))
      go Open h = opening-process h
      go Claim h = later-process Claim refl h
      go Cancel h = later-process Cancel refl h
      go Refuse h = later-process Refuse refl h
      go ApproveGiver h = later-process ApproveGiver refl h
      go ApproveTaker h = later-process ApproveTaker refl h

  -- The processes: that one counts no more, and counts again where it is open afterwards.
  processes-count : (k : Key) → open_for k (upsert process_key (finished next) b.processes) + cond (same j k) (cond (not (is_opening step)) 1 0) 0
      ≡ open_for k b.processes + cond (same j k) (cond (is_open (finished next)) 1 0) 0
  processes-count k =
      let p : Process step before = process-known in
      let put : open_for k (upsert process_key (finished next) b.processes) + found_for k (find process_key (process_key (finished next)) b.processes) ≡ open_for k b.processes + one_for k (finished next) =
      open_for-put k (finished next) b.processes (rises-by-key process_key b.processes sound.processes-rise) in
      let old : found_for k (find process_key (process_key (finished next)) b.processes) ≡ cond (same j k) (cond (not (is_opening step)) 1 0) 0 =
      ap (λ (x : Key). found_for k (find process_key x b.processes)) (stepped-key step before ∙ p.key) ∙ p.found-one k in
      let new : one_for k (finished next) ≡ cond (same j k) (cond (is_open (finished next)) 1 0) 0 = one-for k j (finished next) (stepped-names step before ∙ p.names) in
      omega (arith, put, old, new)

  -- The records: the named one is under give-up where the process is open afterwards.
  abbrev completing : Effects
  completing = transfer_effects give_up_kind take_up_kind b.day r (next_of t id) taking (read_at giving series b.positions) (read_at taking series b.positions)

  abbrev effects : Bool → Effects
  effects c = cond c completing (step_effects step r)

  records-under : (c : Bool) → lacks_all record_key t (effects c).added ≡ true → (k : Key) →
      under_at k (upsert_all record_key ((effects c).changed ++ (effects c).added) t) ≡ cond (same j k) (is_open (with_stage (cond c done next.stage) next)) (under_at k t)
  records-under true h k =
      ap (under_at k) (upsert_all-cons record_key (adjusted_record r) completing.added t)
      ∙ puts-leave completing.added (upsert record_key (adjusted_record r) t) (transfer-none-under give_up_kind take_up_kind b.day r (next_of t id) taking (read_at giving series b.positions) (read_at taking series b.positions))
      (absent-still-free t (adjusted_record r) (adjusted-not-under r) completing.added h) k
      ∙ named_put t j (adjusted_record r) false (adjusted-key r ∙ named-record.key) (adjusted-not-under r) k
      ∙ ap (λ (x : Bool). cond (same j k) x (under_at k t)) (sym (done-not-open next))
  records-under false h k =
      step-records step t j r named-record.key under-before k
      ∙ ap (λ (x : Bool). cond (same j k) x (under_at k t)) (sym (unfinished-open step before process-known.is-open))

  pub step-matched : Matched b → Matched (after b (give_up step process id suffix giving taking series))
  unfolding plan_of give_up_plan view_of give_up_effects plan_books booked put_process finished
  step-matched m = record {
    at = λ i s.
        let k : Key = key_of i s in
        counts-on (not (is_opening step)) (is_open (finished next)) (same j k) (under_at k t) _ (open_for k b.processes) _ (processes-count k) (m.at i s)
        (λ e. subst (λ (x : Key). under_at x t ≡ not (is_opening step)) (same-eq j k e) under-before)
        (records-under (is_complete next) (give-up-facts b sound step process id suffix giving taking series accepted).added-absent k);
  }
