-- An accepted step of a give-up on sound books: the one that completes it adds what a transfer adds; the others add nothing, since a record counts of status 0 and of status 3 alike, and move no
-- position. Assumes nothing.
use mathlib.Core.Path.{◌≡◌, refl, sym, ◌∙◌, ap, subst}
use mathlib.Core.Bool.{Bool, true, false, cond}
use mathlib.Core.List.{[], ◌∷◌}
use mathlib.Core.Option.{none}
use lib.IntN.{ℤ, pos, ◌+ℤ◌}
use Rattle.rules.specs.Figures.{adjustable, under_give_up, give_up_kind, take_up_kind}
use Rattle.rules.specs.Keyed.{Key, find}
use Rattle.rules.specs.Rows.{key_of, record_key, with_status}
use Rattle.rules.specs.ProcessRows.{process_key}
use Rattle.rules.specs.Refusal.{test}
use Rattle.rules.specs.Request.{give_up}
use Rattle.rules.specs.Books.{Books, view_of}
use Rattle.rules.specs.Plan.{Effects, with_process_row, booked, plan_books}
use Rattle.rules.specs.Handle.{plan_of}
use Rattle.rules.specs.Transfer.{transfer_effects}
use Rattle.rules.specs.GiveUp.{is_opening, stepped, is_complete, record_after, step_effects, finished, give_up_effects, process_before, give_up_plan}
use Rattle.rules.specs.Totals.{is_live, signed_quantity, signed_value, sum_over}
use Rattle.rules.specs.declared.Record.{Record}
use Rattle.rules.specs.declared.Position.{Position}
use Rattle.rules.specs.declared.ProcessRow.{ProcessRow}
use Rattle.rules.specs.declared.Step.{Step}
use Rattle.rules.specs.declared.Step.TheVariants.{Open, Claim, Cancel, Refuse, ApproveGiver, ApproveTaker}
use Rattle.keys.proofs.Counts.{distinct, distinct_nil}
use Rattle.soundness.specs.SoundBooks.{SoundBooks, Accepts, after}
use Rattle.soundness.proofs.Accepted.{own-passed}
use Rattle.soundness.proofs.ReadPosition.{read_at}
use Rattle.soundness.proofs.NamedRecord.{record_of, next_of, Named, restated-stands}
use Rattle.soundness.proofs.BookingFacts.{ProcessFacts, BookingFacts}
use Rattle.soundness.proofs.GiveUp.{figures-passed, record-status, record-named, give-up-facts}
use Rattle.totals.specs.Replaced.{replaced}
use Rattle.totals.specs.Amounts.{Amounts, nothing, amount_at, transfer_amounts, amounts_of}
use Rattle.totals.specs.Adds.{Adds}
use Rattle.totals.proofs.LiveSums.{StandsIn, stands-in, live_at, live-figure, adjustable-live, under-give-up-live}
use Rattle.totals.proofs.Stored.{stored-none}
use Rattle.totals.proofs.EffectsAdd.{Changes, effects-add, once, sum_one, replaced-figure}
use Rattle.totals.proofs.TransferTotals.{transfer-effects-add}

-- ---- beside the row of a process

with-process-adds : (b : Books) (p : ProcessRow) (e : Effects) (account series : ℤ) (amounts : Amounts) → Adds b (booked e b) account series amounts →
    Adds b (booked (with_process_row p e) b) account series amounts
unfolding booked view_of
with-process-adds b p e account series amounts h = record {
  quantity-summed = h.quantity-summed;
  value-summed = h.value-summed;
  quantity-stored = h.quantity-stored;
  value-stored = h.value-stored;
}

-- The facts without it, of effects that have none.
without-process : (b : Books) (p : ProcessRow) (e : Effects) → e.process ≡ none → BookingFacts b (with_process_row p e) → BookingFacts b e
without-process b p e h f = record {
  changed-present = f.changed-present;
  changed-sound = f.changed-sound;
  changed-days = f.changed-days;
  added-absent = f.added-absent;
  added-distinct = f.added-distinct;
  added-sound = f.added-sound;
  added-days = f.added-days;
  positions-distinct = f.positions-distinct;
  process-kept = subst (ProcessFacts b.processes) (sym h) tt;
  answered = f.answered;
}

-- ---- a step that does not complete

pub changed-once : (r : Record) (o : Step) → distinct record_key (record_after o r) ≡ true
unfolding record_after
changed-once r Open = once (with_status under_give_up r)
changed-once r Claim = distinct_nil record_key
changed-once r Cancel = once (with_status adjustable r)
changed-once r Refuse = once (with_status adjustable r)
changed-once r ApproveGiver = distinct_nil record_key
changed-once r ApproveTaker = distinct_nil record_key

module _ (b : Books) (sound : SoundBooks b) (step : Step) (process id suffix giving taking series : ℤ) (accepted : Accepts b (give_up step process id suffix giving taking series)) (a s : ℤ) where
  abbrev k : Key
  k = key_of id suffix

  abbrev r : Record
  r = record_of b.records k

  record-live : is_live r ≡ true
  record-live = go (is_opening step) (record-status b sound step process id suffix giving taking series accepted)
    where
      go : (c : Bool) → r.status ≡ cond c adjustable under_give_up → is_live r ≡ true
      go true e = adjustable-live r e
      go false e = under-give-up-live r e

  -- The record in another status that counts.
  restated : (figure : Record → ℤ) (status : ℤ) → is_live (with_status status r) ≡ true → figure (with_status status r) ≡ figure r →
      sum_over (live_at figure a s) (with_status status r ∷ []) +ℤ sum_over (live_at figure a s) []
      ≡ sum_over (live_at figure a s) (replaced b.records (with_status status r ∷ [])) +ℤ pos 0
  unfolding sum_over
  restated figure status live same =
      let n : Named b.records k = record-named b sound step process id suffix giving taking series accepted in
      ap (λ (z : ℤ). z +ℤ pos 0)
      (sum_one (live_at figure a s) (with_status status r) ∙ live-figure figure a s (with_status status r) live
      ∙ ap (λ (z : ℤ). amount_at r.account r.series z a s) same
      ∙ sym (replaced-figure figure a s b.records (with_status status r) r (restated-stands b.records k n status) record-live))

  unchanged : (figure : Record → ℤ) → sum_over (live_at figure a s) [] +ℤ sum_over (live_at figure a s) [] ≡ sum_over (live_at figure a s) (replaced b.records []) +ℤ pos 0
  unfolding sum_over replaced
  unchanged figure = refl

  step-changes : (figure : Record → ℤ) → ((status : ℤ) → figure (with_status status r) ≡ figure r) → (o : Step) → Changes figure b (step_effects o r) a s (pos 0)
  unfolding record_after
  step-changes figure same Open = restated figure under_give_up (under-give-up-live (with_status under_give_up r) refl) (same under_give_up)
  step-changes figure same Claim = unchanged figure
  step-changes figure same Cancel = restated figure adjustable (adjustable-live (with_status adjustable r) refl) (same adjustable)
  step-changes figure same Refuse = restated figure adjustable (adjustable-live (with_status adjustable r) refl) (same adjustable)
  step-changes figure same ApproveGiver = unchanged figure
  step-changes figure same ApproveTaker = unchanged figure

  step-adds : BookingFacts b (step_effects step r) → Adds b (booked (step_effects step r) b) a s nothing
  unfolding signed_quantity signed_value
  step-adds facts =
      effects-add b sound (step_effects step r) facts (changed-once r step) a s nothing
      (step-changes signed_quantity (λ status. refl) step) (step-changes signed_value (λ status. refl) step)
      (stored-none (λ (p : Position). p.quantity) b.positions a s) (stored-none (λ (p : Position). p.value) b.positions a s)

  -- ---- every step

  abbrev completing : Effects
  completing = transfer_effects give_up_kind take_up_kind b.day r (next_of b.records id) taking (read_at giving series b.positions) (read_at taking series b.positions)

  in-giving : StandsIn giving series r
  unfolding plan_of give_up_plan view_of test
  in-giving = stands-in giving series r (own-passed b _ _ accepted).1.1.1.0

  effects-adds : (c : Bool) (p : ProcessRow) → BookingFacts b (with_process_row p (cond c completing (step_effects step r))) →
      Adds b (booked (with_process_row p (cond c completing (step_effects step r))) b) a s (cond c (transfer_amounts r giving taking series a s) nothing)
  effects-adds true p facts =
      with-process-adds b p completing a s (transfer_amounts r giving taking series a s)
      (transfer-effects-add b sound id suffix giving taking series give_up_kind take_up_kind a s (record-named b sound step process id suffix giving taking series accepted) record-live in-giving
      (figures-passed b sound step process id suffix giving taking series accepted).accounts-differ (without-process b p completing refl facts))
  effects-adds false p facts = with-process-adds b p (step_effects step r) a s nothing (step-adds (without-process b p (step_effects step r) refl facts))

  pub give-up-adds : Adds b (after b (give_up step process id suffix giving taking series)) a s (amounts_of (view_of b) (give_up step process id suffix giving taking series) a s)
  unfolding plan_of give_up_plan give_up_effects plan_books view_of amounts_of
  give-up-adds = effects-adds (is_complete p) (finished p) (give-up-facts b sound step process id suffix giving taking series accepted)
    where
      p : ProcessRow
      p = stepped step (process_before step process id suffix giving taking series (find process_key (key_of process id) b.processes))
