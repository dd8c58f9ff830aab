-- What a request's own call promises, as what booking a line does (RequestBooked): the verdict by the reply; beside a process table that the request does not read; a step of a give-up, beside
-- sound processes and beside others; and a day. Assumes nothing.
use Prim.Native.Nat.{ℕ}
use mathlib.Core.Path.{◌≡◌, refl, sym, ◌∙◌, ap, subst}
use mathlib.Core.Bool.{true, false, not}
use mathlib.Core.List.{List}
use mathlib.Core.Logic.{◌⊎◌, inl, inr}
use mathlib.Core.Option.{some}
use lib.IntN.{ℤ, pos}
use lib.ListN.{length}
use Rattle.rules.specs.Refusal.{Test, test, first_refusal}
use Rattle.rules.specs.Reply.{refused_by}
use Rattle.rules.specs.Request.{Request, give_up, new_day, is_step}
use Rattle.rules.specs.Line.{passes_test3}
use Rattle.rules.specs.Reader.{has_its_figures, request_named, is_valid_line}
use Rattle.rules.specs.Tables.{Tables, tables_of, all_tables, sound_records, sound_positions, sound_processes}
use Rattle.rules.specs.Handle.{Answer, answered, answered_by, handle, refusal_of}
use Rattle.rules.specs.declared.Reply.{Reply}
use Rattle.rules.specs.declared.Reply.TheVariants as Reply
use Rattle.rules.specs.Reasons.{confirmed_by}
use Rattle.rules.specs.declared.refusals.Confirmation.{Confirmation}
use Rattle.rules.specs.declared.refusals.Confirmation.TheVariants as Confirmed
use Rattle.rules.specs.declared.Step.{Step}
use Rattle.rules.specs.declared.Heading.{Heading}
use Rattle.rules.specs.declared.Heading.TheVariants.{Day}
use Rattle.keys.proofs.Split.{split, clash, and_left}
use Rattle.history.specs.History.{is_accepted}
use Rattle.history.specs.Answers.{is_refusal}
use Rattle.history.proofs.Accepted.{accepted-none}
use Rattle.history.proofs.Answers.{not-accepted-refused, refusal-exactly}
use Rattle.history.proofs.ProcessesApart.{refusal-apart, processes-apart}
use Rattle.verdict.specs.Verdict.{verdict_of, verdict_on_tables}
use Rattle.verdict.specs.HandledSoundly.{HandledSoundly}
use Rattle.verdict.specs.Verdict.{Verdict}
use Rattle.verdict.specs.Verdict as Verdict
use Rattle.soundness.specs.SoundTables.{SoundTables}
use Rattle.give_up_steps.specs.HandledIn.{HandledIn}
use Rattle.new_day.specs.DayHandled.{DayHandled}
use Rattle.give_up_steps.proofs.OnAllTables.{third-refuses, unsound-refused}
use Rattle.journal_booking.specs.RequestBooked.{RequestBooked, BookedBeside, verdict_of_reply}

-- What a booked request answers is no refusal.
pub confirmed : (c : Confirmation) → verdict_of_reply (confirmed_by c) ≡ Verdict.Accepted
confirmed (Confirmed.Booked rows residual) = refl
confirmed (Confirmed.ClosingError excess) = refl

-- A reply that is no refusal.
not-refused : (reply : Reply) → is_refusal reply ≡ false → verdict_of_reply reply ≡ Verdict.Accepted
unfolding is_refusal
not-refused (Reply.Booked rows residual) h = refl
not-refused (Reply.ClosingError excess) h = refl
not-refused (Reply.Lineage price links) h = refl
not-refused (Reply.Refused number place) h = clash refl h
not-refused (Reply.Stopped booked number place) h = refl
not-refused (Reply.Written bytes) h = refl
not-refused (Reply.Replayed lines) h = refl
not-refused (Reply.BadLine line) h = refl
not-refused (Reply.LineRefused line number place) h = refl
not-refused (Reply.Listed records) h = refl

-- The verdict by the reply is the one by the first refusal.
pub reply-verdict : (t : Tables) (r : Request) → verdict_of_reply (handle t r).reply ≡ verdict_of (refusal_of t r)
unfolding verdict_of refused_by
reply-verdict t r = go (split (is_accepted t r))
  where
    go : (is_accepted t r ≡ true) ⊎ (is_accepted t r ≡ false) → verdict_of_reply (handle t r).reply ≡ verdict_of (refusal_of t r)
    go (inl ok) = not-refused (handle t r).reply (refusal-exactly t r ∙ ap not ok) ∙ sym (ap verdict_of (accepted-none t r ok))
    go (inr not-ok) =
        let w : (first : Test) × (refusal_of t r ≡ some first) × ((handle t r).reply ≡ refused_by first) = not-accepted-refused t r not-ok in
        ap verdict_of_reply w.2 ∙ sym (ap verdict_of w.1)

-- A request on two tables.
pub two-booked : {rs ps rs' ps' : List ℤ} {r : Request} {reply : Reply} {v : Verdict} → sound_positions ps ≡ true → HandledSoundly rs ps r (answered reply rs' ps') → v ≡ verdict_of_reply reply →
    RequestBooked (tables_of rs ps) r v (tables_of rs' ps')
two-booked {rs} {ps} {r = r} sound h judged = record {
  verdict = judged ∙ ap (λ (a : Answer). verdict_of_reply a.reply) h.handled ∙ reply-verdict (tables_of rs ps) r;
  tables = ap (λ (a : Answer). a.tables) h.handled;
  records-sound = h.records-sound;
  positions-sound = h.positions-sound ∙ sym sound;
  processes-sound = refl;
}

-- The same beside a process table, every cell of which stays.
pub beside-processes : (qs : List ℤ) {rs ps rs' ps' : List ℤ} {r : Request} {v : Verdict} → is_step r ≡ false → RequestBooked (tables_of rs ps) r v (tables_of rs' ps') →
    RequestBooked (all_tables rs ps qs) r v (all_tables rs' ps' qs)
beside-processes qs {rs} {ps} {rs'} {ps'} {r} no_step b = record {
  verdict = b.verdict ∙ ap verdict_of (sym (refusal-apart qs (tables_of rs ps) r no_step));
  tables =
      ap (λ (t : Tables). all_tables t.records t.positions qs) b.tables
      ∙ sym (ap (λ (a : Answer). a.tables) (processes-apart qs (tables_of rs ps) r no_step));
  records-sound = b.records-sound;
  positions-sound = b.positions-sound;
  processes-sound = refl;
}

-- A step on sound tables.
pub step-booked : {t after : Tables} {r : Request} {reply : Reply} {v : Verdict} → SoundTables t → HandledIn t r (answered_by reply after) → v ≡ verdict_of_reply reply →
    RequestBooked t r v after
step-booked {t} {after} {r} before h judged = record {
  verdict = judged ∙ ap (λ (a : Answer). verdict_of_reply a.reply) h.handled ∙ reply-verdict t r;
  tables = ap (λ (a : Answer). a.tables) h.handled;
  records-sound = h.sound.records;
  positions-sound = h.sound.positions ∙ sym before.positions;
  processes-sound = h.sound.processes ∙ sym before.processes;
}

-- An answer that is a refusal leaves the tables.
pub refused-booked : {t : Tables} {r : Request} (number place : ℤ) → answered_by (Reply.Refused number place) t ≡ handle t r → sound_records t.records ≡ true → RequestBooked t r (Verdict.Refused number place) t
refused-booked {t} {r} number place h records = record {
  verdict = ap (λ (a : Answer). verdict_of_reply a.reply) h ∙ reply-verdict t r;
  tables = ap (λ (a : Answer). a.tables) h;
  records-sound = records;
  positions-sound = refl;
  processes-sound = refl;
}

-- A step beside processes that are not sound: 19.
pub step-refused : (rs ps qs : List ℤ) (step : Step) (process id suffix giving taking series : ℤ) → sound_records rs ≡ true → sound_positions ps ≡ true → sound_processes qs ≡ false →
    RequestBooked (all_tables rs ps qs) (give_up step process id suffix giving taking series) (Verdict.Refused (pos 19) (pos 0)) (all_tables rs ps qs)
unfolding verdict_on_tables first_refusal test verdict_of
step-refused rs ps qs step process id suffix giving taking series h k unsound =
    let accepted : verdict_on_tables rs ps ≡ Verdict.Accepted = rw (h, k) refl in
    refused-booked (pos 19) (pos 0)
    (unsound-refused rs ps qs (sym (third-refuses rs ps qs accepted unsound)) step process id suffix giving taking series (pos 19) (pos 0) refl) h

-- A day, beside any positions and processes.
pub day-booked : {before after : List ℤ} {day : ℤ} {reply : Reply} {v : Verdict} → DayHandled before day reply after → v ≡ verdict_of_reply reply → BookedBeside before (new_day day) v after
day-booked {before} {day = day} h judged positions processes = record {
  verdict = judged ∙ ap (λ (a : Answer). verdict_of_reply a.reply) (h.handled positions processes) ∙ reply-verdict (all_tables before positions processes) (new_day day);
  tables = ap (λ (a : Answer). a.tables) (h.handled positions processes);
  records-sound = h.records-sound;
  positions-sound = refl;
  processes-sound = refl;
}

-- The same of the request that a line names, whose heading is this.
pub line-beside : (qs : List ℤ) {rs ps rs' ps' : List ℤ} {v : Verdict} {heading : Heading} (kind : Heading) (figures : List ℤ) → heading ≡ kind → is_step (request_named kind figures) ≡ false →
    RequestBooked (tables_of rs ps) (request_named kind figures) v (tables_of rs' ps') → RequestBooked (all_tables rs ps qs) (request_named heading figures) v (all_tables rs' ps' qs)
line-beside qs {rs} {ps} {rs'} {ps'} {v} kind figures is no_step b =
    subst (λ (h : Heading). RequestBooked (all_tables rs ps qs) (request_named h figures) v (all_tables rs' ps' qs)) (sym is) (beside-processes qs no_step b)

pub day-beside : {before after : List ℤ} {v : Verdict} {heading : Heading} → heading ≡ Day → (figures : List ℤ) → BookedBeside before (request_named Day figures) v after →
    BookedBeside before (request_named heading figures) v after
day-beside {before} {after} {v} is figures b = subst (λ (h : Heading). BookedBeside before (request_named h figures) v after) (sym is) b

-- A line of this kind has its figures.
pub its-figures : {heading : Heading} (kind : Heading) (count : ℕ) → heading ≡ kind → has_its_figures heading count ≡ true → has_its_figures kind count ≡ true
its-figures kind count is h = subst (λ (k : Heading). has_its_figures k count ≡ true) is h

pub valid-counted : (heading : Heading) (figures : List ℤ) → is_valid_line heading figures ≡ true → has_its_figures heading (length figures) ≡ true
unfolding is_valid_line
valid-counted heading figures h = and_left (has_its_figures heading (length figures)) (passes_test3 (request_named heading figures)) h
