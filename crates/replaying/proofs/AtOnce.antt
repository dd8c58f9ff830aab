-- Where the records are not sound, every request is refused 1: the first line of a text decides its replay, and no cell changes. Assumes nothing.
use Prim.Native.Nat.{ℕ, zero, suc, ◌<◌, ◌≤◌}
use native.Mathlib.Omega.{arith}
use mathlib.Core.Path.{◌≡◌, refl, sym, ◌∙◌, ap}
use mathlib.Core.Bool.{Bool, true, false, cond}
use mathlib.Core.List.{List}
use mathlib.Core.Logic.{◌⊎◌, inl, inr}
use mathlib.Core.Option.{Option, none, some}
use borrow.Author.Tests.{eqb-true, eqb-false}
use lib.Dec.{eqb}
use lib.IntN.{pos}
use lib.ListN.{length}
use Rattle.text.specs.Scan.{Taken}
use Rattle.rules.specs.Refusal.{Test, test, first_refusal}
use Rattle.rules.specs.Request.{Request}
use Rattle.rules.specs.Plan.{Plan, booking, question, day_move}
use Rattle.rules.specs.Tables.{Tables, books_of, sound_records}
use Rattle.rules.specs.Handle.{Answer, answered_by, handle, refusal_of, soundness_tests}
use Rattle.rules.specs.Reader.{take_request}
use Rattle.rules.specs.Replay.{handle_replay}
use Rattle.rules.specs.declared.Reply.TheVariants as Reply
use Rattle.keys.proofs.Split.{split}
use Rattle.soundness.specs.SoundBooks.{plan_on}
use Rattle.history.specs.History.{is_accepted}
use Rattle.history.proofs.Answers.{refused-not-accepted}
use Rattle.verdict.specs.Verdict.{verdict_of}
use Rattle.verdict.specs.Verdict as Verdict
use Rattle.verdict.proofs.Handled.{unsound-in}
use Rattle.replaying.specs.Unsound.{first_line, refused_at_once}
use Rattle.replaying.proofs.AnswerFrom.{answer_from, from_start, at-end, line-bad, line_refused}

above : (k : ℕ) → (k ≡ 0 → ⊥) → 0 < k
above zero h = absurd (h refl)
above (suc k) h = omega arith

module _ (t : Tables) (unsound : sound_records t.records ≡ false) where
  each-refused : (r : Request) → handle t r ≡ answered_by (Reply.Refused (pos 1) (pos 0)) t
  unfolding soundness_tests first_refusal test verdict_of
  each-refused r = unsound-in t r (pos 1) (pos 0) (go (plan_on (books_of t) r))
    where
      go : (plan : Plan) → verdict_of (first_refusal (soundness_tests t r plan)) ≡ Verdict.Refused (pos 1) (pos 0)
      go (booking tests e) = rw unsound
      go (question tests reply) = rw unsound
      go (day_move tests day) = rw unsound

  -- A first line that names a request.
  first-refused : (text : List ℕ) (x : Taken Request) → take_request text ≡ some x → answer_from 0 t text ≡ answered_by (Reply.LineRefused (pos 1) (pos 1) (pos 0)) t
  first-refused text x read =
      let told : (is_accepted t x.value ≡ false) × ((first : Test) × (refusal_of t x.value ≡ some first) × (pos 1 ≡ pos first.number) × (pos 0 ≡ pos first.place)) =
      refused-not-accepted t x.value (pos 1) (pos 0) (ap (λ (a : Answer). a.reply) (each-refused x.value)) in
      line_refused 0 t text x.rest x.value read told.1.0 told.1.1
      ∙ (λ k. answered_by (Reply.LineRefused (pos 1) (sym told.1.2 k) (sym told.1.3 k)) t)

  first-decides : (text : List ℕ) → 0 < length text → (o : Option (Taken Request)) → take_request text ≡ o → answer_from 0 t text ≡ answered_by (first_line o) t
  first-decides text more none bad = line-bad 0 t text more bad
  first-decides text more (some x) read = first-refused text x read

  pub at_once : (text : List ℕ) → answered_by (refused_at_once text) t ≡ handle_replay t text
  unfolding refused_at_once
  at_once text = go (split (eqb (length text) 0))
    where
      decided : Bool → Answer
      decided none-there = answered_by (cond none-there (Reply.Replayed (pos 0)) (first_line (take_request text))) t

      go : (eqb (length text) 0 ≡ true) ⊎ (eqb (length text) 0 ≡ false) → decided (eqb (length text) 0) ≡ handle_replay t text
      go (inl e) =
          let over : length text ≤ 0 = omega (arith, eqb-true (length text) 0 e) in
          ap decided e ∙ sym (at-end 0 t text 0 over) ∙ from_start t text
      go (inr e) =
          let more : 0 < length text = above (length text) (eqb-false (length text) 0 e) in
          ap decided e ∙ sym (first-decides text more (take_request text) refl) ∙ from_start t text
