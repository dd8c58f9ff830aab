-- A request on sound tables, refused by its verdict or booked: the answer is the rules', and both tables are sound afterwards. Assumes nothing.
use mathlib.Core.Path.{◌≡◌, sym, ◌∙◌, ap}
use mathlib.Core.Bool.{true}
use mathlib.Core.List.{List}
use lib.IntN.{ℤ, pos}
use Rattle.std.specs.Prelude.{Result, Ok, Err}
use Rattle.std.specs.Result.{IsErr, IsErrAnd}
use Rattle.std.proofs.lemmas.Bool.{false≢true}
use Rattle.rules.specs.Reasons.{number_of, answer_of}
use Rattle.rules.specs.declared.refusals.Reason.{Reason}
use Rattle.rules.specs.declared.refusals.Confirmation.{Confirmation}
use Rattle.rules.specs.declared.refusals.Refusal.{Refusal}
use Rattle.rules.specs.Request.{Request}
use Rattle.rules.specs.Tables.{sound_records, sound_positions, tables_of}
use Rattle.rules.specs.Handle.{Answer, handle, answered}
use Rattle.rules.specs.declared.Reply.TheVariants as Variants
use Rattle.soundness.specs.SoundTables.{SoundTables}
use Rattle.history.proofs.OnTables.{stays-sound}
use Rattle.verdict.specs.Verdict.{judged, verdict_on, accepted_on}
use Rattle.verdict.specs.HandledSoundly.{HandledSoundly}
use Rattle.verdict.specs.Verdict.{Verdict}
use Rattle.verdict.proofs.Acceptance.{no-processes-sound}
use Rattle.verdict.proofs.Handled.{handled-refused, handled-accepted}

module _ (rs ps : List ℤ) (sound : (sound_records rs ≡ true) × (sound_positions ps ≡ true)) (r : Request) where
  -- Tables that a request on sound tables leaves are sound.
  pub handled-soundly : (a : Answer) → a ≡ handle (tables_of rs ps) r → HandledSoundly rs ps r a
  handled-soundly a e =
      let after : SoundTables (handle (tables_of rs ps) r).tables = stays-sound (tables_of rs ps) (record { records = sound.0; positions = sound.1; processes = no-processes-sound }) r in
      record {
        handled = e;
        records-sound = ap (λ (b : Answer). sound_records b.tables.records) e ∙ after.records;
        positions-sound = ap (λ (b : Answer). sound_positions b.tables.positions) e ∙ after.positions;
      }

  -- A refusal that the code makes of its reason: its place is 0.
  pub refused-for : (x : Reason) (e : Refusal) → e ≡ record { reason = x; place = pos 0 } → judged (Err x) ≡ verdict_on rs ps r → HandledSoundly rs ps r (answered (answer_of (Err e)) rs ps)
  refused-for x e made v =
      handled-soundly _
      (ap (λ (f : Refusal). answered (answer_of (Err f)) rs ps) made
      ∙ sym (handled-refused rs ps r sound.0 sound.1 (number_of x) (pos 0) (sym v)))

  -- The same, handed on by `?`.
  pub refused-by : (x : Reason) (o : Result Confirmation Refusal) → IsErr o × IsErrAnd o (λ (e : Refusal). e ≡ record { reason = x; place = pos 0 }) → judged (Err x) ≡ verdict_on rs ps r
      → HandledSoundly rs ps r (answered (answer_of o) rs ps)
  refused-by x (Ok answer) h v = absurd (false≢true h.0)
  refused-by x (Err e) h v = refused-for x e h.1 v

  -- By the code's verdict `v`.
  module _ {v : Verdict} (judged : v ≡ verdict_on rs ps r) where
    pub refused-soundly : (n p : ℤ) → v ≡ Verdict.Refused n p → HandledSoundly rs ps r (answered (Variants.Refused n p) rs ps)
    refused-soundly n p refused = handled-soundly _ (sym (handled-refused rs ps r sound.0 sound.1 n p (sym judged ∙ refused)))

    pub booked-soundly : v ≡ Verdict.Accepted → (a : Answer) → a ≡ accepted_on rs ps r → HandledSoundly rs ps r a
    booked-soundly accepted a e = handled-soundly a (e ∙ sym (handled-accepted rs ps r sound.0 sound.1 (sym judged ∙ accepted)))
