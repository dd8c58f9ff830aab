-- A step on sound tables, by its verdict: refused, or booked. The tables are sound afterwards. Assumes nothing.
use mathlib.Core.Path.{◌≡◌, sym, ◌∙◌, subst}
use lib.IntN.{ℤ}
use Rattle.rules.specs.Request.{Request}
use Rattle.rules.specs.Tables.{Tables}
use Rattle.rules.specs.Handle.{Answer, handle, answered_by}
use Rattle.rules.specs.declared.Reply.TheVariants as Reply
use Rattle.soundness.specs.SoundTables.{SoundTables}
use Rattle.history.proofs.OnTables.{stays-sound}
use Rattle.verdict.specs.Verdict.{verdict_in, accepted_in}
use Rattle.verdict.specs.Verdict as Verdict
use Rattle.verdict.proofs.Handled.{refused-in, accepted-in}
use Rattle.give_up_steps.specs.HandledIn.{HandledIn}

module _ (t : Tables) (sound : SoundTables t) (r : Request) where
  handled-in : (a : Answer) → a ≡ handle t r → HandledIn t r a
  handled-in a e = record { handled = e; sound = subst (λ (b : Answer). SoundTables b.tables) (sym e) (stays-sound t sound r) }

  pub refused-soundly : (n p : ℤ) → verdict_in t r ≡ Verdict.Refused n p → HandledIn t r (answered_by (Reply.Refused n p) t)
  refused-soundly n p v = handled-in _ (sym (refused-in t sound r n p v))

  pub booked-soundly : verdict_in t r ≡ Verdict.Accepted → (a : Answer) → a ≡ accepted_in t r → HandledIn t r a
  booked-soundly v a e = handled-in a (e ∙ sym (accepted-in t sound r v))
