-- What a request does on sound tables follows from their books alone: on other sound tables with the same rows and rooms it is accepted with the same reply, and leaves the same books.
-- So do requests that are done one after the other. Assumes nothing.
use mathlib.Core.Path.{◌≡◌, refl, sym, ◌∙◌, ap, subst}
use mathlib.Core.Bool.{true}
use mathlib.Core.List.{List, [], ◌∷◌}
use Rattle.rules.specs.Request.{Request}
use Rattle.rules.specs.Books.{Books}
use Rattle.rules.specs.Plan.{plan_reply}
use Rattle.rules.specs.Tables.{Tables, books_of}
use Rattle.rules.specs.Handle.{handle}
use Rattle.rules.specs.Sequence.{Done}
use Rattle.soundness.specs.SoundBooks.{plan_on, Accepts, after}
use Rattle.soundness.specs.SoundTables.{SoundTables}
use Rattle.history.specs.History.{is_accepted}
use Rattle.history.proofs.Accepted.{accepted-rows, rows-accepted, accepted-reply}
use Rattle.history.proofs.Step.{step-books, step-sound}
use Rattle.history.proofs.Sequences.{DoneFrom}

-- The same requests with the same replies, from these tables, to tables that are sound and have the same books as the end.
pub record DoneAlike (u : Tables) (done : List Done) (end : Tables) : Type 0 where
  pub last : Tables
  pub from : DoneFrom u done last
  pub sound : SoundTables last
  pub same_books : books_of last ≡ books_of end

module _ (t u : Tables) (sound-t : SoundTables t) (sound-u : SoundTables u) (same : books_of t ≡ books_of u) (r : Request) (ok : is_accepted t r ≡ true) where
  pub accepted-alike : is_accepted u r ≡ true
  accepted-alike = rows-accepted u r sound-u (subst (λ (b : Books). Accepts b r) same (accepted-rows t r ok))

  pub reply-alike : (handle u r).reply ≡ (handle t r).reply
  reply-alike = accepted-reply u r accepted-alike ∙ ap (λ (b : Books). plan_reply (plan_on b r)) (sym same) ∙ sym (accepted-reply t r ok)

  pub books-alike : books_of (handle t r).tables ≡ books_of (handle u r).tables
  books-alike = step-books t sound-t r ok ∙ ap (λ (b : Books). after b r) same ∙ sym (step-books u sound-u r accepted-alike)

pub done-alike : (done : List Done) (t u end : Tables) → SoundTables t → SoundTables u → books_of t ≡ books_of u → DoneFrom t done end → DoneAlike u done end
done-alike [] t u end sound-t sound-u same h =
    record { last = u; from = refl; sound = sound-u; same_books = sym same ∙ ap books_of h }
done-alike (d ∷ rest) t u end sound-t sound-u same h =
    let r : Request = d.request in
    let ok : is_accepted u r ≡ true = accepted-alike t u sound-t sound-u same r h.0.0 in
    let later : DoneAlike (handle u r).tables rest end =
    done-alike rest (handle t r).tables (handle u r).tables end (step-sound t sound-t r h.0.0) (step-sound u sound-u r ok) (books-alike t u sound-t sound-u same r h.0.0) h.1 in
    record {
      last = later.last;
      from = ((ok, reply-alike t u sound-t sound-u same r h.0.0 ∙ h.0.1), later.from);
      sound = later.sound;
      same_books = later.same_books;
    }
