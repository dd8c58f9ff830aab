-- What becomes of a line: bad, booked, or refused, by what was read and what booking its request promises. Assumes nothing.
use Prim.Native.Nat.{ℕ}
use native.Mathlib.Omega.{arith}
use mathlib.Core.Path.{◌≡◌, refl, sym, ◌∙◌, ap}
use mathlib.Core.Bool.{true, not}
use mathlib.Core.List.{List}
use mathlib.Core.Option.{Option, none, some}
use lib.IntN.{ℤ}
use lib.ListN.{take, drop}
use Rattle.rules.specs.Keyed.{is_some}
use Rattle.rules.specs.Refusal.{Test}
use Rattle.rules.specs.Request.{Request}
use Rattle.rules.specs.Reader.{request_named}
use Rattle.rules.specs.Tables.{Tables, sound_records}
use Rattle.rules.specs.Handle.{handle, refusal_of}
use Rattle.history.specs.History.{is_accepted}
use Rattle.history.proofs.Accepted.{refused-tables}
use Rattle.verdict.specs.Verdict.{verdict_of}
use Rattle.verdict.specs.Verdict as Verdict
use Rattle.std.specs.Prelude.{Some, None}
use Rattle.reader.specs.declared.LineRead.{LineRead}
use Rattle.journal_reading.specs.RequestRead.{RequestReadAs}
use Rattle.journal_booking.specs.RequestBooked.{RequestBooked}
use Rattle.replaying.specs.LineReplayed.{LineReplayed}
use Rattle.replaying.specs.Became.{Booked, Bad, Refused}

-- Accepted by the first refusal: there is none.
accepted-none : (o : Option Test) → Verdict.Accepted ≡ verdict_of o → o ≡ none
unfolding verdict_of
accepted-none none h = refl
accepted-none (some x) h = let z : ◌≡◌ {A = ℕ} 0 1 = cc in absurd (omega arith)

refused-some : (number place : ℤ) (o : Option Test) → Verdict.Refused number place ≡ verdict_of o → (x : Test) × (o ≡ some x)
unfolding verdict_of
refused-some number place none h = let z : ◌≡◌ {A = ℕ} 0 1 = cc in absurd (omega arith)
refused-some number place (some x) h = (x, refl)

-- A refused request leaves the tables.
refused-same : (t : Tables) (r : Request) (x : Test) → refusal_of t r ≡ some x → (handle t r).tables ≡ t
unfolding is_accepted is_some
refused-same t r x e = refused-tables t r (ap (λ (o : Option Test). not (is_some o)) e)

module _ (t : Tables) (text : List ℕ) (at : ℕ) (figures : List ℤ) where
  pub bad-replayed : sound_records t.records ≡ true → RequestReadAs text at figures None → LineReplayed t text at Bad t
  bad-replayed records w =
      record { became = (sym w.request, refl); records-sound = records; positions-sound = refl; processes-sound = refl }

  module _ (line : LineRead) (w : RequestReadAs text at figures (Some line)) (after : Tables) where
    abbrev r : Request
    r = request_named line.heading (take line.count figures)

    pub booked-replayed : RequestBooked t r Verdict.Accepted after → LineReplayed t text at (Booked line.next) after
    booked-replayed b = record {
      became = record { request = r; read = sym w.request; within = w.within.2; accepted = accepted-none (refusal_of t r) b.verdict; tables = b.tables };
      records-sound = b.records-sound;
      positions-sound = b.positions-sound;
      processes-sound = b.processes-sound;
    }

    pub refused-replayed : (number place : ℤ) → RequestBooked t r (Verdict.Refused number place) after → LineReplayed t text at (Refused number place) after
    refused-replayed number place b =
        let first : (x : Test) × (refusal_of t r ≡ some x) = refused-some number place (refusal_of t r) b.verdict in
        record {
          became = record { request = r; rest = drop line.next text; read = sym w.request; refused = sym b.verdict; same = b.tables ∙ refused-same t r first.0 first.1 };
          records-sound = b.records-sound;
          positions-sound = b.positions-sound;
          processes-sound = b.processes-sound;
        }
