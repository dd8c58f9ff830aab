-- What replaying the line from a place of a text on promises, on sound records: what becomes of it by the rules, the rules' tables, that the records are sound again, and the others where they were.
use Rattle.std.specs.Prelude.{ℕ, ◌≤◌, ◌≡◌, true, List, ℤ, length, drop}
use Rattle.std.proofs.Math.Option.{none, some}
use Rattle.text.specs.Scan.{taken}
use Rattle.rules.specs.Request.{Request}
use Rattle.rules.specs.Reader.{take_request}
use Rattle.rules.specs.Tables.{Tables, sound_records, sound_positions, sound_processes}
use Rattle.rules.specs.Handle.{handle, refusal_of}
use Rattle.verdict.specs.Verdict.{verdict_of}
use Rattle.verdict.specs.Verdict as Verdict
use Rattle.replaying.specs.Became.{Became}
use Rattle.replaying.specs.Became.{Booked, Bad, Refused}

-- Booked: the request that is taken off the text there is accepted, and leaves these tables; the next line begins within the text.
pub record LineBooked (t : Tables) (text : List ℕ) (at next : ℕ) (after : Tables) : Type 0 where
  pub request : Request
  pub read : take_request (drop at text) ≡ some (taken request (drop next text))
  pub within : next ≤ length text
  pub accepted : refusal_of t request ≡ none
  pub tables : after ≡ (handle t request).tables

-- Refused with this number and place, by the rules' first refusal.
pub record LineStops (t : Tables) (text : List ℕ) (at : ℕ) (number place : ℤ) (after : Tables) : Type 0 where
  pub request : Request
  pub rest : List ℕ
  pub read : take_request (drop at text) ≡ some (taken request rest)
  pub refused : verdict_of (refusal_of t request) ≡ Verdict.Refused number place
  pub same : after ≡ t

abbrev pub BecameBy : Tables → List ℕ → ℕ → Became → Tables → Type 0
BecameBy t text at (Booked next) after = LineBooked t text at next after
BecameBy t text at Bad after = (take_request (drop at text) ≡ none) × (after ≡ t)
BecameBy t text at (Refused number place) after = LineStops t text at number place after

pub record LineReplayed (t : Tables) (text : List ℕ) (at : ℕ) (r : Became) (after : Tables) : Type 0 where
  pub became : BecameBy t text at r after
  pub records-sound : sound_records after.records ≡ true
  pub positions-sound : sound_positions after.positions ≡ sound_positions t.positions
  pub processes-sound : sound_processes after.processes ≡ sound_processes t.processes
