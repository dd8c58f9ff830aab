-- What booking the request of a line promises: the rules' verdict and tables; the records are sound again, and the other two tables are sound where they were.
use Rattle.std.specs.Prelude.{◌≡◌, Bool, true, false, List, ℤ}
use Rattle.rules.specs.Request.{Request}
use Rattle.rules.specs.Tables.{Tables, all_tables, sound_records, sound_positions, sound_processes}
use Rattle.rules.specs.Handle.{handle, refusal_of}
use Rattle.rules.specs.declared.Reply.{Reply}
use Rattle.rules.specs.declared.Reply.TheVariants.{Booked, ClosingError, Lineage, Refused, Stopped, Written, Replayed, BadLine, LineRefused, Listed}
use Rattle.rules.specs.declared.Heading.{Heading}
use Rattle.rules.specs.declared.Heading.TheVariants.{Trade, Separation, Transfer, Merge, GiveUp, Day}
use Rattle.verdict.specs.Verdict.{verdict_of}
use Rattle.verdict.specs.Verdict.{Verdict}
use Rattle.verdict.specs.Verdict as Verdict

-- Whether a reply is a refusal, and which.
abbrev pub verdict_of_reply : Reply → Verdict
verdict_of_reply (Booked rows residual) = Verdict.Accepted
verdict_of_reply (ClosingError excess) = Verdict.Accepted
verdict_of_reply (Lineage price links) = Verdict.Accepted
verdict_of_reply (Refused number place) = Verdict.Refused number place
verdict_of_reply (Stopped booked number place) = Verdict.Accepted
verdict_of_reply (Written bytes) = Verdict.Accepted
verdict_of_reply (Replayed lines) = Verdict.Accepted
verdict_of_reply (BadLine line) = Verdict.Accepted
verdict_of_reply (LineRefused line number place) = Verdict.Accepted
verdict_of_reply (Listed records) = Verdict.Accepted

pub record RequestBooked (t : Tables) (r : Request) (v : Verdict) (after : Tables) : Type 0 where
  pub verdict : v ≡ verdict_of (refusal_of t r)
  pub tables : after ≡ (handle t r).tables
  pub records-sound : sound_records after.records ≡ true
  pub positions-sound : sound_positions after.positions ≡ sound_positions t.positions
  pub processes-sound : sound_processes after.processes ≡ sound_processes t.processes

-- Of a request that is lent the records alone: beside any other tables, every cell of which stays.
abbrev pub BookedBeside : (before : List ℤ) → Request → Verdict → (after : List ℤ) → Type 0
BookedBeside before r v after = (positions processes : List ℤ) → RequestBooked (all_tables before positions processes) r v (all_tables after positions processes)

-- The heading of the one request that skips test 2.
abbrev pub is_day : Heading → Bool
is_day Trade = false
is_day Separation = false
is_day Transfer = false
is_day Merge = false
is_day (GiveUp step) = false
is_day Day = true
