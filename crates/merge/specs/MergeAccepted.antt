-- A merge that is accepted on sound tables, with what was looked up of it.
use Rattle.std.specs.Prelude.{◌≡◌, true, List, ℤ}
use Rattle.rules.specs.Request as Request
use Rattle.rules.specs.Tables.{sound_records, sound_positions}
use Rattle.requests.specs.KnownPosition.{KnownPosition}
use Rattle.requests.specs.declared.Held.{Held}
use Rattle.verdict.specs.Verdict.{Accepted, verdict_on}
use Rattle.merge_sources.specs.Located.{RowsKnown}
use Rattle.merge_sources.specs.declared.Source.{Source}

pub record MergeAccepted (records positions : List ℤ) (held : Held) (id account series : ℤ) (pairs : List ℤ) (sources : List Source) : Type 0 where
  pub records-sound : sound_records records ≡ true
  pub positions-sound : sound_positions positions ≡ true
  pub accepted : verdict_on records positions (Request.merge id account series pairs) ≡ Accepted
  pub rows-known : RowsKnown records pairs sources
  pub position-known : KnownPosition positions account series held
