-- What is asked before a record is moved to another account, with new rows of these types.
use Rattle.std.specs.Prelude.{◌≡◌, true, false, List, ℤ}
use Rattle.integers.specs.Order.{eq_z}
use Rattle.rules.specs.Figures.{valid_account, inverse}
use Rattle.rules.specs.Rows.{valid_kind}
use Rattle.rules.specs.Tables.{sound_records, sound_positions}
use Rattle.requests.specs.KnownPosition.{KnownPosition}
use Rattle.requests.specs.KnownRecord.{KnownRecord}
use Rattle.requests.specs.declared.Held.{Held}
use Rattle.requests.specs.declared.Named.{Named}
use Rattle.verdict.specs.Moving.{moving_verdict}
use Rattle.verdict.specs.Verdict.{Accepted}

pub record MovingReady (records positions : List ℤ) (named : Named) (old new : Held) (id suffix from to series inverse_kind new_kind : ℤ) : Type 0 where
  pub records-sound : sound_records records ≡ true
  pub positions-sound : sound_positions positions ≡ true
  pub record-known : KnownRecord records id suffix named
  pub old-known : KnownPosition positions from series old
  pub new-known : KnownPosition positions to series new
  pub not-inverse : eq_z named.record.status inverse ≡ false
  pub accounts-differ : eq_z from to ≡ false
  pub to-valid : valid_account to ≡ true
  pub inverse-kind : valid_kind inverse_kind ≡ true
  pub new-kind : valid_kind new_kind ≡ true
  pub accepted : moving_verdict records positions named.record id from to series ≡ Accepted
