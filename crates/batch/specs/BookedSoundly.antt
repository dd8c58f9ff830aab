-- What booking one trade of a batch on sound tables promises: what became of it by the rules' reply, the rules' tables, and that they are sound again.
use Rattle.std.specs.Prelude.{◌≡◌, true}
use Rattle.rules.specs.Request.{Request}
use Rattle.rules.specs.Tables.{Tables, sound_records, sound_positions}
use Rattle.rules.specs.Handle.{handle}
use Rattle.batch.specs.Outcome.{Outcome}
use Rattle.batch.specs.Outcome.{outcome_of}

pub record BookedSoundly (t : Tables) (r : Request) (became : Outcome) (after : Tables) : Type 0 where
  pub outcome : became ≡ outcome_of (handle t r).reply
  pub tables : after ≡ (handle t r).tables
  pub records-sound : sound_records after.records ≡ true
  pub positions-sound : sound_positions after.positions ≡ true
