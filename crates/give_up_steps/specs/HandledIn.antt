-- What a step on sound tables promises: the answer is the rules', and the three tables are sound again.
use Rattle.std.specs.Prelude.{◌≡◌}
use Rattle.rules.specs.Request.{Request}
use Rattle.rules.specs.Tables.{Tables}
use Rattle.rules.specs.Handle.{Answer, handle}
use Rattle.soundness.specs.SoundTables.{SoundTables}

pub record HandledIn (t : Tables) (r : Request) (a : Answer) : Type 0 where
  pub handled : a ≡ handle t r
  pub sound : SoundTables a.tables
