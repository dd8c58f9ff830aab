-- What was found and read of a position.
use Rattle.std.specs.Prelude.{◌≡◌, List, ℤ}
use Rattle.rules.specs.Keyed.{find}
use Rattle.rules.specs.Rows.{key_of, position_key, or_zeros}
use Rattle.rules.specs.Layout.{rows_of}
use Rattle.rules.specs.Tables.{positions_layout}
use Rattle.lookup.specs.Found.{found_told}
use Rattle.lookup.specs.Lookup.{position_found}
use Rattle.requests.specs.declared.Held.{Held}

pub record KnownPosition (cells : List ℤ) (account series : ℤ) (held : Held) : Type 0 where
  pub found-is : found_told held.found ≡ position_found cells account series
  pub read_is : held.position ≡ or_zeros account series (find position_key (key_of account series) (rows_of positions_layout cells))
