-- Requests that a journal has, each of which passes test 3: what the lines of a journal are written of.
use Rattle.std.specs.Prelude.{◌≡◌, true, List, [], ◌∷◌}
use Rattle.rules.specs.Request.{Request}
use Rattle.rules.specs.Line.{is_journalled, passes_test3}

abbrev pub AllJournalled : List Request → Type 0
AllJournalled [] = Unit {0}
AllJournalled (r ∷ rest) = (is_journalled r ≡ true) × (passes_test3 r ≡ true) × AllJournalled rest
