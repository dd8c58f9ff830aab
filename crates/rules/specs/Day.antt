-- Document 02, K8, a new day: "A new request moves the day forward; the same or an earlier day, or one outside 1 to 99,999, is refused 3."
use Rattle.std.specs.Prelude.{not, ◌&&◌, [], ◌∷◌, ℤ}
use Rattle.std.specs.Int.Signed.{lt_z}
use Rattle.rules.specs.Figures.{valid_day}
use Rattle.rules.specs.Refusal.{test}
use Rattle.rules.specs.Plan.{Plan, day_move}

-- `today` is the current day.
unfoldable pub day_plan : (today day : ℤ) → Plan
day_plan today day = day_move (test 3 (not (valid_day day && lt_z today day)) ∷ []) day
