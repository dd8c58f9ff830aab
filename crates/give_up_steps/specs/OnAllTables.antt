-- Refusals 1, 2 and 19 of a step: accepted where all three tables are sound.
use Rattle.std.specs.Prelude.{not, List, [], ◌∷◌, ℤ}
use Rattle.rules.specs.Refusal.{test, first_refusal}
use Rattle.rules.specs.Tables.{sound_records, sound_positions, sound_processes}
use Rattle.verdict.specs.Verdict.{verdict_of}
use Rattle.verdict.specs.Verdict.{Verdict}

unfoldable pub verdict_on_all_tables : (records positions processes : List ℤ) → Verdict
verdict_on_all_tables records positions processes =
    verdict_of
    (first_refusal (test 1 (not (sound_records records)) ∷ test 2 (not (sound_positions positions)) ∷ test 19 (not (sound_processes processes)) ∷ []))
