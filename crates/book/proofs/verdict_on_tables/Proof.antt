-- `book::verdict_on_tables` meets its contract: each answer by the tests before it. Assumes nothing.
use mathlib.Core.Path.{◌≡◌}
use mathlib.Core.Bool.{true, false, not}
use borrow.Author.Rules.{rules}
use Rattle.rules.specs.Refusal.{test, first_refusal}
use Rattle.rules.specs.Tables.{sound_records, sound_positions}
use Rattle.verdict.specs.Verdict.{verdict_of, verdict_on_tables}
use Rattle.book.proofs.verdict_on_tables.Statement.{statement}
use Rattle.book.proofs.verdict_on_tables.Tie as tie

records-pass : (c : tie.Else-not-records_sound) → not (sound_records c.args.records.now) ≡ false
records-pass c = cc

returns : tie.Need-returns-then-not-records_sound
unfolding verdict_on_tables first_refusal test verdict_of
returns c =
    let fails : not (sound_records c.args.records.now) ≡ true = cc in
    rw fails

returns-2 : tie.Need-returns-then-not-positions_sound
unfolding verdict_on_tables first_refusal test verdict_of
returns-2 c =
    let fails : not (sound_positions c.args.positions.now) ≡ true = cc in
    rw (records-pass c.before.before, fails)

returns-3 : tie.Need-returns
unfolding verdict_on_tables first_refusal test verdict_of
returns-3 c =
    let passes : not (sound_positions c.args.positions.now) ≡ false = cc in
    rw (records-pass c.before.before, passes)

pub verdict_on_tables_spec : {M : Type 1} → statement M
verdict_on_tables_spec = tie.close (tie.spec (λ c κs. search rules) returns (λ c κs. search rules) returns-2 returns-3)
