-- Tests 1 and 2 by their call, then test 19.
use Rattle.std.proofs.Common.{rules, ◌≡◌, ap, sym, ◌∙◌, pos, Err}
use Rattle.verdict.specs.Verdict.{judged}
use Rattle.give_up_steps.proofs.OnAllTables.{two-refuse, third-refuses, third-accepts}
use Rattle.book.proofs.verdict_on_all_tables.Goals as goal

pub returns-in_err-verdict_on_tables : goal.returns-in_err-verdict_on_tables
returns-in_err-verdict_on_tables c =
    let refused : c.from_residual.result ≡ Err c.in_err-verdict_on_tables.field-0.0 = search rules in
    rw refused (sym (two-refuse _ _ _ _ (pos 0) (sym c.in_err-verdict_on_tables.ensures)))

pub returns-then-processes_sound : goal.returns-then-processes_sound
returns-then-processes_sound c = sym (third-accepts _ _ _ (sym c.verdict_on_tables.ensures ∙ ap judged c.in_ok-verdict_on_tables.was) (sym c.processes_sound.ensures ∙ c.if-processes_sound.true))

pub returns-else-processes_sound : goal.returns-else-processes_sound
returns-else-processes_sound c = sym (third-refuses _ _ _ (sym c.verdict_on_tables.ensures ∙ ap judged c.in_ok-verdict_on_tables.was) (sym c.processes_sound.ensures ∙ c.if-processes_sound.false))
