-- What a step names, as a request: its test 3, and the row that an opening makes.
use Rattle.std.specs.Prelude.{Bool}
use Rattle.rules.specs.ProcessRows.{opened_process}
use Rattle.rules.specs.Request.{Request, give_up}
use Rattle.rules.specs.GiveUp.{give_up_figures}
use Rattle.rules.specs.declared.ProcessRow.{ProcessRow}
use Rattle.rules.specs.declared.Step.{Step}
use Rattle.give_up_steps.specs.declared.Terms.{Terms}

abbrev pub step_of : Step → Terms → Request
step_of step g = give_up step g.process g.id g.suffix g.giving g.taking g.series

abbrev pub terms_valid : Terms → Bool
terms_valid g = give_up_figures g.process g.id g.suffix g.giving g.taking g.series

abbrev pub opened_row : Terms → ProcessRow
opened_row g = opened_process g.process g.id g.suffix g.giving g.taking g.series
