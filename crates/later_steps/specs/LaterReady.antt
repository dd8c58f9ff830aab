-- What is known where the parts of a later step are called.
use Rattle.std.specs.Prelude.{◌<◌, ◌≡◌, true, false, ◌&&◌, List, ℤ, length}
use Rattle.std.proofs.Math.Option.{some}
use Rattle.rules.specs.Keyed.{find}
use Rattle.rules.specs.Rows.{key_of}
use Rattle.rules.specs.ProcessRows.{process_key, row_of_process}
use Rattle.rules.specs.Refusal.{first_refusal}
use Rattle.rules.specs.GiveUp.{is_opening, has_figures, has_turn}
use Rattle.rules.specs.Layout.{row_at, rows_of}
use Rattle.rules.specs.Tables.{all_tables, processes_layout}
use Rattle.soundness.specs.SoundTables.{SoundTables}
use Rattle.requests.specs.KnownRecord.{KnownRecord}
use Rattle.requests.specs.declared.Named.{Named}
use Rattle.verdict.specs.Verdict.{verdict_of}
use Rattle.verdict.specs.Verdict.{Accepted}
use Rattle.give_up_steps.specs.Terms.{terms_valid}
use Rattle.give_up_steps.specs.StepTests.{later_tests}
use Rattle.later_steps.specs.declared.Turn.{Turn}

-- The process that a step names, in its row.
pub record KnownProcess (processes : List ℤ) (t : Turn) : Type 0 where
  pub row_within : t.at < length (rows_of processes_layout processes)
  pub row_is : row_of_process t.process ≡ row_at processes_layout processes t.at
  pub found : find process_key (key_of t.terms.process t.terms.id) (rows_of processes_layout processes) ≡ some (row_of_process t.process)

-- A later step past tests 1, 2, 19, 3 and 18.
pub record LaterReady (records positions processes : List ℤ) (t : Turn) : Type 0 where
  pub sound : SoundTables (all_tables records positions processes)
  pub later : is_opening t.step ≡ false
  pub figures : terms_valid t.terms ≡ true
  pub known : KnownProcess processes t
  pub turn : (has_figures t.terms.suffix t.terms.giving t.terms.taking t.terms.series (row_of_process t.process) && has_turn t.step (row_of_process t.process)) ≡ true

-- And past 5 to 8.
pub record RecordReady (records positions processes : List ℤ) (t : Turn) (named : Named) : Type 0 where
  pub ready : LaterReady records positions processes t
  pub record-known : KnownRecord records t.terms.id t.terms.suffix named
  pub passed : verdict_of (first_refusal (later_tests named.record t.terms.giving t.terms.series)) ≡ Accepted
