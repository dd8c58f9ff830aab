-- The rows of the process table (document 02, K3): their keys, their stages, their ranges, and how a step makes one row from another.
use Rattle.std.specs.Prelude.{Bool, ◌&&◌, ◌||◌, ℤ, pos}
use Rattle.std.proofs.Math.Option.{Option, none, some}
use Rattle.integers.specs.Order.{eq_z, in_range}
use Rattle.rules.specs.Figures.{valid_id, valid_suffix, valid_account, valid_series}
use Rattle.rules.specs.Keyed.{Key}
use Rattle.rules.specs.Rows.{key_of}
use Rattle.rules.specs.declared.Process.{Process}
use Rattle.rules.specs.declared.ProcessRow.{ProcessRow}
use Rattle.rules.specs.declared.Stage.{Stage}
use Rattle.rules.specs.declared.Stage.TheVariants.{Pending, Claimed, Refused, Cancelled, Done}

-- A row is found by its process id and the transaction id that it names. The process ids alone rise, so that no two rows have the same: a step that names another
-- transaction than the row's finds none, and is refused 18 either way, as "an unknown process" or for "figures unlike the row's".
abbrev pub process_key : ProcessRow → Key
process_key p = key_of p.process p.id

-- "process ids ... strictly rising"
abbrev pub process_number : ProcessRow → Key
process_number p = key_of p.process (pos 0)

-- "a stage: pending (6), claimed (9), refused (10), cancelled (12) or done (house code 0)"
abbrev pub pending : ℤ
pending = pos 6

abbrev pub claimed : ℤ
claimed = pos 9

abbrev pub refused : ℤ
refused = pos 10

abbrev pub cancelled : ℤ
cancelled = pos 12

abbrev pub done : ℤ
done = pos 0

unfoldable pub stage_number : Stage → ℤ
stage_number Pending = pending
stage_number Claimed = claimed
stage_number Refused = refused
stage_number Cancelled = cancelled
stage_number Done = done

unfoldable pub valid_stage : ℤ → Bool
valid_stage s = eq_z s pending || eq_z s claimed || eq_z s refused || eq_z s cancelled || eq_z s done

-- "approvals 0 or 1"
unfoldable pub valid_approval : ℤ → Bool
valid_approval a = in_range (pos 0) (pos 1) a

-- "process ids (ranged as transaction ids) ..., figures in range, approvals 0 or 1, a stage below", in the order of the cells. Equal accounts are not in the sentence.
unfoldable pub sound_process : ProcessRow → Bool
sound_process p =
    valid_id p.process
    && valid_id p.id
    && valid_suffix p.suffix
    && valid_account p.giving
    && valid_account p.taking
    && valid_series p.series
    && valid_approval p.giver
    && valid_approval p.taker
    && valid_stage p.stage

-- The row of a process by value: its stage's number.
abbrev pub row_of_process : Process → ProcessRow
row_of_process p = record {
  process = p.process;
  id = p.id;
  suffix = p.suffix;
  giving = p.giving;
  taking = p.taking;
  series = p.series;
  giver = p.giver;
  taker = p.taker;
  stage = stage_number p.stage;
}

-- A process with other approvals and another stage, and nothing else changed.
abbrev pub with_progress : ProcessRow → (giver taker stage : ℤ) → ProcessRow
with_progress p giver taker stage = record {
  process = p.process;
  id = p.id;
  suffix = p.suffix;
  giving = p.giving;
  taking = p.taking;
  series = p.series;
  giver = giver;
  taker = taker;
  stage = stage;
}

abbrev pub with_stage : ℤ → ProcessRow → ProcessRow
with_stage stage p = with_progress p p.giver p.taker stage

-- A process that was opened: pending, with no approval.
unfoldable pub opened_process : (process id suffix giving taking series : ℤ) → ProcessRow
opened_process process id suffix giving taking series = record {
  process = process;
  id = id;
  suffix = suffix;
  giving = giving;
  taking = taking;
  series = series;
  giver = pos 0;
  taker = pos 0;
  stage = pending;
}

-- The process that a rule speaks of once refusal 18 does not apply; where there is none the value is of no account.
unfoldable pub the_process : Option ProcessRow → ProcessRow
the_process none = opened_process (pos 0) (pos 0) (pos 0) (pos 0) (pos 0) (pos 0)
the_process (some p) = p
