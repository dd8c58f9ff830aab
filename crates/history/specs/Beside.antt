-- An answer beside other tables than those that a call is lent. A call that is not lent a table promises its answer beside one without rows, or without cells; that this is the answer beside any is said with
-- these words.
use Rattle.std.specs.Prelude.{List, ℤ}
use Rattle.rules.specs.Tables.{Tables, all_tables, with_processes}
use Rattle.rules.specs.Handle.{Answer}

-- The answer on records and positions, with this process table beside them.
abbrev pub with_answer : (processes : List ℤ) → Answer → Answer
with_answer processes a = record { reply = a.reply; output = a.output; tables = with_processes processes a.tables }

-- The answer on the records alone, with the positions and processes of these tables beside them.
abbrev pub beside_others : Tables → Answer → Answer
beside_others t a = record { reply = a.reply; output = a.output; tables = all_tables a.tables.records t.positions t.processes }
