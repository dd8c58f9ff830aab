-- What a call that is lent an output leaves: the reply, every cell of the output, and the tables.
use Rattle.std.specs.Prelude.{List, ◌++◌, ℤ, length, drop}
use Rattle.rules.specs.Tables.{Tables, tables_of}
use Rattle.rules.specs.Handle.{Answer}
use Rattle.rules.specs.declared.Reply.{Reply}

pub record Left : Type 0 where
  pub reply : Reply
  pub output : List ℤ
  pub tables : Tables

abbrev pub left : Reply → (output records positions : List ℤ) → Left
left reply output records positions = record { reply = reply; output = output; tables = tables_of records positions }

-- What is written stands from the first cell on, and the cells past it stay as they were.
unfoldable pub written_to : List ℤ → List ℤ → List ℤ
written_to cells written = written ++ drop (length written) cells

abbrev pub left_by : List ℤ → Answer → Left
left_by cells a = record { reply = a.reply; output = written_to cells a.output; tables = a.tables }
