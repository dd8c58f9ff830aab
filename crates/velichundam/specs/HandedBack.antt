-- What a host gets back from a call: the answer as four numbers, the cells of the lent tables, and those of an output where one is lent.
use Rattle.std.specs.Prelude.{ℕ, List, ℤ}
use Rattle.rules.specs.Reply.{Code, code_of}
use Rattle.rules.specs.Tables.{Tables, all_tables, tables_of}
use Rattle.rules.specs.Handle.{Answer}
use Rattle.rules.specs.Left.{Left}
use Rattle.rules.specs.Writing.{TextLeft}

pub record HandedBack : Type 0 where
  pub code : Code
  pub tables : Tables

-- What the rules say of it: the answer coded by document 01's numbers and values, and the tables as they are.
abbrev pub in_numbers : Answer → HandedBack
in_numbers a = record { code = code_of a.reply; tables = a.tables }

-- Four numbers as one code.
abbrev pub code_from : (kind first second third : ℤ) → Code
code_from kind first second third = record { kind = kind; first = first; second = second; third = third }

-- What a call leaves: the four numbers that it returns, and the cells at its exit.
abbrev pub handed_back : (kind first second third : ℤ) → (records positions : List ℤ) → HandedBack
handed_back kind first second third records positions = record { code = code_from kind first second third; tables = tables_of records positions }

-- The same of a call that is lent the process table too.
abbrev pub handed_back_all : (kind first second third : ℤ) → (records positions processes : List ℤ) → HandedBack
handed_back_all kind first second third records positions processes = record { code = code_from kind first second third; tables = all_tables records positions processes }

-- The same of a call that is lent an output.
pub record HandedBackWith : Type 0 where
  pub code : Code
  pub output : List ℤ
  pub tables : Tables

abbrev pub in_numbers_with : Left → HandedBackWith
in_numbers_with l = record { code = code_of l.reply; output = l.output; tables = l.tables }

abbrev pub handed_back_with : (kind first second third : ℤ) → (output records positions : List ℤ) → HandedBackWith
handed_back_with kind first second third output records positions =
    record { code = code_from kind first second third; output = output; tables = tables_of records positions }

-- A writing call: the answer, and every byte of the lent buffer.
pub record HandedBackText : Type 0 where
  pub code : Code
  pub text : List ℕ

abbrev pub in_numbers_text : TextLeft → HandedBackText
in_numbers_text l = record { code = code_of l.reply; text = l.text }

abbrev pub handed_back_text : (kind first second third : ℤ) → List ℕ → HandedBackText
handed_back_text kind first second third text = record { code = code_from kind first second third; text = text }
