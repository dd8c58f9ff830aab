-- A text and the tables that it leads to, texts whose third line is bad or refused, a batch that stops at its second trade, and a buffer.
use Rattle.std.specs.Prelude.{ℕ, List, [], ◌∷◌, ◌++◌, ℤ, pos, replicate}
use Rattle.rules.specs.Line.{line_of}
use Rattle.rules.specs.Tables.{Tables, all_tables}
use Rattle.history.specs.Sample.{blank, trade1, trade2, trade3, day1, row, position}

-- Trade 1 and a new day, and the tables afterwards, in as much room as `other_cells` has.
abbrev pub trade_and_day : List ℕ
trade_and_day = line_of trade1 ++ line_of day1

abbrev pub traded_by_day1 : Tables
traded_by_day1 =
    all_tables
    (pos 1 ∷ pos 1 ∷ row (pos 1) (pos 0) (pos 0) (pos 0) (pos 0) (pos 10) (pos 5) (pos 1) (pos 100) (pos 7) (pos 100) (pos 0) (pos 0) (pos 0) ++ replicate 294 (pos 0))
    (pos 1 ∷ position (pos 10) (pos 5) (pos 100) (pos 0) (pos 0) (pos 100) (pos 700) ++ replicate 56 (pos 0))
    (blank 18)

-- The letter T alone, and its newline.
abbrev pub letter_alone : List ℕ
letter_alone = 84 ∷ 10 ∷ []

-- Trades 1 and 2, the bad line, and trade 3, which is not read.
abbrev pub third_bad : List ℕ
third_bad = line_of trade1 ++ (line_of trade2 ++ (letter_alone ++ line_of trade3))

-- Trade 1 again, which is refused.
abbrev pub third_refused : List ℕ
third_refused = line_of trade1 ++ (line_of trade2 ++ (line_of trade1 ++ line_of trade3))

-- Trade 1 twice.
abbrev pub same_twice : List ℤ
same_twice = pos 1 ∷ pos 10 ∷ pos 5 ∷ pos 1 ∷ pos 100 ∷ pos 7 ∷ pos 1 ∷ pos 10 ∷ pos 5 ∷ pos 1 ∷ pos 100 ∷ pos 7 ∷ []

-- Forty bytes.
abbrev pub buffer : List ℕ
buffer = replicate 40 7
