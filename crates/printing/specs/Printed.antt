-- The texts that are printed, as bytes. 10 ends a line, 32 is a blank, 124 a bar.
use Rattle.std.specs.Prelude.{ℕ, ℤ, List, [], ◌∷◌, ◌++◌}
use Rattle.std.specs.Fmt.{signed_decimal}
use Rattle.std.specs.List.{flat_map}

-- A line.
abbrev pub line_text : List ℕ → List ℕ
line_text bytes = bytes ++ 10 ∷ []

-- A name, a number, and the end of the line.
abbrev pub value_text : List ℕ → ℤ → List ℕ
value_text name z = name ++ line_text (signed_decimal z)

-- A bar, a blank, the number, a blank.
abbrev pub cell_text : ℤ → List ℕ
cell_text z = 124 ∷ 32 ∷ signed_decimal z ++ 32 ∷ []

abbrev pub barred_text : List ℤ → List ℕ
barred_text zs = flat_map cell_text zs

-- The cells, a bar, and the end of the line.
abbrev pub cells_text : List ℤ → List ℕ
cells_text zs = barred_text zs ++ 124 ∷ 10 ∷ []
