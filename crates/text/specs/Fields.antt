-- Document 02, K5: "fields parted by tabs, ended by a newline".
use Rattle.std.specs.Prelude.{ℕ, List, [], ◌∷◌, ◌++◌, ℤ}
use Rattle.text.specs.Decimal.{number_text}

abbrev pub tab : ℕ
tab = 9

abbrev pub newline : ℕ
newline = 10

-- Fields that follow another one, each after its tab.
unfoldable pub fields_text : List ℤ → List ℕ
fields_text [] = []
fields_text (z ∷ rest) = tab ∷ (number_text z ++ fields_text rest)
