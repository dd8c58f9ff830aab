-- The sources of a merge as the code sees them, and what it answers about a list of sources.
use Rattle.std.specs.Prelude.{◌≡◌, ℕ, Bool, cond, not, List, [], ◌∷◌, map, ℤ, pos, Option, Some, None}
use Rattle.rules.specs.Figures.{merge_kind}
use Rattle.rules.specs.Keyed.{Key, find, greatest}
use Rattle.rules.specs.Rows.{key_of, record_key, inverse_record}
use Rattle.rules.specs.NamedRecord.{the_record, next_suffix}
use Rattle.rules.specs.Refusal.{any_of, first_place}
use Rattle.rules.specs.Layout.{rows_of}
use Rattle.rules.specs.Tables.{records_layout}
use Rattle.rules.specs.Merge.{Source, pairs_of, is_missing, records_of}
use Rattle.rules.specs.declared.Record.{Record}

-- The named pairs with what the records table has of them.
unfoldable pub sources_at : List Record → List Key → List Source
sources_at rows [] = []
sources_at rows (k ∷ rest) =
    record { pair = k; found = find record_key (key_of k.major k.minor) rows; greatest = greatest record_key k.major rows } ∷ sources_at rows rest

unfoldable pub sources_in : List ℤ → List ℤ → List Source
sources_in cells pairs = sources_at (rows_of records_layout cells) (pairs_of pairs)

-- The place of the first source that fails a test, from 0; or that none does.
pub data Place : Type 0 where
  At : ℕ → Place
  Nowhere : Place

-- What the code's answer says.
abbrev pub told : Option ℕ → Place
told (Some place) = At place
told None = Nowhere

-- The first place where a test fails, or nowhere.
unfoldable pub place_of : List Bool → Place
place_of fails = cond (any_of fails) (At (first_place fails)) Nowhere

-- That a test of the code, by what is known of each answer, is this test.
abbrev pub IsTest : (Record → Bool → Type 0) → (Record → Bool) → Type 0
IsTest answers test = (r : Record) (b : Bool) → answers r b → b ≡ test r

-- The record of a pair, and the inverse that it gets in a merge into a new id: "an inverse row of type 901 with its id's next suffix, parent the source, into = the
-- new id".
abbrev pub record_named : List ℤ → Key → Record
record_named cells k = the_record (find record_key k (rows_of records_layout cells))

abbrev pub inverse_named : (today : ℤ) → List ℤ → Key → ℤ → Record
inverse_named today cells k into =
    inverse_record today (record_named cells k) (next_suffix (greatest record_key k.major (rows_of records_layout cells))) merge_kind (pos 0) (pos 0) into

-- No source is missing.
abbrev pub all_found : List ℤ → List ℤ → Bool
all_found cells pairs = not (any_of (map is_missing (sources_in cells pairs)))

abbrev pub source_records : List ℤ → List ℤ → List Record
source_records cells pairs = records_of (sources_in cells pairs)
