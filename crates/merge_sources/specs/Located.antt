-- What a merge keeps of each source once it has looked them up: its row number, and the greatest suffix of its id.
use Rattle.std.specs.Prelude.{ℕ, ◌+◌, ◌*◌, ◌≤◌, ◌≡◌, List, ℤ, pos, get_or, length}
use Rattle.std.proofs.Math.Option.{some}
use Rattle.rules.specs.Keyed.{greatest}
use Rattle.rules.specs.Rows.{record_key}
use Rattle.rules.specs.Layout.{rows_of}
use Rattle.rules.specs.Tables.{records_layout}
use Rattle.lookup.specs.Lookup.{found_in}
use Rattle.lookup.specs.Found.{Row}
use Rattle.merge_sources.specs.Pairs.{pair_at}
use Rattle.merge_sources.specs.declared.Source.{Source}

-- What is kept of the source at a place.
abbrev pub kept_at : List Source → ℕ → Source
kept_at sources i = get_or sources i (record { row = 0; suffix = 0 })

-- There is a row number for each pair: that of the pair's record.
unfoldable pub RowsKnown : List ℤ → List ℤ → List Source → Type 0
RowsKnown records pairs sources =
    (length pairs ≤ 2 * length sources)
    × ((i : ℕ) → 2 * i + 2 ≤ length pairs → found_in records_layout (pair_at pairs i) records ≡ Row (kept_at sources i).row)

-- There is a suffix for each pair: the greatest of the pair's id.
unfoldable pub SuffixesKnown : List ℤ → List ℤ → List Source → Type 0
SuffixesKnown records pairs sources =
    (length pairs ≤ 2 * length sources)
    × ((i : ℕ) → 2 * i + 2 ≤ length pairs → greatest record_key (pair_at pairs i).major (rows_of records_layout records) ≡ some (pos (kept_at sources i).suffix))
