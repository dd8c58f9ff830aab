-- A merge that passes tests 3 to 5: what is known of the tables, of the request, and of what was kept of its sources.
use Rattle.std.specs.Prelude.{◌≡◌, true, List, ℤ}
use Rattle.std.proofs.Math.Option.{none}
use Rattle.rules.specs.Keyed.{greatest}
use Rattle.rules.specs.Rows.{record_key}
use Rattle.rules.specs.Layout.{rows_of}
use Rattle.rules.specs.Tables.{records_layout, sound_record_rows, sound_positions}
use Rattle.rules.specs.Merge.{merge_figures}
use Rattle.requests.specs.KnownPosition.{KnownPosition}
use Rattle.requests.specs.declared.Held.{Held}
use Rattle.merge_sources.specs.Sources.{all_found}
use Rattle.merge_sources.specs.Located.{RowsKnown, SuffixesKnown}
use Rattle.merge_sources.specs.declared.Source.{Source}

pub record SourcesFound (records positions : List ℤ) (held : Held) (id account series : ℤ) (pairs : List ℤ) (sources : List Source) : Type 0 where
  pub records-sound : sound_record_rows records ≡ true
  pub positions-sound : sound_positions positions ≡ true
  pub position-known : KnownPosition positions account series held
  pub rows-known : RowsKnown records pairs sources
  pub suffixes-known : SuffixesKnown records pairs sources
  pub figures-valid : merge_figures id account series pairs ≡ true
  pub id-new : greatest record_key id (rows_of records_layout records) ≡ none
  pub all-there : all_found records pairs ≡ true
