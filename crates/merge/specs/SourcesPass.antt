-- A merge whose sources pass tests 6 to 10.
use Rattle.std.specs.Prelude.{◌≡◌, false, [], map, List, ℤ}
use Rattle.rules.specs.NamedRecord.{is_elsewhere, is_not_adjustable}
use Rattle.rules.specs.Refusal.{any_of}
use Rattle.rules.specs.Merge.{pairs_of, closes, side_differs, first_of}
use Rattle.merge_sources.specs.Sources.{source_records}
use Rattle.merge_sources.specs.Pairs.{repeats_from}

pub record SourcesPass (records : List ℤ) (account series : ℤ) (pairs : List ℤ) : Type 0 where
  pub none-elsewhere : any_of (map (is_elsewhere account series) (source_records records pairs)) ≡ false
  pub all-adjustable : any_of (map is_not_adjustable (source_records records pairs)) ≡ false
  pub none-to-close : any_of (map closes (source_records records pairs)) ≡ false
  pub none-repeated : any_of (repeats_from [] (pairs_of pairs)) ≡ false
  pub one-side : any_of (map (side_differs (first_of (source_records records pairs))) (source_records records pairs)) ≡ false
