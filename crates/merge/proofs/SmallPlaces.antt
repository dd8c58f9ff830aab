-- The place of a source that fails a test is one of the list's, and below 1,000, for there are at most so many sources. By the number of pairs. Assumes nothing.
use Prim.Native.Nat.{ℕ, ◌/◌, ◌≤◌, ◌<◌}
use native.Mathlib.Omega.{arith}
use mathlib.Core.Path.{◌≡◌, ◌∙◌}
use mathlib.Core.Bool.{Bool}
use mathlib.Core.List.{List, [], map}
use lib.IntN.{ℤ}
use lib.ListN.{length, length-map}
use Rattle.rules.specs.Merge.{Source, pairs_of}
use Rattle.rules.specs.declared.Record.{Record}
use Rattle.merge_sources.specs.Sources.{At, sources_in, place_of, source_records}
use Rattle.merge_sources.specs.Pairs.{repeats_from}
use Rattle.merge_sources.proofs.Earlier.{repeat-count}
use Rattle.merge_sources.proofs.Places.{place-within}
use Rattle.merge_sources.proofs.SourceList.{source-count, record-count}

module _ (cells pairs : List ℤ) (few : length pairs ≤ 2000) (i : ℕ) where
  small : (fails : List Bool) → length fails ≡ length pairs / 2 → place_of fails ≡ At i → i < 1000
  small fails count e = let h : i < length fails = place-within fails i e in omega arith

  pub source-place : (test : Source → Bool) → place_of (map test (sources_in cells pairs)) ≡ At i → i < 1000
  source-place test e = small (map test (sources_in cells pairs)) (length-map (sources_in cells pairs) test ∙ source-count cells pairs) e

  pub record-within : (test : Record → Bool) → place_of (map test (source_records cells pairs)) ≡ At i → i < length pairs / 2
  record-within test e =
      let h : i < length (map test (source_records cells pairs)) = place-within (map test (source_records cells pairs)) i e in
      omega (arith, length-map (source_records cells pairs) test, record-count cells pairs)

  pub record-place : (test : Record → Bool) → place_of (map test (source_records cells pairs)) ≡ At i → i < 1000
  record-place test e = small (map test (source_records cells pairs)) (length-map (source_records cells pairs) test ∙ record-count cells pairs) e

  pub repeat-place : place_of (repeats_from [] (pairs_of pairs)) ≡ At i → i < 1000
  repeat-place e = small (repeats_from [] (pairs_of pairs)) (repeat-count pairs) e
