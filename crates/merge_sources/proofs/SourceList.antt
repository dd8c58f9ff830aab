-- The sources of a merge place by place: as many as the pairs, each with what the table has of its pair; their records; and that they are the sources
-- of the rules. By induction on the pairs. Assumes nothing.
use Prim.Native.Nat.{ℕ, zero, suc, ◌/◌, ◌<◌}
use native.Mathlib.Omega.{arith}
use mathlib.Core.Path.{◌≡◌, refl, sym, ◌∙◌, ap}
use mathlib.Core.Bool.{Bool, true, false, not}
use mathlib.Core.List.{List, [], ◌∷◌, map}
use mathlib.Core.Option.{Option, none, some}
use borrow.Author.Tests.{not-true, not-false}
use lib.IntN.{ℤ}
use lib.ListN.{length, get_or, length-map}
use Rattle.rules.specs.Keyed.{Key, find, greatest, is_some}
use Rattle.rules.specs.Rows.{record_key}
use Rattle.rules.specs.NamedRecord.{no_record, the_record}
use Rattle.rules.specs.Refusal.{any_of}
use Rattle.rules.specs.Books.{Books, view_of}
use Rattle.rules.specs.Layout.{rows_of}
use Rattle.rules.specs.Tables.{tables_of, books_of, records_layout}
use Rattle.rules.specs.Merge.{Source, pairs_of, sources_of, records_of, is_missing, first_of}
use Rattle.rules.specs.declared.Record.{Record}
use Rattle.keys.proofs.Clauses.{is_some-none, is_some-some}
use Rattle.keys.proofs.Counts.{is_some-present}
use Rattle.soundness.proofs.NamedRecord.{record_of}
use Rattle.merge_sources.specs.Sources.{sources_at, sources_in, all_found, source_records}
use Rattle.merge_sources.specs.Pairs.{pair_at}
use Rattle.merge_sources.proofs.PairList.{pair-count, pair-at}
use Rattle.merge_sources.proofs.Places.{none-holds}

pub map_at : {A B : Type 0} (f : A → B) (xs : List A) (i : ℕ) (a : A) (b : B) → i < length xs → get_or (map f xs) i b ≡ f (get_or xs i a)
map_at f [] i a b h = absurd (omega arith)
map_at f (x ∷ rest) zero a b h = refl
map_at f (x ∷ rest) (suc i) a b h = map_at f rest i a b (omega arith)

-- A pair with what the table has of it.
abbrev pub source_of : List Record → Key → Source
source_of rows k = record { pair = k; found = find record_key k rows; greatest = greatest record_key k.major rows }

pub sources-map : (rows : List Record) (ks : List Key) → sources_at rows ks ≡ map (source_of rows) ks
unfolding sources_at
sources-map rows [] = refl
sources-map rows (k ∷ rest) = ap (λ (l : List Source). source_of rows k ∷ l) (sources-map rows rest)

pub records-map : (sources : List Source) → records_of sources ≡ map (λ (s : Source). the_record s.found) sources
unfolding records_of
records-map [] = refl
records-map (s ∷ rest) = ap (λ (l : List Record). the_record s.found ∷ l) (records-map rest)

-- The sources of the rules, on any books with these rows.
pub sources-of : (b : Books) (ks : List Key) → sources_of (view_of b) ks ≡ sources_at b.records ks
unfolding sources_of view_of sources_at
sources-of b [] = refl
sources-of b (k ∷ rest) = ap (λ (l : List Source). source_of b.records k ∷ l) (sources-of b rest)

pub found-record : (o : Option Record) (r : Record) → o ≡ some r → the_record o ≡ r
unfolding the_record
found-record o r e = ap the_record e

first-is : (rs : List Record) → first_of rs ≡ get_or rs 0 no_record
unfolding first_of
first-is [] = refl
first-is (r ∷ rest) = refl

module _ (cells pairs : List ℤ) where
  abbrev rows : List Record
  rows = rows_of records_layout cells

  abbrev sources : List Source
  sources = sources_in cells pairs

  pub sources-in-books : (ps : List ℤ) → sources_in cells pairs ≡ sources_of (view_of (books_of (tables_of cells ps))) (pairs_of pairs)
  unfolding sources_in books_of
  sources-in-books ps = sym (sources-of (books_of (tables_of cells ps)) (pairs_of pairs))

  as-map : sources ≡ map (source_of rows) (pairs_of pairs)
  unfolding sources_in
  as-map = sources-map rows (pairs_of pairs)

  records-as-map : source_records cells pairs ≡ map (λ (k : Key). record_of rows k) (pairs_of pairs)
  records-as-map = records-map sources ∙ ap (λ (l : List Source). map (λ (s : Source). the_record s.found) l) as-map ∙ twice (pairs_of pairs)
    where
      twice : (ks : List Key) → map (λ (s : Source). the_record s.found) (map (source_of rows) ks) ≡ map (λ (k : Key). record_of rows k) ks
      twice [] = refl
      twice (k ∷ rest) = ap (λ (l : List Record). record_of rows k ∷ l) (twice rest)

  pub source-count : length (sources_in cells pairs) ≡ length pairs / 2
  source-count = ap (λ (l : List Source). length l) as-map ∙ length-map (pairs_of pairs) (source_of rows) ∙ pair-count pairs

  pub record-count : length (source_records cells pairs) ≡ length pairs / 2
  record-count = ap (λ (l : List Record). length l) records-as-map ∙ length-map (pairs_of pairs) (λ (k : Key). record_of rows k) ∙ pair-count pairs

  -- ---- at a place

  module _ (i : ℕ) (h : i < length pairs / 2) where
    there : i < length (pairs_of pairs)
    there = omega (arith, pair-count pairs)

    pub source-at : (other : Source) → get_or (sources_in cells pairs) i other ≡ source_of rows (pair_at pairs i)
    source-at other =
        ap (λ (l : List Source). get_or l i other) as-map
        ∙ map_at (source_of rows) (pairs_of pairs) i (pair_at pairs i) other there
        ∙ ap (source_of rows) (pair-at pairs i (pair_at pairs i) h)

    pub record-at : (other : Record) → get_or (source_records cells pairs) i other ≡ record_of rows (pair_at pairs i)
    record-at other =
        ap (λ (l : List Record). get_or l i other) records-as-map
        ∙ map_at (λ (k : Key). record_of rows k) (pairs_of pairs) i (pair_at pairs i) other there
        ∙ ap (λ (k : Key). record_of rows k) (pair-at pairs i (pair_at pairs i) h)

    -- What a test says of the source, and of its record.
    pub source-test : (test : Source → Bool) → get_or (map test (sources_in cells pairs)) i false ≡ test (source_of rows (pair_at pairs i))
    source-test test =
        let other : Source = source_of rows (pair_at pairs i) in
        map_at test sources i other false (omega (arith, source-count)) ∙ ap test (source-at other)

    pub record-test : (test : Record → Bool) → get_or (map test (source_records cells pairs)) i false ≡ test (record_of rows (pair_at pairs i))
    record-test test =
        map_at test (source_records cells pairs) i no_record false (omega (arith, record-count)) ∙ ap test (record-at no_record)

    pub is-missing : find record_key (pair_at pairs i) rows ≡ none → get_or (map is_missing (sources_in cells pairs)) i false ≡ true
    unfolding is_missing
    is-missing e = source-test is_missing ∙ ap (λ (o : Option Record). not (is_some o)) e ∙ ap not (is_some-none Record)

    pub isn't-missing : (r : Record) → find record_key (pair_at pairs i) rows ≡ some r → get_or (map is_missing (sources_in cells pairs)) i false ≡ false
    unfolding is_missing
    isn't-missing r e = source-test is_missing ∙ ap (λ (o : Option Record). not (is_some o)) e ∙ ap not (is_some-some r)

    -- Where none is missing, the record stands in the table.
    pub source-found : all_found cells pairs ≡ true → find record_key (pair_at pairs i) rows ≡ some (record_of rows (pair_at pairs i))
    unfolding is_missing
    source-found all =
        let here : not (is_some (find record_key (pair_at pairs i) rows)) ≡ false =
        sym (source-test is_missing) ∙ none-holds (map is_missing sources) i (omega (arith, source-count, length-map sources is_missing)) (not-true (any_of (map is_missing sources)) all) in
        let w : (r : Record) × (find record_key (pair_at pairs i) rows ≡ some r) =
        is_some-present (find record_key (pair_at pairs i) rows) (not-false (is_some (find record_key (pair_at pairs i) rows)) here) in
        w.1 ∙ ap some (sym (found-record (find record_key (pair_at pairs i) rows) w.0 w.1))

    -- The record that was found.
    pub record-found : (r : Record) → find record_key (pair_at pairs i) rows ≡ some r → get_or (source_records cells pairs) i no_record ≡ r
    record-found r e = record-at no_record ∙ found-record (find record_key (pair_at pairs i) rows) r e

  pub first-at : first_of (source_records cells pairs) ≡ get_or (source_records cells pairs) 0 no_record
  first-at = first-is (source_records cells pairs)
