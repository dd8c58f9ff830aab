-- What is kept of a merge's sources, one after the other: known of all once every source has its own. A known row is a row of the table, which has the record of its
-- pair, and fits 16 bits. By the laws of lookup and of stores into a list. Assumes nothing.
use Prim.Native.Nat.{ℕ, ◌+◌, ◌*◌, ◌/◌, ◌≤◌, ◌<◌}
use native.Mathlib.Omega.{arith}
use mathlib.Core.Path.{◌≡◌, sym, subst}
use mathlib.Core.Bool.{true}
use mathlib.Core.List.{List}
use mathlib.Core.Option.{some}
use borrow.Author.Count.{below_none, below_more}
use lib.IntN.{ℤ, pos}
use lib.ListN.{length, set}
use lib.Seq.{get_or-set_same, get_or-set_other}
use Rattle.rules.specs.Keyed.{find, greatest}
use Rattle.rules.specs.Rows.{record_key}
use Rattle.rules.specs.Layout.{rows_of, row_at}
use Rattle.rules.specs.Tables.{records_layout, sound_record_rows}
use Rattle.cells.proofs.Count.{room_most}
use Rattle.cells.proofs.SoundCells.{records-known}
use Rattle.lookup.specs.Lookup.{found_in}
use Rattle.lookup.specs.Found.{Row}
use Rattle.lookup.proofs.TableLookup.{records-first, table-found}
use Rattle.merge_sources.specs.Pairs.{pair_at}
use Rattle.merge_sources.specs.Located.{kept_at, RowsKnown, SuffixesKnown}
use Rattle.merge_sources.specs.declared.Source.{Source}

before : (i n : ℕ) → i < n → i ≡ n → ⊥
before i n lt e = omega arith

-- Something is known of what is kept at each of the first so many places.
module _ (Known : ℕ → Source → Type 0) where
  abbrev pub KnownTo : List Source → ℕ → Type 0
  KnownTo kept n = (i : ℕ) → i < n → Known i (kept_at kept i)

  pub known-none : (kept : List Source) → KnownTo kept 0
  known-none kept = below_none (λ (i : ℕ). Known i (kept_at kept i))

  pub known_next : (kept : List Source) (n : ℕ) (one : Source) → n < length kept → KnownTo kept n → Known n one → KnownTo (set kept n one) (n + 1)
  known_next kept n one h known here =
      below_more (λ (i : ℕ). Known i (kept_at (set kept n one) i)) n
      (λ i lt. subst (Known i) (sym (get_or-set_other kept n i one (record { row = 0; suffix = 0 }) (before i n lt))) (known i lt))
      (subst (Known n) (sym (get_or-set_same kept n one (record { row = 0; suffix = 0 }) h)) here)

module _ (cells pairs : List ℤ) where
  -- The row of the pair at a place, and the greatest suffix of its id.
  abbrev pub RowOfPair : ℕ → ℕ → Type 0
  RowOfPair i row = found_in records_layout (pair_at pairs i) cells ≡ Row row

  abbrev pub SuffixOfPair : ℕ → ℕ → Type 0
  SuffixOfPair i suffix = greatest record_key (pair_at pairs i).major (rows_of records_layout cells) ≡ some (pos suffix)

  abbrev pub OfPair : ℕ → Source → Type 0
  OfPair i source = RowOfPair i source.row × SuffixOfPair i source.suffix

  pub sources-known : (kept : List Source) (n : ℕ) → length pairs ≤ 2 * length kept → length pairs / 2 ≤ n → KnownTo OfPair kept n → RowsKnown cells pairs kept × SuffixesKnown cells pairs kept
  unfolding RowsKnown SuffixesKnown
  sources-known kept n room all known = ((room, λ i h. (known i (omega arith)).0), (room, λ i h. (known i (omega arith)).1))

  -- A row that was found is a row of the table, with the record of its pair.
  module _ (place row : ℕ) (e : RowOfPair place row) where
    pub row_within : row < length (rows_of records_layout cells)
    row_within = (table-found records_layout record_key records-first cells (pair_at pairs place) row e).0

    pub row-record : find record_key (pair_at pairs place) (rows_of records_layout cells) ≡ some (row_at records_layout cells row)
    row-record = (table-found records_layout record_key records-first cells (pair_at pairs place) row e).1

    pub row_small : sound_record_rows cells ≡ true → row < 65536
    row_small sound = omega (arith, row_within, (records-known cells sound).rows_fit, room_most records_layout cells)

  -- Where the rows are known, and the suffixes.
  module _ (kept : List Source) (place : ℕ) (h : 2 * place + 2 ≤ length pairs) where
    pub row_kept : RowsKnown cells pairs kept → (place < length kept) × RowOfPair place (kept_at kept place).row
    unfolding RowsKnown
    row_kept known = (omega (arith, known.0), known.1 place h)

    pub suffix-kept : SuffixesKnown cells pairs kept → (place < length kept) × SuffixOfPair place (kept_at kept place).suffix
    unfolding SuffixesKnown
    suffix-kept known = (omega (arith, known.0), known.1 place h)
