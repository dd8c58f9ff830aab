-- The records of a merge's sources in a sound table: each is sound, and every step of the two sums fits an `i64`; where the sum of quantities is at most
-- 1,000,000 the average and the residual can be taken. By the ranges of the figures. Assumes nothing.
use Prim.Native.Nat.{ℕ, ◌+◌, ◌/◌, ◌≤◌, ◌<◌}
use native.Mathlib.Omega.{arith}
use mathlib.Core.Path.{◌≡◌, sym, ◌∙◌, ap, subst}
use mathlib.Core.Bool.{true, false}
use mathlib.Core.List.{List, [], ◌∷◌, map}
use mathlib.Core.Option.{some}
use lib.IntN.{ℤ, pos, ◌+ℤ◌, ◌*ℤ◌}
use lib.ListN.{length, take, length-take}
use lib.Signed.{◌≤ℤ◌}
use mir.Syntax.{w64}
use mir.Val.{SFits}
use Rattle.integers.specs.Averageable.{Averageable}
use Rattle.integers.proofs.Linear.{zarith, abs-lin}
use Rattle.integers.proofs.Products.{sfits-of-bound, mul-sfits}
use Rattle.rules.specs.Figures.{most_quantity}
use Rattle.rules.specs.Keyed.{find}
use Rattle.rules.specs.Rows.{record_key, sound_record}
use Rattle.rules.specs.NamedRecord.{no_record, is_not_adjustable}
use Rattle.rules.specs.Refusal.{any_of, all_of}
use Rattle.rules.specs.Layout.{rows_of}
use Rattle.rules.specs.Tables.{records_layout, sound_record_rows}
use Rattle.rules.specs.Merge.{sum_of_quantities, sum_of_values}
use Rattle.rules.specs.declared.Record.{Record}
use Rattle.cells.proofs.SoundCells.{records-known}
use Rattle.keys.proofs.Lookup.{find-all}
use Rattle.keys.proofs.Clauses.{all_of-nil, all_of-intro}
use Rattle.soundness.proofs.NamedRecord.{record_of}
use Rattle.merge_sources.specs.Sources.{all_found, source_records}
use Rattle.merge_sources.specs.Pairs.{pair_at}
use Rattle.merge_sources.proofs.Each.{Each, each_at, at_each, each_take}
use Rattle.merge_sources.proofs.SourceList.{record-count, record-at, record-found, source-found}
use Rattle.merge_sources.proofs.Sums.{sum_over, quantity_of, value_of, quantities-sum, sum-next}
use Rattle.merge_sources.proofs.SumRanges.{Sized, each-sized, Priced, each-priced, quantities-range, partial-value, averageable}

all_of_each : (rs : List Record) → Each (λ (r : Record). sound_record r ≡ true) rs → all_of (map sound_record rs) ≡ true
all_of_each [] e = all_of-nil
all_of_each (r ∷ rest) e = all_of-intro (sound_record r) (map sound_record rest) e.0 (all_of_each rest e.1)

module _ (cells pairs : List ℤ) (sound : sound_record_rows cells ≡ true) (all : all_found cells pairs ≡ true) where
  abbrev rs : List Record
  rs = source_records cells pairs

  pub source_sound : (i : ℕ) → i < length pairs / 2 → sound_record (record_of (rows_of records_layout cells) (pair_at pairs i)) ≡ true
  source_sound i h =
      find-all record_key sound_record (pair_at pairs i) (rows_of records_layout cells) (record_of (rows_of records_layout cells) (pair_at pairs i))
      (records-known cells sound).rows-sound (source-found cells pairs i h all)

  each-sound : Each (λ (r : Record). sound_record r ≡ true) (source_records cells pairs)
  each-sound =
      each_at (λ (r : Record). sound_record r ≡ true) rs no_record
      (λ i h. let k : i < length pairs / 2 = omega (arith, record-count cells pairs) in ap sound_record (record-at cells pairs i k no_record) ∙ source_sound i k)

  pub sources-sound : all_of (map sound_record (source_records cells pairs)) ≡ true
  sources-sound = all_of_each rs each-sound

  -- ---- Q

  pub quantity-sum-fits : (i : ℕ) → i ≤ length pairs / 2 → length pairs ≤ 2000 → SFits w64 (sum_over quantity_of (take i (source_records cells pairs)))
  quantity-sum-fits i h few =
      let first : Each Sized (take i rs) = each_take Sized rs i (each-sized rs sources-sound) in
      sfits-of-bound (sum_over quantity_of (take i rs)) {B = 1000000000}
      (omega (arith, quantities-range (take i rs) first, length-take i rs)) (omega arith)

  -- ---- V, where every source is adjustable and Q at most 1,000,000

  module _ (free : any_of (map is_not_adjustable (source_records cells pairs)) ≡ false) where
    priced-sources : Each Priced (source_records cells pairs)
    priced-sources = each-priced rs sources-sound free

    pub source-priced : (i : ℕ) → i < length pairs / 2 → Priced (record_of (rows_of records_layout cells) (pair_at pairs i))
    source-priced i h = subst Priced (record-at cells pairs i h no_record) (at_each Priced rs no_record priced-sources i (omega (arith, record-count cells pairs)))

    pub value-fits : (r : Record) → Priced r → SFits w64 (r.quantity *ℤ r.price)
    value-fits r p =
        let one : pos 1 ≤ℤ r.quantity = p.positive in
        let most : r.quantity ≤ℤ pos most_quantity = p.small in
        mul-sfits r.quantity r.price {A = 1000000} {B = 1000000000000} (omega (zarith, abs-lin r.quantity)) p.price (omega arith)

    module _ (small : sum_of_quantities (source_records cells pairs) ≤ℤ pos most_quantity) where
      pub value-sum-fits : (i : ℕ) → SFits w64 (sum_over value_of (take i (source_records cells pairs)))
      value-sum-fits i =
          sfits-of-bound (sum_over value_of (take i rs)) {B = 1000000000000000000}
          (partial-value rs i priced-sources (subst (λ (z : ℤ). z ≤ℤ pos most_quantity) (quantities-sum rs) small)) (omega arith)

      pub sources-averageable : 0 < length pairs / 2 → Averageable (sum_of_values (source_records cells pairs)) (sum_of_quantities (source_records cells pairs))
      sources-averageable h = averageable rs priced-sources (omega (arith, record-count cells pairs)) small

-- One more source, by a figure of its record.
pub sum-one-more : (figure : Record → ℤ) (cells pairs : List ℤ) (i : ℕ) (r : Record) (sum : ℤ) → i < length pairs / 2 → find record_key (pair_at pairs i) (rows_of records_layout cells) ≡ some r →
    sum ≡ sum_over figure (take i (source_records cells pairs)) → sum +ℤ figure r ≡ sum_over figure (take (i + 1) (source_records cells pairs))
sum-one-more figure cells pairs i r sum h e so_far =
    ap (λ (z : ℤ). z +ℤ figure r) so_far
    ∙ ap (λ (x : Record). sum_over figure (take i (source_records cells pairs)) +ℤ figure x) (sym (record-found cells pairs i h r e))
    ∙ sym (sum-next figure (source_records cells pairs) i no_record (omega (arith, record-count cells pairs, h)))

-- Its value fits, where every source is adjustable.
pub source-value-fits : (cells pairs : List ℤ) → sound_record_rows cells ≡ true → all_found cells pairs ≡ true → any_of (map is_not_adjustable (source_records cells pairs)) ≡ false →
    (i : ℕ) (r : Record) → i < length pairs / 2 → find record_key (pair_at pairs i) (rows_of records_layout cells) ≡ some r → SFits w64 (r.quantity *ℤ r.price)
source-value-fits cells pairs sound all adjustable i r h e =
    value-fits cells pairs sound all adjustable r
    (subst Priced (sym (record-at cells pairs i h no_record) ∙ record-found cells pairs i h r e) (source-priced cells pairs sound all adjustable i h))
