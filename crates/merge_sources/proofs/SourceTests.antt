-- The number of the status test, 7 or 17, is that of the source at the place that it gives. By induction on the records. Assumes nothing.
use Prim.Native.Nat.{ℕ, suc, ◌/◌, ◌≤◌, ◌<◌}
use native.Mathlib.Omega.{arith}
use mathlib.Core.Path.{◌≡◌, refl, sym, ◌∙◌, ap}
use mathlib.Core.Bool.{Bool, true, false, cond, ◌||◌}
use mathlib.Core.List.{List, [], ◌∷◌, map}
use mathlib.Core.Option.{some}
use lib.IntN.{ℤ}
use lib.ListN.{length, get_or, length-map}
use Rattle.std.specs.Prelude.{Some, None}
use Rattle.rules.specs.Keyed.{find}
use Rattle.rules.specs.Rows.{record_key}
use Rattle.rules.specs.Layout.{rows_of}
use Rattle.rules.specs.Tables.{records_layout}
use Rattle.rules.specs.NamedRecord.{no_record, is_not_adjustable, status_refusal}
use Rattle.rules.specs.Refusal.{any_of, first_place}
use Rattle.rules.specs.Merge.{first_status_refusal}
use Rattle.rules.specs.declared.Record.{Record}
use Rattle.keys.proofs.Split.{clash}
use Rattle.merge_sources.specs.Sources.{At, told, place_of, IsTest, source_records}
use Rattle.merge_sources.specs.Pairs.{pair_at}
use Rattle.merge_sources.proofs.Places.{place-found, place-tells}
use Rattle.merge_sources.proofs.SourceList.{found-record, record-count, record-test}

first-status : (rs : List Record) → any_of (map is_not_adjustable rs) ≡ true → first_status_refusal rs ≡ status_refusal (get_or rs (first_place (map is_not_adjustable rs)) no_record).status
unfolding any_of first_place first_status_refusal
first-status [] e = clash e refl
first-status (r ∷ rest) e = go (is_not_adjustable r) (first-status rest) e
  where
    go : (b : Bool)
        → (any_of (map is_not_adjustable rest) ≡ true → first_status_refusal rest ≡ status_refusal (get_or rest (first_place (map is_not_adjustable rest)) no_record).status)
        → (b || any_of (map is_not_adjustable rest)) ≡ true
        → cond b (status_refusal r.status) (first_status_refusal rest) ≡ status_refusal (get_or (r ∷ rest) (cond b 0 (suc (first_place (map is_not_adjustable rest)))) no_record).status
    go true later k = refl
    go false later k = later k

-- Of the source at the place that is answered.
pub status-at : (rs : List Record) (i : ℕ) → place_of (map is_not_adjustable rs) ≡ At i → first_status_refusal rs ≡ status_refusal (get_or rs i no_record).status
status-at rs i e =
    let t : (any_of (map is_not_adjustable rs) ≡ true) × (first_place (map is_not_adjustable rs) ≡ i) = place-tells (map is_not_adjustable rs) i e in
    first-status rs t.0 ∙ ap (λ (n : ℕ). status_refusal (get_or rs n no_record).status) t.1

-- ---- a test of the code on one source after the other

module _ (cells pairs : List ℤ) (answers : Record → Bool → Type 0) where
  -- What the test answers of the record of the source at a place.
  abbrev pub Answered : Bool → ℕ → Type 0
  Answered b i = (r : Record) × (find record_key (pair_at pairs i) (rows_of records_layout cells) ≡ some r) × answers r b

  module _ (test : Record → Bool) (is : IsTest answers test) where
    abbrev fails : List Bool
    fails = map test (source_records cells pairs)

    many : length pairs / 2 ≡ length fails
    many = sym (length-map (source_records cells pairs) test ∙ record-count cells pairs)

    answered-at : (i : ℕ) → i < length pairs / 2 → (b : Bool) → Answered b i → get_or fails i false ≡ b
    answered-at i h b (r, e, a) =
        record-test cells pairs i h test ∙ ap test (found-record (find record_key (pair_at pairs i) (rows_of records_layout cells)) r e) ∙ sym (is r b a)

    pub fails-first : (i : ℕ) → i < length pairs / 2 → ((k : ℕ) → k < i → Answered false k) → Answered true i → told (Some i) ≡ place_of fails
    fails-first i h before here =
        place-found fails (λ (k : ℕ). get_or fails k false) (length pairs / 2) (Some i) many (λ k lt. refl)
        (omega arith, h, answered-at i h true here, λ k low lt. answered-at k (omega arith) false (before k lt))

    pub fails-nowhere : (i : ℕ) → length pairs / 2 ≤ i → ((k : ℕ) → k < i → Answered false k) → told None ≡ place_of fails
    fails-nowhere i h before =
        place-found fails (λ (k : ℕ). get_or fails k false) (length pairs / 2) None many (λ k lt. refl) (λ k low lt. answered-at k lt false (before k (omega arith)))
