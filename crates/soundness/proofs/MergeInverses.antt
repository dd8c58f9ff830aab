-- The inverse rows of an accepted merge on sound books. A source's row has its id's next suffix and one more for each earlier source of the same id:
-- so the rows are new, they differ, and their suffixes are above their sources'. Each is sound. By induction on the pairs. Assumes nothing.
use mathlib.Core.Path.{◌≡◌, refl, sym, ◌∙◌, ap, subst}
use mathlib.Core.Bool.{true, false, cond, not}
use mathlib.Core.List.{List, [], ◌∷◌, map}
use mathlib.Core.Logic.{◌⊎◌, inl, inr}
use mathlib.Core.Option.{none}
use Prim.Native.Nat.{suc}
use lib.IntN.{ℤ, pos, ◌+ℤ◌}
use lib.ListN.{length}
use lib.Signed.{◌≤ℤ◌, ◌<ℤ◌, ≤ℤ_refl}
use Rattle.integers.specs.Order.{eq_z}
use Rattle.integers.proofs.Parts.{eq_z-refl}
use Rattle.integers.proofs.Linear.{zarith, +-lin}
use Rattle.rules.specs.Figures.{merge_kind}
use Rattle.rules.specs.Keyed.{Key, greatest, same}
use Rattle.rules.specs.Rows.{key_of, record_key, inverse_record, sound_record, valid_kind, valid_into}
use Rattle.rules.specs.Refusal.{all_of, any_of}
use Rattle.rules.specs.Books.{Books, view_of}
use Rattle.rules.specs.Plan.{suffix_is_above}
use Rattle.rules.specs.Merge.{sources_of, times_in, merge_inverses}
use Rattle.rules.specs.Tables.{day_within}
use Rattle.rules.specs.declared.Record.{Record}
use Rattle.keys.proofs.Split.{split, none-some}
use Rattle.keys.proofs.KeyOrder.{same-ne}
use Rattle.keys.proofs.Clauses.{all_of-nil, all_of-intro}
use Rattle.keys.proofs.Greatest.{greatest-none}
use Rattle.keys.proofs.Folds.{Only, only-intro}
use Rattle.keys.proofs.Counts.{distinct, distinct_nil, distinct-intro}
use Rattle.soundness.proofs.Accepted.{any_of-head, any_of-tail}
use Rattle.soundness.proofs.SoundRows.{suffix-small, nothing-booked, inverse-sound}
use Rattle.soundness.proofs.NamedRecord.{record_of, next_of}
use Rattle.soundness.proofs.LaterRows.{at_least_of, at_least, later-weaker, before-differs}
use Rattle.soundness.proofs.Days.{new-within}
use Rattle.soundness.proofs.MergeSources.{AllNamed}

-- ---- how often an id stood before

times_more : (e : ℤ) (earlier : List ℤ) (id : ℤ) → times_in earlier id ≤ℤ times_in (e ∷ earlier) id
unfolding times_in
times_more e earlier id = go (split (eq_z e id))
  where
    n : ℤ
    n = times_in earlier id

    go : (eq_z e id ≡ true) ⊎ (eq_z e id ≡ false) → n ≤ℤ (cond (eq_z e id) (pos 1) (pos 0) +ℤ n)
    go (inl h) = rw h (omega (zarith, +-lin (pos 1) n))
    go (inr h) = rw h (omega (zarith, +-lin (pos 0) n))

times-not-negative : (earlier : List ℤ) (id : ℤ) → pos 0 ≤ℤ times_in earlier id
unfolding times_in
times-not-negative [] id = ≤ℤ_refl (pos 0)
times-not-negative (e ∷ rest) id =
    let again : pos 0 ≤ℤ times_in rest id = times-not-negative rest id in
    let more : times_in rest id ≤ℤ times_in (e ∷ rest) id = times_more e rest id in
    omega zarith

times-again : (earlier : List ℤ) (id : ℤ) → times_in earlier id <ℤ times_in (id ∷ earlier) id
unfolding times_in
times-again earlier id = rw (eq_z-refl id) (omega (zarith, +-lin (pos 1) (times_in earlier id)))

-- ---- the rows

-- The least suffix that a row of an id can have after these sources.
abbrev pub next_after : List Record → List ℤ → ℤ → ℤ
next_after t earlier id = next_of t id +ℤ times_in earlier id

pub next-after : (t : List Record) (earlier : List ℤ) (id : ℤ) → next_of t id ≤ℤ next_after t earlier id
next-after t earlier id = let low : pos 0 ≤ℤ times_in earlier id = times-not-negative earlier id in omega (zarith, +-lin (next_of t id) (times_in earlier id))

after_more : (t : List Record) (e : ℤ) (earlier : List ℤ) (id : ℤ) → next_after t earlier id ≤ℤ next_after t (e ∷ earlier) id
after_more t e earlier id =
    let more : times_in earlier id ≤ℤ times_in (e ∷ earlier) id = times_more e earlier id in
    omega (zarith, +-lin (next_of t id) (times_in earlier id), +-lin (next_of t id) (times_in (e ∷ earlier) id))

after-again : (t : List Record) (earlier : List ℤ) (id : ℤ) → next_after t earlier id <ℤ next_after t (id ∷ earlier) id
after-again t earlier id =
    let more : times_in earlier id <ℤ times_in (id ∷ earlier) id = times-again earlier id in
    omega (zarith, +-lin (next_of t id) (times_in earlier id), +-lin (next_of t id) (times_in (id ∷ earlier) id))

pub merge-kind : valid_kind merge_kind ≡ true
unfolding valid_kind eq_z
merge-kind = refl

module _ (b : Books) (into : ℤ) where
  -- A source's inverse row after these, and all of them.
  abbrev pub inverse_of : List ℤ → Key → Record
  inverse_of earlier k = inverse_record b.day (record_of b.records k) (next_after b.records earlier k.major) merge_kind (pos 0) (pos 0) into

  abbrev pub inverses_of : List ℤ → List Key → List Record
  inverses_of earlier ks = merge_inverses b.day into earlier (sources_of (view_of b) ks)

  pub inverses-count : (earlier : List ℤ) (ks : List Key) → length (inverses_of earlier ks) ≡ length (sources_of (view_of b) ks)
  unfolding merge_inverses sources_of
  inverses-count earlier [] = refl
  inverses-count earlier (k ∷ ks) = ap suc (inverses-count (k.major ∷ earlier) ks)

  pub inverses-later : (earlier : List ℤ) (ks : List Key) → AllNamed b.records ks → Only record_key (at_least_of (next_after b.records earlier)) (inverses_of earlier ks)
  unfolding merge_inverses sources_of view_of inverse_record
  inverses-later earlier [] n = all_of-nil
  inverses-later earlier (k ∷ ks) n =
      let least : ℤ → ℤ = next_after b.records earlier in
      only-intro record_key (at_least_of least) (inverse_of earlier k) (inverses_of (k.major ∷ earlier) ks)
      (at_least least (inverse_of earlier k) (subst (λ (x : Key). least x.major ≤ℤ least k.major) (sym n.0.key) (≤ℤ_refl (least k.major))))
      (later-weaker (next_after b.records (k.major ∷ earlier)) least (after_more b.records k.major earlier) (inverses_of (k.major ∷ earlier) ks)
      (inverses-later (k.major ∷ earlier) ks n.1))

  pub inverses-differ : (earlier : List ℤ) (ks : List Key) → AllNamed b.records ks → distinct record_key (inverses_of earlier ks) ≡ true
  unfolding merge_inverses sources_of view_of inverse_record
  inverses-differ earlier [] n = distinct_nil record_key
  inverses-differ earlier (k ∷ ks) n =
      let least : ℤ → ℤ = next_after b.records earlier in
      let lastly : ℤ → ℤ = next_after b.records (k.major ∷ earlier) in
      distinct-intro record_key (inverse_of earlier k) (inverses_of (k.major ∷ earlier) ks)
      (before-differs lastly (inverse_of earlier k) (inverses_of (k.major ∷ earlier) ks)
      (subst (λ (x : Key). least k.major <ℤ lastly x.major) (sym n.0.key) (after-again b.records earlier k.major))
      (inverses-later (k.major ∷ earlier) ks n.1))
      (inverses-differ (k.major ∷ earlier) ks n.1)

  -- They stand under other ids than one that has no record.
  pub inverses-apart : (id : ℤ) → greatest record_key id b.records ≡ none → (earlier : List ℤ) (ks : List Key) → AllNamed b.records ks →
      Only record_key (λ (k : Key). not (same k (key_of id (pos 0)))) (inverses_of earlier ks)
  unfolding merge_inverses sources_of view_of inverse_record
  inverses-apart id new earlier [] n = all_of-nil
  inverses-apart id new earlier (k ∷ ks) n =
      only-intro record_key (λ (x : Key). not (same x (key_of id (pos 0)))) (inverse_of earlier k) (inverses_of (k.major ∷ earlier) ks)
      (ap not (same-ne (record_key (inverse_of earlier k)) (key_of id (pos 0)) differ))
      (inverses-apart id new (k.major ∷ earlier) ks n.1)
    where
      differ : record_key (inverse_of earlier k) ≡ key_of id (pos 0) → ⊥
      differ e =
          let i : k.major ≡ id = sym (ap (λ (x : Key). x.major) n.0.key) ∙ ap (λ (x : Key). x.major) e in
          none-some (greatest-none record_key k.major k.minor b.records (subst (λ (m : ℤ). greatest record_key m b.records ≡ none) (sym i) new)) n.0.stands

  pub inverses-sound : valid_into into ≡ true → (earlier : List ℤ) (ks : List Key) → AllNamed b.records ks → any_of (map suffix_is_above (inverses_of earlier ks)) ≡ false →
      all_of (map sound_record (inverses_of earlier ks)) ≡ true
  unfolding merge_inverses sources_of view_of inverse_record
  inverses-sound i earlier [] n a = all_of-nil
  inverses-sound i earlier (k ∷ ks) n a =
      let t : List Record = b.records in
      let row : Record = inverse_of earlier k in
      let rest : List Record = inverses_of (k.major ∷ earlier) ks in
      let up : (record_of t k).suffix <ℤ next_of t k.major = n.0.next-above in
      let further : next_of t k.major ≤ℤ next_after t earlier k.major = next-after t earlier k.major in
      all_of-intro (sound_record row) (map sound_record rest)
      (inverse-sound (record_of t k) n.0.sound n.0.not-inverse b.day (next_after t earlier k.major) (omega zarith)
      (suffix-small row (any_of-head (suffix_is_above row) (map suffix_is_above rest) a)) merge_kind (pos 0) (pos 0) into merge-kind nothing-booked nothing-booked i)
      (inverses-sound i (k.major ∷ earlier) ks n.1 (any_of-tail (suffix_is_above row) (map suffix_is_above rest) a))

  pub inverses-days : pos 0 ≤ℤ b.day → (earlier : List ℤ) (ks : List Key) → all_of (map (day_within b.day) (inverses_of earlier ks)) ≡ true
  unfolding merge_inverses sources_of view_of inverse_record
  inverses-days low earlier [] = all_of-nil
  inverses-days low earlier (k ∷ ks) =
      all_of-intro (day_within b.day (inverse_of earlier k)) (map (day_within b.day) (inverses_of (k.major ∷ earlier) ks)) (new-within b.day low (inverse_of earlier k) refl)
      (inverses-days low (k.major ∷ earlier) ks)
