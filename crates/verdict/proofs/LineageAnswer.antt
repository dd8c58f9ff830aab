-- What a lineage is answered on a sound records table: its refusals 3 and 5, or the price and links of the origin. In a sound records table parents are below their suffixes. By the definitions. Assumes nothing.
use Prim.Native.Nat.{suc}
use mathlib.Core.Path.{◌≡◌, refl, ◌∙◌, subst}
use mathlib.Core.Bool.{true, false, not, ◌&&◌}
use mathlib.Core.List.{List, [], ◌∷◌}
use mathlib.Core.Logic.{◌⊎◌, inl, inr}
use mathlib.Core.Option.{Option, none, some}
use lib.IntN.{ℤ, pos, nat_abs}
use lib.Signed.{lt_z, ◌≤ℤ◌, ◌<ℤ◌}
use Rattle.integers.specs.Order.{eq_z}
use Rattle.integers.proofs.Linear.{zarith}
use Rattle.rules.specs.Figures.{valid_id, valid_suffix}
use Rattle.rules.specs.Keyed.{find, is_some}
use Rattle.rules.specs.Rows.{key_of, record_key, valid_parent}
use Rattle.rules.specs.Refusal.{Test, test, first_refusal}
use Rattle.rules.specs.Reply.{refused_by}
use Rattle.rules.specs.Request.{lineage}
use Rattle.rules.specs.Books.{view_of}
use Rattle.rules.specs.Plan.{plan_tests, plan_reply}
use Rattle.rules.specs.Lineage.{Origin, origin_of, lineage_reply, lineage_plan}
use Rattle.rules.specs.Layout.{rows_of}
use Rattle.rules.specs.Tables.{sound_record_rows, books_of, records_layout, sound_records, tables_of}
use Rattle.rules.specs.Handle.{answer, handle, plan_of, plan_tables, refusals, soundness_tests, answered}
use Rattle.rules.specs.declared.Record.{Record}
use Rattle.rules.specs.declared.Reply.TheVariants.{Lineage, Refused}
use Rattle.keys.proofs.Split.{clash, or_cases, and_right}
use Rattle.soundness.proofs.FigureRanges.{suffix-range}
use Rattle.verdict.proofs.SoundReads.{FoundRecord, found-record}
use Rattle.verdict.proofs.Lineage.{Descending, origin-links}

-- The records of an id, by their suffix, and the origin of a suffix.
abbrev pub records_of_id : List ℤ → ℤ → ℤ → Option Record
records_of_id rs id suffix = find record_key (key_of id suffix) (rows_of records_layout rs)

abbrev pub origin_in : List ℤ → ℤ → ℤ → Option Origin
origin_in rs id suffix = origin_of (records_of_id rs id) (suc (nat_abs suffix)) suffix

-- ---- parents

parent-low : (parent suffix : ℤ) → valid_parent parent suffix ≡ true → eq_z suffix (pos 0) ≡ false → parent <ℤ suffix
unfolding valid_parent
parent-low parent suffix h z = go (or_cases (lt_z parent suffix) (eq_z parent (pos 0) && eq_z suffix (pos 0)) h)
  where
    go : (lt_z parent suffix ≡ true) ⊎ ((eq_z parent (pos 0) && eq_z suffix (pos 0)) ≡ true) → parent <ℤ suffix
    go (inl b) = omega zarith
    go (inr b) = clash (and_right (eq_z parent (pos 0)) (eq_z suffix (pos 0)) b) z

module _ (rs : List ℤ) (sound : sound_record_rows rs ≡ true) (id : ℤ) where
  pub parent-valid : (suffix : ℤ) (r : Record) → records_of_id rs id suffix ≡ some r → valid_suffix r.parent ≡ true
  parent-valid suffix r e = (found-record rs sound id suffix r e).sound.parent

  pub descending : Descending (records_of_id rs id)
  descending suffix r e z =
      let f : FoundRecord id suffix r = found-record rs sound id suffix r e in (
        (suffix-range r.parent f.sound.parent).0,
        parent-low r.parent suffix (subst (λ (x : ℤ). valid_parent r.parent x ≡ true) f.suffix-is f.sound.parent-below) z,
      )

  -- The links to the origin of a suffix.
  pub links-range : (suffix : ℤ) (o : Origin) → valid_suffix suffix ≡ true → origin_in rs id suffix ≡ some o → (pos 0 ≤ℤ o.links) × (o.links ≤ℤ suffix)
  links-range suffix o v e = origin-links (records_of_id rs id) descending (suc (nat_abs suffix)) suffix o e (suffix-range suffix v).0

-- ---- the answer

module _ (rs ps : List ℤ) (id suffix : ℤ) where
  -- The tests and the reply of a lineage.
  abbrev lineage_tests : List Test
  lineage_tests = test 1 (not (sound_records rs)) ∷ test 3 (not (valid_id id && valid_suffix suffix)) ∷ test 5 (not (is_some (origin_in rs id suffix))) ∷ []

  handle-lineage : handle (tables_of rs ps) (lineage id suffix) ≡ answer (first_refusal lineage_tests) (tables_of rs ps) (answered (lineage_reply (origin_in rs id suffix)) rs ps)
  unfolding handle plan_of lineage_plan view_of books_of refusals soundness_tests plan_tests plan_reply plan_tables
  handle-lineage = refl

  module _ (sound : sound_records rs ≡ true) where
    pub lineage-refused-id : valid_id id ≡ false → handle (tables_of rs ps) (lineage id suffix) ≡ answered (Refused (pos 3) (pos 0)) rs ps
    unfolding answer first_refusal test refused_by
    lineage-refused-id h = handle-lineage ∙ rw (sound, h)

    module _ (valid-id : valid_id id ≡ true) where
      pub lineage-refused-suffix : valid_suffix suffix ≡ false → handle (tables_of rs ps) (lineage id suffix) ≡ answered (Refused (pos 3) (pos 0)) rs ps
      unfolding answer first_refusal test refused_by
      lineage-refused-suffix h = handle-lineage ∙ rw (sound, valid-id, h)

      module _ (valid-suffix : valid_suffix suffix ≡ true) where
        pub lineage-refused-missing : origin_in rs id suffix ≡ none → handle (tables_of rs ps) (lineage id suffix) ≡ answered (Refused (pos 5) (pos 0)) rs ps
        unfolding answer first_refusal test refused_by is_some
        lineage-refused-missing e = handle-lineage ∙ rw (sound, valid-id, valid-suffix, e)

        pub lineage-answered : (o : Origin) → origin_in rs id suffix ≡ some o → handle (tables_of rs ps) (lineage id suffix) ≡ answered (Lineage o.price o.links) rs ps
        unfolding answer first_refusal test refused_by is_some lineage_reply
        lineage-answered o e = handle-lineage ∙ rw (sound, valid-id, valid-suffix, e)
