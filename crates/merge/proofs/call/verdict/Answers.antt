use Rattle.std.proofs.Common.{arith, ◌≡◌, true, false, refl, sym, ◌∙◌, ap, not, ℕ, ℤ, pos}
use Rattle.std.specs.Prelude.{Option, Some, None}
use Rattle.std.proofs.Math.Option as Math
use Rattle.std.specs.Option as Std
use mir.Facts.{to_z-of_z}
use Rattle.keys.proofs.Split.{clash}
use Rattle.rules.specs.Keyed.{is_some}
use Rattle.rules.specs.Rows.{key_of, record_key}
use Rattle.rules.specs.Tables.{records_layout}
use Rattle.rules.specs.Merge.{is_missing}
use Rattle.rules.specs.Reasons.{number_of}
use Rattle.lookup.specs.Lookup.{greatest_found}
use Rattle.lookup.specs.Greatest.{greatest_told}
use Rattle.lookup.proofs.RowFound.{suffix-some, nothing-none}
use Rattle.lookup.proofs.TableLookup.{records-first}
use Rattle.lookup.proofs.TableSought.{table-present, table-lacks}
use Rattle.verdict.specs.Verdict.{Refused}
use Rattle.verdict.proofs.Remaining.{◌past◌, stops, stops_at}
use Rattle.merge_sources.proofs.MergeFacts.{figures-count}
use Rattle.merge_sources.proofs.MergeVerdict.{merge-tests}
use Rattle.merge_sources.proofs.Places.{place-tells, nowhere-tells}
use Rattle.merge.proofs.SmallPlaces.{source-place}
use Rattle.merge.proofs.call.verdict.Goals as goal

-- What the lookup told of the id's greatest suffix.
used : (o : Math.Option ℤ) (g : Option ℤ) → greatest_found o ≡ greatest_told g → Std.is_some g ≡ true → is_some o ≡ true
unfolding is_some
used o (Some suffix) e h = ap is_some (suffix-some o suffix e)
used o None e h = clash h refl

unused : (o : Math.Option ℤ) (g : Option ℤ) → greatest_found o ≡ greatest_told g → Std.is_some g ≡ false → o ≡ Math.none
unused o (Some suffix) e h = clash refl h
unused o None e h = nothing-none o e

pub returns-then-not-figures_valid : goal.returns-then-not-figures_valid
returns-then-not-figures_valid c =
    let answer = simp (to_z-of_z c.ranges.id, to_z-of_z c.ranges.account, to_z-of_z c.ranges.series) at c.figures_valid.ensures in (
      ap (λ r. Refused (number_of r.reason) r.place) c.from.ensures
          ∙ stops (merge-tests c.args.records.now c.args.positions.now c.args.id c.args.account c.args.series c.args.pairs.now) (ap not (sym answer ∙ c.if-not-figures_valid.true)),
      λ e. let z : ◌≡◌ {A = ℕ} 0 1 = cc in absurd (omega arith),
    )

pub returns-in_default : goal.returns-in_default
unfolding is_some
returns-in_default c =
    let answer = simp (to_z-of_z c.ranges.id, to_z-of_z c.ranges.account, to_z-of_z c.ranges.series) at c.figures_valid.ensures in
    let sought = simp (to_z-of_z c.ranges.id) at c.in_default.ensures in (
      ap (λ r. Refused (number_of r.reason) r.place) c.from-in_default.ensures
          ∙ stops (merge-tests c.args.records.now c.args.positions.now c.args.id c.args.account c.args.series c.args.pairs.now past ap not (sym answer ∙ c.if-not-figures_valid.false))
          (ap is_some (table-present records_layout record_key records-first c.args.records.now (key_of c.args.id (pos 0)) _ _ _ (sym sought)).greatest-is),
      λ e. let z : ◌≡◌ {A = ℕ} 0 1 = cc in absurd (omega arith),
    )

pub returns-then-is_some : goal.returns-then-is_some
returns-then-is_some c =
    let answer = simp (to_z-of_z c.ranges.id, to_z-of_z c.ranges.account, to_z-of_z c.ranges.series) at c.figures_valid.ensures in
    let sought = simp (to_z-of_z c.ranges.id) at c.in-Err.ensures in
    let lacks = table-lacks records_layout record_key records-first c.args.records.now (key_of c.args.id (pos 0)) _ _ (sym sought) in (
      ap (λ r. Refused (number_of r.reason) r.place) c.from-then-is_some.ensures
          ∙ stops (merge-tests c.args.records.now c.args.positions.now c.args.id c.args.account c.args.series c.args.pairs.now past ap not (sym answer ∙ c.if-not-figures_valid.false))
          (used _ c.in-Err.absent.greatest lacks.greatest-is (sym c.is_some.ensures ∙ c.if-is_some.true)),
      λ e. let z : ◌≡◌ {A = ℕ} 0 1 = cc in absurd (omega arith),
    )

pub locate-requires : goal.locate-requires
locate-requires c =
    let answer = simp (to_z-of_z c.ranges.id, to_z-of_z c.ranges.account, to_z-of_z c.ranges.series) at c.figures_valid.ensures in
    (c.requires.0, omega (arith, c.requires.3, (figures-count c.args.id c.args.account c.args.series c.args.pairs.now (sym answer ∙ c.if-not-figures_valid.false)).1))

pub refused_at-requires : goal.refused_at-requires
refused_at-requires c =
    let answer = simp (to_z-of_z c.ranges.id, to_z-of_z c.ranges.account, to_z-of_z c.ranges.series) at c.figures_valid.ensures in
    source-place c.args.records.now c.args.pairs.now (figures-count c.args.id c.args.account c.args.series c.args.pairs.now (sym answer ∙ c.if-not-figures_valid.false)).1 _ is_missing (sym c.in-Some.ensures.0)

pub returns-in-Some : goal.returns-in-Some
unfolding is_some
returns-in-Some c =
    let answer = simp (to_z-of_z c.ranges.id, to_z-of_z c.ranges.account, to_z-of_z c.ranges.series) at c.figures_valid.ensures in
    let sought = simp (to_z-of_z c.ranges.id) at c.in-Err.ensures in
    let lacks = table-lacks records_layout record_key records-first c.args.records.now (key_of c.args.id (pos 0)) _ _ (sym sought) in
    let new = unused _ c.in-Err.absent.greatest lacks.greatest-is (sym c.is_some.ensures ∙ c.if-is_some.false) in (
      c.refused_at.ensures
          ∙ stops_at (merge-tests c.args.records.now c.args.positions.now c.args.id c.args.account c.args.series c.args.pairs.now past ap not (sym answer ∙ c.if-not-figures_valid.false) past ap is_some new)
          (place-tells _ _ (sym c.in-Some.ensures.0)),
      λ e. let z : ◌≡◌ {A = ℕ} 0 1 = cc in absurd (omega arith),
    )

pub verdict_on_sources-requires : goal.verdict_on_sources-requires
verdict_on_sources-requires c =
    let answer = simp (to_z-of_z c.ranges.id, to_z-of_z c.ranges.account, to_z-of_z c.ranges.series) at c.figures_valid.ensures in
    let sought = simp (to_z-of_z c.ranges.id) at c.in-Err.ensures in
    let lacks = table-lacks records_layout record_key records-first c.args.records.now (key_of c.args.id (pos 0)) _ _ (sym sought) in
    let known = c.in_default-locate.ensures.1 refl in
    simp (to_z-of_z c.ranges.id, to_z-of_z c.ranges.account, to_z-of_z c.ranges.series) (record {
      records-sound = c.requires.0;
      positions-sound = c.requires.1;
      position-known = c.requires.2;
      rows-known = known.0;
      suffixes-known = known.1;
      figures-valid = sym answer ∙ c.if-not-figures_valid.false;
      id-new = unused _ c.in-Err.absent.greatest lacks.greatest-is (sym c.is_some.ensures ∙ c.if-is_some.false);
      all-there = ap not (nowhere-tells _ (sym c.in_default-locate.ensures.0));
    })

pub returns : goal.returns
returns c = (
  simp (to_z-of_z c.ranges.id, to_z-of_z c.ranges.account, to_z-of_z c.ranges.series) at c.verdict_on_sources.ensures,
  λ e. (c.in_default-locate.ensures.1 refl).0,
)
