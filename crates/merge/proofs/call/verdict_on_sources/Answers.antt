use Rattle.std.proofs.Common.{rules, tests, arith, ◌≡◌, false, sym, subst, ◌∙◌, ap, map, length, List, ℕ, ℤ, pos, ◌<◌, ◌/◌, FitsSigned, w64}
use Rattle.std.specs.Prelude.{Result, Ok, Err}
use Rattle.std.specs.Result.{IsErr, IsErrAnd}
use mir.Facts.{to_z-of_z}
use Rattle.rules.specs.Reasons.{number_of}
use Rattle.rules.specs.declared.refusals.Reason.{Reason}
use Rattle.rules.specs.declared.refusals.Refusal.{Refusal}
use Rattle.figures.proofs.Tests.{literal-test}
use Rattle.rules.specs.Figures.{is_buy}
use Rattle.rules.specs.NamedRecord.{is_elsewhere, is_not_adjustable, status_refusal}
use Rattle.rules.specs.Refusal.{any_of}
use Rattle.rules.specs.Merge.{closes, first_of, side_differs}
use Rattle.rules.specs.declared.Record.{Record}
use Rattle.verdict.specs.Verdict.{Refused, judged_at}
use Rattle.verdict.proofs.Remaining.{◌past◌, stops_at}
use Rattle.merge_sources.specs.Sources.{At, place_of, source_records}
use Rattle.merge_sources.specs.Pairs.{repeated_place}
use Rattle.merge_sources.proofs.Places.{place-tells, nowhere-tells}
use Rattle.merge_sources.proofs.SourceList.{record-found, first-at}
use Rattle.merge_sources.proofs.SourceTests.{status-at}
use Rattle.merge.proofs.SmallPlaces.{record-within, record-place, repeat-place}
use Rattle.merge.proofs.Tests.{count, at_6}
use Rattle.merge.proofs.call.verdict_on_sources.Goals as goal

pub refused_at-requires : goal.refused_at-requires
refused_at-requires c =
    record-place c.args.records.now c.args.pairs.now (count c.requires).1 _ (is_elsewhere c.args.account c.args.series)
    (sym (c.in-Some.ensures (is_elsewhere c.args.account c.args.series) (λ r b k. search (rules, tests))))

pub returns-in-Some : goal.returns-in-Some
returns-in-Some c =
    c.refused_at.ensures
    ∙ stops_at (at_6 c.requires) (place-tells _ _ (sym (c.in-Some.ensures (is_elsewhere c.args.account c.args.series) (λ r b k. search (rules, tests)))))

pub source_record-failing-requires : goal.source_record-failing-requires
unfolding is_not_adjustable
source_record-failing-requires c =
    let place : At c.in-Some-first_failing.i ≡ place_of (map is_not_adjustable (source_records c.args.records.now c.args.pairs.now))
    = c.in-Some-first_failing.ensures is_not_adjustable (λ r b k. search (rules, tests, literal-test)) in
    (c.requires.records-sound, c.requires.rows-known, omega (arith, record-within c.args.records.now c.args.pairs.now (count c.requires).1 c.in-Some-first_failing.i is_not_adjustable (sym place)))

pub refused_at-requires-in-Some-first_failing : goal.refused_at-requires-in-Some-first_failing
unfolding is_not_adjustable
refused_at-requires-in-Some-first_failing c =
    record-place c.args.records.now c.args.pairs.now (count c.requires).1 _ is_not_adjustable (sym (c.in-Some-first_failing.ensures is_not_adjustable (λ r b k. search (rules, tests, literal-test))))

pub returns-in-Some-first_failing : goal.returns-in-Some-first_failing
unfolding is_not_adjustable
returns-in-Some-first_failing c =
    let rs : List ℤ = c.args.records.now in
    let list : List ℤ = c.args.pairs.now in
    let i : ℕ = c.in-Some-first_failing.i in
    let none6 = nowhere-tells _ (sym (c.in_default.ensures (is_elsewhere c.args.account c.args.series) (λ r b k. search (rules, tests)))) in
    let place : place_of (map is_not_adjustable (source_records rs list)) ≡ At i = sym (c.in-Some-first_failing.ensures is_not_adjustable (λ r b k. search (rules, tests, literal-test))) in
    let within : i < length list / 2 = record-within rs list (count c.requires).1 i is_not_adjustable place in
    let r : Record = c.source_record-failing.result in
    let failing = record-found rs list i within r c.source_record-failing.ensures in
    let status : FitsSigned w64 r.status = search rules in
    let number = c.status_refusal.ensures ∙ ap (λ (z : ℤ). pos (status_refusal z)) (to_z-of_z status) ∙ ap (λ (x : Record). pos (status_refusal x.status)) (sym failing) ∙ ap pos (sym (status-at (source_records rs list) i place)) in
    c.refused_at-in-Some-first_failing.ensures ∙ ap (λ (n : ℤ). Refused n (pos i)) number ∙ stops_at (at_6 c.requires past none6) (place-tells _ _ place)

pub refused_at-requires-in-Some-first_failing-2 : goal.refused_at-requires-in-Some-first_failing-2
unfolding closes
refused_at-requires-in-Some-first_failing-2 c =
    record-place c.args.records.now c.args.pairs.now (count c.requires).1 _ closes (sym (c.in-Some-first_failing-2.ensures closes (λ r b k. search (rules, tests))))

pub returns-in-Some-first_failing-2 : goal.returns-in-Some-first_failing-2
unfolding is_not_adjustable closes
returns-in-Some-first_failing-2 c =
    let none6 = nowhere-tells _ (sym (c.in_default.ensures (is_elsewhere c.args.account c.args.series) (λ r b k. search (rules, tests)))) in
    let none7 = nowhere-tells _ (sym (c.in_default-first_failing.ensures is_not_adjustable (λ r b k. search (rules, tests, literal-test)))) in
    c.refused_at-in-Some-first_failing-2.ensures
    ∙ stops_at (at_6 c.requires past none6 past none7) (place-tells _ _ (sym (c.in-Some-first_failing-2.ensures closes (λ r b k. search (rules, tests)))))

pub refused_at-requires-in-Some-first_repeated : goal.refused_at-requires-in-Some-first_repeated
unfolding repeated_place
refused_at-requires-in-Some-first_repeated c = repeat-place c.args.records.now c.args.pairs.now (count c.requires).1 _ (sym c.in-Some-first_repeated.ensures)

pub returns-in-Some-first_repeated : goal.returns-in-Some-first_repeated
unfolding is_not_adjustable closes repeated_place
returns-in-Some-first_repeated c =
    let none6 = nowhere-tells _ (sym (c.in_default.ensures (is_elsewhere c.args.account c.args.series) (λ r b k. search (rules, tests)))) in
    let none7 = nowhere-tells _ (sym (c.in_default-first_failing.ensures is_not_adjustable (λ r b k. search (rules, tests, literal-test)))) in
    let none8 = nowhere-tells _ (sym (c.in_default-first_failing-2.ensures closes (λ r b k. search (rules, tests)))) in
    c.refused_at-in-Some-first_repeated.ensures ∙ stops_at (at_6 c.requires past none6 past none7 past none8) (place-tells _ _ (sym c.in-Some-first_repeated.ensures))

pub source_record-first-requires : goal.source_record-first-requires
source_record-first-requires c = (c.requires.records-sound, c.requires.rows-known, omega (arith, (count c.requires).0))

pub refused_at-requires-in-Some-first_failing-3 : goal.refused_at-requires-in-Some-first_failing-3
unfolding side_differs
refused_at-requires-in-Some-first_failing-3 c =
    let first : Record = c.source_record-first.result in
    let side : FitsSigned w64 first.side = search rules in
    let buy = simp (to_z-of_z side) at c.is_buy-buy.ensures in
    record-place c.args.records.now c.args.pairs.now (count c.requires).1 _ (side_differs first) (sym (c.in-Some-first_failing-3.ensures (side_differs first) (λ r b k. search (rules, tests, buy))))

pub returns-in-Some-first_failing-3 : goal.returns-in-Some-first_failing-3
unfolding is_not_adjustable closes repeated_place side_differs
returns-in-Some-first_failing-3 c =
    let rs : List ℤ = c.args.records.now in
    let list : List ℤ = c.args.pairs.now in
    let none6 = nowhere-tells _ (sym (c.in_default.ensures (is_elsewhere c.args.account c.args.series) (λ r b k. search (rules, tests)))) in
    let none7 = nowhere-tells _ (sym (c.in_default-first_failing.ensures is_not_adjustable (λ r b k. search (rules, tests, literal-test)))) in
    let none8 = nowhere-tells _ (sym (c.in_default-first_failing-2.ensures closes (λ r b k. search (rules, tests)))) in
    let none9 = nowhere-tells _ (sym c.in_default-first_repeated.ensures) in
    let first : Record = c.source_record-first.result in
    let side : FitsSigned w64 first.side = search rules in
    let buy = simp (to_z-of_z side) at c.is_buy-buy.ensures in
    let place = c.in-Some-first_failing-3.ensures (side_differs first) (λ r b k. search (rules, tests, buy)) in
    let is : first ≡ first_of (source_records rs list) = sym (first-at rs list ∙ record-found rs list 0 (omega (arith, (count c.requires).0)) first c.source_record-first.ensures) in
    c.refused_at-in-Some-first_failing-3.ensures
    ∙ stops_at (at_6 c.requires past none6 past none7 past none8 past none9)
    (place-tells _ _ (sym (place ∙ ap (λ (x : Record). place_of (map (side_differs x) (source_records rs list))) is)))

pub verdict_on_sums-requires : goal.verdict_on_sums-requires
unfolding is_not_adjustable closes repeated_place side_differs
verdict_on_sums-requires c =
    let rs : List ℤ = c.args.records.now in
    let list : List ℤ = c.args.pairs.now in
    let first : Record = c.source_record-first.result in
    let side : FitsSigned w64 first.side = search rules in
    let buy = simp (to_z-of_z side) at c.is_buy-buy.ensures in
    let is : first ≡ first_of (source_records rs list) = sym (first-at rs list ∙ record-found rs list 0 (omega (arith, (count c.requires).0)) first c.source_record-first.ensures) in
    let one = nowhere-tells _ (sym (c.in_default-first_failing-3.ensures (side_differs first) (λ r b k. search (rules, tests, buy)))) in
    simp (to_z-of_z c.ranges.id, to_z-of_z c.ranges.account, to_z-of_z c.ranges.series) (record {
      found = c.requires;
      passed = record {
        none-elsewhere = nowhere-tells _ (sym (c.in_default.ensures (is_elsewhere c.args.account c.args.series) (λ r b k. search (rules, tests))));
        all-adjustable = nowhere-tells _ (sym (c.in_default-first_failing.ensures is_not_adjustable (λ r b k. search (rules, tests, literal-test))));
        none-to-close = nowhere-tells _ (sym (c.in_default-first_failing-2.ensures closes (λ r b k. search (rules, tests))));
        none-repeated = nowhere-tells _ (sym c.in_default-first_repeated.ensures);
        one-side = subst (λ (x : Record). any_of (map (side_differs x) (source_records rs list)) ≡ false) is one;
      };
      side_is = buy ∙ ap (λ (x : Record). is_buy x.side) is;
    })

-- The reason of the sums, as a refusal at place 0.
at-0 : (r : Result (Unit {0}) Refusal) (e : Reason) → IsErr r × IsErrAnd r (λ x. x ≡ record { reason = e; place = pos 0 }) → judged_at r ≡ Refused (number_of e) (pos 0)
at-0 (Ok u) e h = absurd h.1
at-0 (Err x) e h = ap (λ (y : Refusal). Refused (number_of y.reason) y.place) h.1

pub returns-in_err-verdict_on_sums : goal.returns-in_err-verdict_on_sums
returns-in_err-verdict_on_sums c =
    at-0 c.from_residual.result _ c.from_residual.ensures
    ∙ (simp (to_z-of_z c.ranges.id, to_z-of_z c.ranges.account, to_z-of_z c.ranges.series) at c.in_err-verdict_on_sums.ensures)

pub returns : goal.returns
returns c = simp (to_z-of_z c.ranges.id, to_z-of_z c.ranges.account, to_z-of_z c.ranges.series) at c.in_ok-verdict_on_sums.ensures
