-- Past each test the verdict is that of the tests which remain, and each return is the one that applies.
use Rattle.std.proofs.Common.{◌≡◌, ℤ, Bool, true, false, refl, sym, ap, ◌∙◌, not, List, [], ◌∷◌, rules, w64, to_z, of_z}
use mir.Facts.{to_z-of_z}
use mir.Val.{SFits}
use Rattle.integers.specs.Order.{eq_z}
use Rattle.rules.specs.Figures.{is_to_close, under_give_up}
use Rattle.rules.specs.NamedRecord.{is_elsewhere}
use Rattle.rules.specs.Refusal.{Test, test, first_refusal}
use Rattle.rules.specs.declared.Record.{Record}
use Rattle.figures.proofs.Tests.{is-literal, not-literal}
use Rattle.verdict.specs.Verdict.{verdict_of}
use Rattle.verdict.proofs.Remaining.{Remaining, ◌past◌, stops, ends}
use Rattle.give_up_steps.specs.StepTests.{later_tests}
use Rattle.later_steps.proofs.verdict.Goals as goal

module _ (r : Record) (giving series : ℤ) where
  -- The verdict is that of these tests.
  abbrev Rest : List Test → Type 0
  Rest tests = Remaining (verdict_of (first_refusal (later_tests r giving series))) tests

  at-6 : Rest (later_tests r giving series)
  at-6 = record { is = refl }

  at_7 : is_elsewhere giving series r ≡ false → Rest (test 7 (not (eq_z r.status under_give_up)) ∷ test 8 (is_to_close r.side) ∷ [])
  unfolding test
  at_7 here = at-6 past here

  at_8 : is_elsewhere giving series r ≡ false → eq_z r.status under_give_up ≡ true → Rest (test 8 (is_to_close r.side) ∷ [])
  unfolding test
  at_8 here under-way = at_7 here past ap not under-way

  -- What the calls answered, with their arguments read back.
  elsewhere : {told : Bool} → SFits w64 giving → SFits w64 series → told ≡ is_elsewhere (to_z w64 (of_z w64 giving)) (to_z w64 (of_z w64 series)) r → is_elsewhere giving series r ≡ told
  elsewhere f g e = sym (simp (to_z-of_z f, to_z-of_z g) at e)

  to-close : {told : Bool} → SFits w64 r.side → told ≡ is_to_close (to_z w64 (of_z w64 r.side)) → is_to_close r.side ≡ told
  to-close f e = sym (simp (to_z-of_z f) at e)

pub returns-then-is_elsewhere : goal.returns-then-is_elsewhere
unfolding test
returns-then-is_elsewhere c =
    let a = c.args in
    stops (at-6 a.r a.giving a.series) (elsewhere a.r a.giving a.series c.ranges.giving c.ranges.series c.is_elsewhere.ensures ∙ c.if-is_elsewhere.true)

pub returns-then-r-ne-UNDER_GIVE_UP : goal.returns-then-r-ne-UNDER_GIVE_UP
unfolding test
returns-then-r-ne-UNDER_GIVE_UP c =
    let a = c.args in
    let status : SFits w64 c.args.r.status = search rules in
    stops (at_7 a.r a.giving a.series (elsewhere a.r a.giving a.series c.ranges.giving c.ranges.series c.is_elsewhere.ensures ∙ c.if-is_elsewhere.false)) (ap not (not-literal 3 status c.if-r-ne-UNDER_GIVE_UP.true))

pub returns-then-is_to_close : goal.returns-then-is_to_close
unfolding test
returns-then-is_to_close c =
    let a = c.args in
    let status : SFits w64 c.args.r.status = search rules in
    let side : SFits w64 c.args.r.side = search rules in
    stops (at_8 a.r a.giving a.series (elsewhere a.r a.giving a.series c.ranges.giving c.ranges.series c.is_elsewhere.ensures ∙ c.if-is_elsewhere.false) (is-literal 3 tt status c.if-r-ne-UNDER_GIVE_UP.false)) (to-close a.r a.giving a.series side c.is_to_close.ensures ∙ c.if-is_to_close.true)

pub returns : goal.returns
unfolding test
returns c =
    let a = c.args in
    let status : SFits w64 c.args.r.status = search rules in
    let side : SFits w64 c.args.r.side = search rules in
    ends (at_8 a.r a.giving a.series (elsewhere a.r a.giving a.series c.ranges.giving c.ranges.series c.is_elsewhere.ensures ∙ c.if-is_elsewhere.false) (is-literal 3 tt status c.if-r-ne-UNDER_GIVE_UP.false) past to-close a.r a.giving a.series side c.is_to_close.ensures ∙ c.if-is_to_close.false)
