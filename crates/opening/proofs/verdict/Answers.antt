-- Past each test the verdict is that of the tests which remain, and each return is the one that applies.
use Rattle.std.proofs.Common.{◌≡◌, ℤ, pos, Bool, false, sym, ap, ◌∙◌, not, List, [], ◌∷◌, rules, w64, to_z, of_z}
use mir.Facts.{to_z-of_z}
use mir.Val.{SFits}
use Rattle.rules.specs.Figures.{is_to_close}
use Rattle.rules.specs.NamedRecord.{is_elsewhere, is_not_adjustable, status_refusal, status_test}
use Rattle.rules.specs.Refusal.{test}
use Rattle.rules.specs.declared.Record.{Record}
use Rattle.figures.proofs.Tests.{is-literal, not-literal}
use Rattle.verdict.specs.Verdict.{Refused}
use Rattle.verdict.proofs.Remaining.{◌past◌, stops, ends}
use Rattle.opening.proofs.OpeningTests.{Judged, room_test, at-6, at_7, at_8, at-23}
use Rattle.opening.proofs.verdict.Goals as goal

-- What a call answered, with its arguments read back.
told : {told : Bool} (giving series : ℤ) (r : Record) → SFits w64 giving → SFits w64 series
    → told ≡ is_elsewhere (to_z w64 (of_z w64 giving)) (to_z w64 (of_z w64 series)) r → told ≡ is_elsewhere giving series r
told giving series r f g e = simp (to_z-of_z f, to_z-of_z g) at e

-- Where the tests of the record have passed.
last : (qs : List ℤ) (r : Record) (giving series : ℤ) {elsewhere to-close : Bool} → (SFits w64 giving) × (SFits w64 series) × (SFits w64 r.status) × (SFits w64 r.side)
    → elsewhere ≡ is_elsewhere (to_z w64 (of_z w64 giving)) (to_z w64 (of_z w64 series)) r → elsewhere ≡ false
    → of_z w64 r.status ≡ 0 → to-close ≡ is_to_close (to_z w64 (of_z w64 r.side)) → to-close ≡ false → Judged qs r giving series (room_test qs r giving series ∷ [])
last qs r giving series f e here s t to-open =
    at-23 qs r giving series (sym (told giving series r f.0 f.1 e) ∙ here) (is-literal 0 tt f.2 s) (sym (t ∙ ap is_to_close (to_z-of_z f.3)) ∙ to-open)

pub returns-then-elsewhere : goal.returns-then-elsewhere
unfolding test
returns-then-elsewhere c =
    stops (at-6 c.args.processes.now c.args.r c.args.giving c.args.series) (sym (told _ _ c.args.r c.ranges.giving c.ranges.series c.is_elsewhere-elsewhere.ensures) ∙ c.if-elsewhere.true)

pub returns-then-status-ne-ADJUSTABLE : goal.returns-then-status-ne-ADJUSTABLE
unfolding test status_test is_not_adjustable
returns-then-status-ne-ADJUSTABLE c =
    let fits : SFits w64 c.args.r.status = search rules in
    let here : is_elsewhere c.args.giving c.args.series c.args.r ≡ false = sym (told _ _ c.args.r c.ranges.giving c.ranges.series c.is_elsewhere-elsewhere.ensures) ∙ c.if-elsewhere.false in
    ap (λ (n : ℤ). Refused n (pos 0)) (c.status_refusal.ensures ∙ ap (λ (z : ℤ). pos (status_refusal z)) (to_z-of_z fits))
    ∙ stops (at_7 c.args.processes.now c.args.r c.args.giving c.args.series here) (ap not (not-literal 0 fits c.if-status-ne-ADJUSTABLE.true))

pub returns-then-is_to_close : goal.returns-then-is_to_close
unfolding test
returns-then-is_to_close c =
    let fits : SFits w64 c.args.r.status = search rules in
    let side : SFits w64 c.args.r.side = search rules in
    let here : is_elsewhere c.args.giving c.args.series c.args.r ≡ false = sym (told _ _ c.args.r c.ranges.giving c.ranges.series c.is_elsewhere-elsewhere.ensures) ∙ c.if-elsewhere.false in
    let to-close : c.is_to_close.result ≡ is_to_close c.args.r.side = c.is_to_close.ensures ∙ ap is_to_close (to_z-of_z side) in
    stops (at_8 c.args.processes.now c.args.r c.args.giving c.args.series here (is-literal 0 tt fits c.if-status-ne-ADJUSTABLE.false)) (sym to-close ∙ c.if-is_to_close.true)

pub returns-then-full : goal.returns-then-full
unfolding test
returns-then-full c =
    let qs : List ℤ = c.args.processes.now in
    let status : SFits w64 c.args.r.status = search rules in
    let side : SFits w64 c.args.r.side = search rules in
    stops (last qs c.args.r c.args.giving c.args.series (c.ranges.giving, c.ranges.series, status, side) c.is_elsewhere-elsewhere.ensures c.if-elsewhere.false c.if-status-ne-ADJUSTABLE.false c.is_to_close.ensures c.if-is_to_close.false) (sym c.lacks_room-full.ensures ∙ c.if-full.true)

pub returns : goal.returns
unfolding test
returns c =
    let qs : List ℤ = c.args.processes.now in
    let status : SFits w64 c.args.r.status = search rules in
    let side : SFits w64 c.args.r.side = search rules in
    ends (last qs c.args.r c.args.giving c.args.series (c.ranges.giving, c.ranges.series, status, side) c.is_elsewhere-elsewhere.ensures c.if-elsewhere.false c.if-status-ne-ADJUSTABLE.false c.is_to_close.ensures c.if-is_to_close.false past sym c.lacks_room-full.ensures ∙ c.if-full.false)
