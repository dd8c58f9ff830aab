-- `transfer::verdict` meets its contract: past each of the tests 6 to 8 the verdict is that of the tests which remain, then it is that on the positions. Assumes nothing.
use Prim.Native.Nat.{ℕ}
use mathlib.Core.Path.{◌≡◌, sym, ◌∙◌, ap}
use mathlib.Core.Bool.{false, not}
use lib.IntN.{ℤ, pos}
use mir.Facts.{to_z-of_z}
use mir.Syntax.{w64}
use mir.Val.{SFits}
use borrow.Author.Rules.{rules, sfits_of}
use Rattle.rules.specs.Figures.{is_to_close}
use Rattle.rules.specs.NamedRecord.{is_elsewhere, is_not_adjustable, status_refusal}
use Rattle.rules.specs.declared.Record.{Record}
use Rattle.figures.proofs.Tests.{is-literal, not-literal}
use Rattle.scan.proofs.ReadBack.{read_back}
use Rattle.verdict.specs.Moving.{moving_verdict}
use Rattle.verdict.specs.Verdict.{Refused, judged}
use Rattle.verdict.proofs.Remaining.{◌past◌, stops}
use Rattle.verdict.proofs.Transfer.{TransferFrom, transfer-named, transfer-moving}
use Rattle.transfer.proofs.verdict.Statement.{statement}
use Rattle.transfer.proofs.verdict.Tie as tie

-- ---- test 6

module _ (s : tie.Start) where
  abbrev r : Record
  r = s.args.named.record

  abbrev from : ℤ
  from = s.args.from

  abbrev series : ℤ
  series = s.args.series

  -- The verdict is that of the tests from number n on.
  abbrev From : ℕ → Type 0
  From n = TransferFrom s.args.records.now s.args.positions.now s.args.id s.args.suffix from s.args.to series n r

  at-6 : From 6
  at-6 =
      transfer-named s.args.records.now s.args.positions.now s.args.id s.args.suffix from s.args.to series r
      s.requires.1.0 s.requires.1.1.found

answer-6 : (c : tie.After-is_elsewhere)
    → c.is_elsewhere.result ≡ is_elsewhere (from c.before.before) (series c.before.before) (r c.before.before)
answer-6 c =
    let s : tie.Start = c.before.before in
    simp (to_z-of_z s.ranges.from, to_z-of_z s.ranges.series) at c.is_elsewhere.ensures

returns : tie.Need-returns-then-is_elsewhere
returns c = stops (at-6 c.before.before.before) (sym (answer-6 c.before) ∙ c.if-is_elsewhere.true)

-- ---- test 7

module _ (c : tie.After-struct_told-1) where
  abbrev else1 : tie.Else-is_elsewhere
  else1 = c.before.before

  abbrev start : tie.Start
  start = else1.before.before.before

  here : is_elsewhere (from start) (series start) (r start) ≡ false
  here = sym (answer-6 else1.before) ∙ else1.if-is_elsewhere.false

  at_7 : From start 7
  at_7 = at-6 start past here

  status-fits : SFits w64 (r start).status
  status-fits = sfits_of {w = w64} {z = (r start).status} c.struct_told-1.given.1.1.1.1.0.1

returns-2 : tie.Need-returns-then-r-ne-ADJUSTABLE
unfolding is_not_adjustable
returns-2 c =
    let t : tie.After-struct_told-1 = c.before.before.before in
    ap (λ (n : ℤ). Refused n (pos 0)) (c.status_refusal.ensures ∙ ap (λ (z : ℤ). pos (status_refusal z)) (to_z-of_z (status-fits t)))
    ∙ stops (at_7 t) (ap not (not-literal 0 (status-fits t) c.if-r-ne-ADJUSTABLE.true))

-- ---- test 8

module _ (c : tie.After-is_to_close) where
  abbrev else2 : tie.Else-r-ne-ADJUSTABLE
  else2 = c.before.before

  abbrev start2 : tie.Start
  start2 = start else2.before

  adjustable : is_not_adjustable (r start2) ≡ false
  unfolding is_not_adjustable
  adjustable = ap not (is-literal 0 tt (status-fits else2.before) else2.if-r-ne-ADJUSTABLE.false)

  at_8 : From start2 8
  at_8 = at_7 else2.before past adjustable

  answer-8 : c.is_to_close.result ≡ is_to_close (r start2).side
  answer-8 = simp (read_back (r start2).side c.struct_told-2-1.given.1.1.1.1.1.1.1.0.1) at c.is_to_close.ensures

returns-3 : tie.Need-returns-then-is_to_close
returns-3 c = stops (at_8 c.before) (sym (answer-8 c.before) ∙ c.if-is_to_close.true)

-- ---- the tests on the positions

verdict-on-positions-requires : tie.Need-verdict_on_positions-requires
verdict-on-positions-requires c κs =
    let e : tie.Else-r-ne-ADJUSTABLE = else2 c.before in
    let s : tie.Start = start e.before in
    simp (to_z-of_z s.ranges.id, to_z-of_z s.ranges.suffix, to_z-of_z s.ranges.from, to_z-of_z s.ranges.to, to_z-of_z s.ranges.series)
    (s.requires.0, (s.requires.1.1, s.requires.1.2, s.requires.1.3))

returns-4 : tie.Need-returns
returns-4 c =
    let e : tie.Else-is_to_close = c.before in
    let s : tie.Start = start2 e.before in
    let moving : judged c.verdict_on_positions.result ≡ moving_verdict s.args.records.now s.args.positions.now (r s) s.args.id (from s) s.args.to (series s) =
    simp (to_z-of_z s.ranges.id, to_z-of_z s.ranges.from, to_z-of_z s.ranges.to, to_z-of_z s.ranges.series) at c.verdict_on_positions.ensures in
    moving
    ∙ transfer-moving s.args.records.now s.args.positions.now s.args.id s.args.suffix (from s) s.args.to (series s) (r s)
    (at_8 e.before past sym (answer-8 e.before) ∙ e.if-is_to_close.false)

pub verdict_spec : {M : Type 1} → statement M
verdict_spec =
    tie.close (tie.spec (λ c κs. search rules) returns (λ c κs. search rules) returns-2 (λ c κs. search rules) returns-3 verdict-on-positions-requires returns-4)
