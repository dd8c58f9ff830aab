use Rattle.std.proofs.Common.{Err, rules, arith, ◌≡◌, ℕ, ◌+◌, ◌-◌, ◌*◌, ◌^◌, ◌<◌, ◌≤◌, sym, ap, subst, ◌∙◌, length, drop, List, ℤ, pos, FitsSigned, w64, to_z, of_z}
use Rattle.std.proofs.lemmas.List.{length-drop}
use mir.Facts.{to_z_pos, to_z-of_z}
use Rattle.text.specs.Scan.{taken}
use Rattle.rules.specs.Reasons.{number_of}
use Rattle.rules.specs.Tables.{Tables, all_tables}
use Rattle.rules.specs.Handle.{answered_by}
use Rattle.rules.specs.declared.Reply.TheVariants as Reply
use Rattle.replaying.specs.Became as Became
use Rattle.replaying.specs.LineReplayed.{LineBooked, LineReplayed}
use Rattle.replaying.proofs.LineLength.{three-fewer}
use Rattle.replaying.proofs.ReplayedSoFar.{ReplayedSoFar, none-replayed, all-replayed, stops-bad, stops-refused, one_more}
use Rattle.replaying.proofs.each_line.replay_lines.Goals as goal

-- The next line begins further on.
further : (t after : Tables) (text : List ℕ) (at next : ℕ) → LineBooked t text at next after → at < next
further t after text at next k =
    let fewer : length (drop next text) + 3 ≤ length (drop at text) = three-fewer (drop at text) (taken k.request (drop next text)) k.read in
    omega (arith, length-drop next text, length-drop at text, k.within)

pub loop-at-init : goal.loop-at-init
loop-at-init c = none-replayed c.args.records.now c.args.positions.now c.args.processes.now c.args.figures.now c.args.text.now c.requires.0 c.requires.3

pub returns-in-Err-Bad : goal.returns-in-Err-Bad
returns-in-Err-Bad c =
    let small : c.loop-at.line + 1 < 2 ^ 63 = omega (arith, c.loop-at-test.true, c.loop-at.invariant.few) in
    let w = c.in-Err-Bad.ensures in
    ap (λ (line : ℤ). answered_by (Reply.BadLine line) (all_tables c.replay_line.new.records c.replay_line.new.positions c.replay_line.new.processes)) (to_z_pos w64 small)
    ∙ stops-bad (all_tables c.args.records.now c.args.positions.now c.args.processes.now) c.args.text.now _ _ _ _ _ _ c.loop-at.invariant c.loop-at-test.true _ _ _
    (subst
    (λ u. LineReplayed (all_tables c.loop-at.records c.loop-at.positions c.loop-at.processes) c.args.text.now c.loop-at.at (Became.became (Err u)) (all_tables c.replay_line.new.records c.replay_line.new.positions c.replay_line.new.processes))
    c.in-Err-Bad.field-0-is w.0)

pub returns-in-Err-Refused : goal.returns-in-Err-Refused
returns-in-Err-Refused c =
    let small : c.loop-at.line + 1 < 2 ^ 63 = omega (arith, c.loop-at-test.true, c.loop-at.invariant.few) in
    let number-fits : FitsSigned w64 c.number-number.result = search rules in
    let place-fits : FitsSigned w64 c.in-Err-Refused.refusal.place = search rules in
    let w = c.in-Err-Refused.ensures in
    simp (to_z_pos w64 small, to_z-of_z number-fits, to_z-of_z place-fits) (rw c.number-number.ensures
    (stops-refused (all_tables c.args.records.now c.args.positions.now c.args.processes.now) c.args.text.now _ _ _ _ _ _ c.loop-at.invariant c.loop-at-test.true _ _ _
    (number_of c.in-Err-Refused.refusal.reason) c.in-Err-Refused.refusal.place
    (subst
    (λ u. LineReplayed (all_tables c.loop-at.records c.loop-at.positions c.loop-at.processes) c.args.text.now c.loop-at.at (Became.became (Err u)) (all_tables c.replay_line.new.records c.replay_line.new.positions c.replay_line.new.processes))
    c.in-Err-Refused.field-0-is w.0)))

pub loop-at-smaller : goal.loop-at-smaller
loop-at-smaller c =
    let w = c.in-Ok.ensures in
    omega (arith, c.loop-at-test.true, further _ _ c.args.text.now c.loop-at.at c.in-Ok.next w.0.became)

pub loop-at-preserved : goal.loop-at-preserved
loop-at-preserved c =
    let w = c.in-Ok.ensures in
    one_more (all_tables c.args.records.now c.args.positions.now c.args.processes.now) c.args.text.now _ _ _ _ _ _ c.loop-at.invariant c.loop-at-test.true _ _ _ c.in-Ok.next _ w.0
    c.replay_line.auto.records c.replay_line.auto.positions c.replay_line.auto.processes w.1

pub returns : goal.returns
returns c =
    let few : c.loop-at.line < 2 ^ 63 = omega (arith, c.loop-at.invariant.few, c.loop-at.invariant.within) in
    ap (λ (line : ℤ). answered_by (Reply.Replayed line) (all_tables c.loop-at.records c.loop-at.positions c.loop-at.processes)) (to_z_pos w64 few)
    ∙ all-replayed (all_tables c.args.records.now c.args.positions.now c.args.processes.now) c.args.text.now _ _ _ _ _ _ c.loop-at.invariant c.loop-at-test.false
