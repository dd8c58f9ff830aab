use Rattle.std.proofs.Common.{rules, ◌≡◌, refl, sym, subst, ap}
use Rattle.std.specs.Prelude.{Result, Ok, Err}
use Rattle.std.specs.Result.{IsErr, IsErrAnd}
use mir.Facts.{to_z-of_z}
use Rattle.rules.specs.Request.{Request, merge}
use Rattle.rules.specs.Handle.{answered}
use Rattle.rules.specs.Reasons.{number_of, answer_of}
use Rattle.rules.specs.declared.refusals.Confirmation.{Confirmation}
use Rattle.rules.specs.declared.refusals.Refusal.{Refusal}
use Rattle.cells.proofs.SoundCells.{record-rows-sound}
use Rattle.verdict.specs.HandledSoundly.{HandledSoundly}
use Rattle.requests.proofs.OnSound.{refused-soundly, booked-soundly}
use Rattle.merge.proofs.call.on_sound.Goals as goal

pub verdict-requires : goal.verdict-requires
verdict-requires c = (record-rows-sound c.args.records.now c.requires.0, c.requires.1, c.position_held-held.ensures, search rules)

pub book-requires : goal.book-requires
book-requires c = record {
  records-sound = c.requires.0;
  positions-sound = c.requires.1;
  accepted = sym c.in_ok-verdict.ensures.0;
  rows-known = c.in_ok-verdict.ensures.1 refl;
  position-known = c.position_held-held.ensures;
}

-- A refusal handed on is the same.
handed_on : (r : Result Confirmation Refusal) (e : Refusal) → IsErr r × IsErrAnd r (λ x. x ≡ e) → r ≡ Err e
handed_on (Ok answer) e h = absurd h.1
handed_on (Err x) e h = ap Err h.1

pub returns-in_err-verdict : goal.returns-in_err-verdict
returns-in_err-verdict c =
    let e : Refusal = c.in_err-verdict.field-0.0 in
    let asked : Request = merge c.args.id c.args.account c.args.series c.args.pairs.now in
    let judged = simp (to_z-of_z c.ranges.id, to_z-of_z c.ranges.account, to_z-of_z c.ranges.series) at c.in_err-verdict.ensures.0 in
    subst (λ (r : Result Confirmation Refusal). HandledSoundly c.args.records.now c.args.positions.now asked (answered (answer_of r) c.args.records.now c.args.positions.now))
    (sym (handed_on c.from_residual.result e c.from_residual.ensures))
    (refused-soundly c.args.records.now c.args.positions.now c.requires asked judged (number_of e.reason) e.place refl)

pub returns : goal.returns
returns c =
    let asked : Request = merge c.args.id c.args.account c.args.series c.args.pairs.now in
    let judged = simp (to_z-of_z c.ranges.id, to_z-of_z c.ranges.account, to_z-of_z c.ranges.series) at c.in_ok-verdict.ensures.0 in
    booked-soundly c.args.records.now c.args.positions.now c.requires asked judged refl _
    (simp (to_z-of_z c.ranges.id, to_z-of_z c.ranges.account, to_z-of_z c.ranges.series) at c.book.ensures)
