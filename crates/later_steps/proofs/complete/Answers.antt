-- The step that completes is judged by the tests of a record that moves, books what a transfer books with types 20 and 30, and its process is done.
use Rattle.std.proofs.Common.{◌≡◌, List, ℤ, pos, sym, ap, ◌∙◌, rules, w64, to_z, of_z}
use mir.Facts.{to_z-of_z}
use Rattle.std.proofs.lemmas.Result.{err_from_is_err_and}
use Rattle.rules.specs.Figures.{give_up_kind, take_up_kind}
use Rattle.rules.specs.ProcessRows.{row_of_process}
use Rattle.rules.specs.Reasons.{number_of}
use Rattle.rules.specs.GiveUp.{finished}
use Rattle.rules.specs.declared.ProcessRow.{ProcessRow}
use Rattle.rules.specs.declared.Record.{Record}
use Rattle.cells.proofs.SoundCells.{record-rows-sound}
use Rattle.requests.specs.KnownPosition.{KnownPosition}
use Rattle.requests.specs.declared.Held.{Held}
use Rattle.verdict.specs.Moving.{moving_effects, moving_verdict, records_after, positions_after}
use Rattle.verdict.specs.Verdict.{Verdict, Accepted, Refused}
use Rattle.give_up_steps.specs.declared.Terms.{Terms}
use Rattle.later_steps.specs.declared.Turn.{Turn}
use Rattle.later_steps.proofs.LaterSteps.{later-not-moved, later-completed}
use Rattle.later_steps.proofs.Ready.{InRange, not-inverse, accounts-differ, taking-valid, finished-ready, kind-give-up, kind-take-up}
use Rattle.later_steps.proofs.complete.Goals as goal

-- ---- what the calls answered, with their arguments read back

module _ (rs ps : List ℤ) (g : Terms) (fits : InRange g) where
  giver : (h : Held) → KnownPosition ps (to_z w64 (of_z w64 g.giving)) (to_z w64 (of_z w64 g.series)) h → KnownPosition ps g.giving g.series h
  giver h e = simp (to_z-of_z fits.3, to_z-of_z fits.5) at e

  taker : (h : Held) → KnownPosition ps (to_z w64 (of_z w64 g.taking)) (to_z w64 (of_z w64 g.series)) h → KnownPosition ps g.taking g.series h
  taker h e = simp (to_z-of_z fits.4, to_z-of_z fits.5) at e

  judged-as : (r : Record) (told : Verdict)
      → told ≡ moving_verdict rs ps r (to_z w64 (of_z w64 g.id)) (to_z w64 (of_z w64 g.giving)) (to_z w64 (of_z w64 g.taking)) (to_z w64 (of_z w64 g.series))
      → moving_verdict rs ps r g.id g.giving g.taking g.series ≡ told
  judged-as r told e = sym (simp (to_z-of_z fits.1, to_z-of_z fits.3, to_z-of_z fits.4, to_z-of_z fits.5) at e)

-- ---- tests 12 to 16

pub verdict_on_positions-requires : goal.verdict_on_positions-requires
verdict_on_positions-requires c =
    let rs : List ℤ = c.args.records.now in
    let ps : List ℤ = c.args.positions.now in
    let g : Terms = c.args.turn.terms in
    let fits : InRange c.args.turn.terms = search rules in
    simp (to_z-of_z fits.1, to_z-of_z fits.2, to_z-of_z fits.3, to_z-of_z fits.4, to_z-of_z fits.5)
    (record {
      tables_sound = (record-rows-sound rs c.requires.0.ready.sound.records, c.requires.0.ready.sound.positions);
      looked_up = (c.requires.0.record-known, giver rs ps g fits c.position_held-old.result c.position_held-old.ensures, taker rs ps g fits c.position_held-new.result c.position_held-new.ensures);
    })

pub returns-in_err-verdict_on_positions : goal.returns-in_err-verdict_on_positions
returns-in_err-verdict_on_positions c =
    let rs : List ℤ = c.args.records.now in
    let ps : List ℤ = c.args.positions.now in
    let t : Turn = c.args.turn in
    let k = c.requires.0 in
    let fits : InRange c.args.turn.terms = search rules in
    let number : ℤ = number_of c.in_err-verdict_on_positions.field-0.0 in
    let told = err_from_is_err_and c.from_residual.result c.from_residual.ensures.1 in
    rw (told.1, told.2)
    (later-not-moved rs ps c.args.processes.now k.ready.sound t.terms t.step k.ready.later k.ready.figures (row_of_process t.process) k.ready.known.found k.ready.turn
    c.args.named.record k.record-known.found k.passed c.requires.1
    number (pos 0) (judged-as rs ps t.terms fits c.args.named.record (Refused number (pos 0)) c.in_err-verdict_on_positions.ensures))

-- ---- the booking

pub book_moved-requires : goal.book_moved-requires
book_moved-requires c =
    let rs : List ℤ = c.args.records.now in
    let ps : List ℤ = c.args.positions.now in
    let qs : List ℤ = c.args.processes.now in
    let t : Turn = c.args.turn in
    let k = c.requires.0 in
    let fits : InRange c.args.turn.terms = search rules in
    simp (to_z-of_z fits.1, to_z-of_z fits.2, to_z-of_z fits.3, to_z-of_z fits.4, to_z-of_z fits.5)
    (record {
      records-sound = k.ready.sound.records;
      positions-sound = k.ready.sound.positions;
      record-known = k.record-known;
      old-known = giver rs ps t.terms fits c.position_held-old.result c.position_held-old.ensures;
      new-known = taker rs ps t.terms fits c.position_held-new.result c.position_held-new.ensures;
      not-inverse = not-inverse rs ps qs t c.args.named k;
      accounts-differ = accounts-differ rs ps qs t c.args.named k;
      to-valid = taking-valid rs ps qs t c.args.named k;
      inverse-kind = kind-give-up;
      new-kind = kind-take-up;
      accepted = judged-as rs ps t.terms fits c.args.named.record Accepted c.in_ok-verdict_on_positions.ensures;
    })

-- ---- the process

pub replace_process-requires : goal.replace_process-requires
replace_process-requires c =
    finished-ready c.args.records.now c.args.positions.now c.args.processes.now c.args.turn c.args.named c.requires.0 c.finished-q.result
    (c.finished-q.ensures ∙ ap (λ (p : ProcessRow). finished p) c.stepped.ensures)

pub returns : goal.returns
returns c =
    let rs : List ℤ = c.args.records.now in
    let ps : List ℤ = c.args.positions.now in
    let t : Turn = c.args.turn in
    let k = c.requires.0 in
    let fits : InRange c.args.turn.terms = search rules in
    let effects = moving_effects give_up_kind take_up_kind rs ps c.args.named.record t.terms.id t.terms.giving t.terms.taking t.terms.series in
    let moved : (c.book_moved.new.records ≡ records_after effects rs) × (c.book_moved.new.positions ≡ positions_after effects ps)
    = simp (to_z-of_z fits.1, to_z-of_z fits.3, to_z-of_z fits.4, to_z-of_z fits.5) at c.book_moved.ensures in
    later-completed rs ps c.args.processes.now k.ready.sound t.terms t.step k.ready.later k.ready.figures (row_of_process t.process) k.ready.known.found k.ready.turn
    c.args.named.record k.record-known.found k.passed c.requires.1
    (judged-as rs ps t.terms fits c.args.named.record Accepted c.in_ok-verdict_on_positions.ensures)
    (row_of_process c.finished-q.result) (c.finished-q.ensures ∙ ap (λ (p : ProcessRow). finished p) c.stepped.ensures)
    c.book_moved.new.records c.book_moved.new.positions c.replace_process.new.cells moved.0 moved.1 c.replace_process.ensures.0
