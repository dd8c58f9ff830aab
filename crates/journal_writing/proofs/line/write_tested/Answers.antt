use Rattle.std.proofs.Common.{◌^◌, ◌≤◌, ◌<◌, ◌++◌, List, ℕ, ℤ, length, ap, ◌∙◌, arith}
use mir.Facts.{to_z_pos}
use mir.Syntax.{w64}
use Rattle.rules.specs.Line.{line_text}
use Rattle.rules.specs.Writing.{text_left}
use Rattle.rules.specs.declared.Reply.TheVariants.{Written}
use Rattle.journal_writing.proofs.WritingAnswers.{refused-3, refused-14, written-at-front}
use Rattle.journal_writing.proofs.line.write_tested.Goals as goal

pub returns-then-not-valid : goal.returns-then-not-valid
returns-then-not-valid c = rw (c.from.ensures, c.if-not-valid.true) (refused-3 _ c.args.text.now)

pub returns-then-text-width : goal.returns-then-text-width
returns-then-text-width c =
    rw
    (c.from-then-text-width.ensures, c.if-not-valid.false)
    (refused-14 (line_text c.args.heading (c.args.figures.now ++ c.args.more.now)) c.args.text.now (omega (arith, c.if-text-width.true, c.line_width-width.ensures.0)))

pub returns : goal.returns
returns c =
    let line : List ℕ = line_text c.args.heading (c.args.figures.now ++ c.args.more.now) in
    let few : length c.args.more.now ≤ 2000 = c.requires.1 c.if-not-valid.false in
    let room : length line ≤ length c.args.text.now = omega (arith, c.if-text-width.false, c.line_width-width.ensures.0) in
    let small : c.write_line-end.result < 2 ^ 63 = omega (arith, c.write_line-end.ensures.0, c.line_width-width.ensures, c.requires.0, few) in
    rw
    c.if-not-valid.false
    (ap (λ (bytes : ℤ). text_left (Written bytes) c.write_line-end.new.text) (to_z_pos w64 small)
    ∙ written-at-front line c.args.text.now _ _ room c.write_line-end.ensures)
