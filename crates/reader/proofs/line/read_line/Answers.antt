use Rattle.std.proofs.Common.{◌≡◌, ℕ, List, ℤ, ap, ◌∙◌, arith}
use Rattle.text.specs.Scan.{Taken, take_fields}
use Rattle.reader.proofs.Places.{before-end}
use Rattle.reader.proofs.Lines.{no_line, no-newline, newline-there}
use Rattle.reader.proofs.line.read_line.Goals as goal

-- As many cells were lent as a line may have figures.
fields-of : {cells : ℕ} (rest : List ℕ) {read : Taken (List ℤ)} → cells ≡ 2003 → read ≡ take_fields cells rest → read ≡ take_fields 2003 rest
fields-of rest e h = h ∙ ap (λ (most : ℕ). take_fields most rest) e

pub returns-in_err-headed : goal.returns-in_err-headed
returns-in_err-headed c = rw c.from_residual.ensures (record { line = no_line _ c.in_err-headed.ensures; within = tt; cells = c.requires })

pub returns-then-byte_at-ne10 : goal.returns-then-byte_at-ne10
returns-then-byte_at-ne10 c =
    let fields = fields-of _ c.requires c.read_fields-read.ensures.0 in
    record {
      line = no-newline c.args.text.now c.args.at c.read_fields-read.result.next c.in_ok-headed.ensures fields c.byte_at.ensures c.if-byte_at-ne10.true;
      within = tt;
      cells = omega (arith, c.read_fields-read.auto.figures, c.requires);
    }

pub returns : goal.returns
returns c =
    let fields = fields-of _ c.requires c.read_fields-read.ensures.0 in
    record {
      line = newline-there c.args.text.now c.args.at c.read_fields-read.result.next c.in_ok-headed.ensures fields c.byte_at.ensures c.if-byte_at-ne10.false;
      within = (c.read_fields-read.ensures.1, omega (arith, before-end c.args.text.now c.read_fields-read.result.next c.byte_at.ensures (omega arith)));
      cells = omega (arith, c.read_fields-read.auto.figures, c.requires);
    }
