use Rattle.journal_reading.proofs.RequestsRead.{bad-line, by-validity}
use Rattle.journal_reading.proofs.request.read_request.Goals as goal

pub returns-in_err-line : goal.returns-in_err-line
returns-in_err-line c = rw c.from_residual.ensures (bad-line c.args.text.now c.args.at c.read_line.new.figures c.in_err-line.ensures)

pub returns : goal.returns
returns c = rw c.then_some.ensures (by-validity c.args.text.now c.args.at c.read_line.new.figures c.in_ok-line.line c.in_ok-line.ensures c.line_valid.result c.line_valid.ensures)
