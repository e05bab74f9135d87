-- `query_lines::read_line` meets its contract: word by word, and where one is missing there is no line. Assumes nothing.
use Rattle.query_lines.proofs.ReadLines.{column_missing, comparison_missing, line_read}
use Rattle.query_lines.proofs.read_line.Goals as goal

pub returns-in_err-column : goal.returns-in_err-column
returns-in_err-column c = rw c.from_residual.ensures (column_missing c.args.text.now c.args.at c.in_err-column.ensures)

pub returns-in_err-comparison : goal.returns-in_err-comparison
returns-in_err-comparison c =
    rw c.from_residual-in_err-comparison.ensures
    (comparison_missing c.args.text.now c.args.at c.in_ok-column.ensures c.in_err-comparison.ensures)

pub returns : goal.returns
returns c =
    line_read c.args.text.now c.args.at c.in_ok-column.ensures c.in_ok-comparison.comparison c.in_ok-comparison.ensures
