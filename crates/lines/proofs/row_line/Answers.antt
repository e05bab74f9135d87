-- `lines::row_line` meets its contract: its word, its number and its cells, one behind the other. Assumes nothing.
use native.Mathlib.Omega.{arith}
use Rattle.lines.specs.Lines.{row_line}
use Rattle.pieces.proofs.Writing.{written_then}
use Rattle.register.proofs.Fit.{columns_as_opened}
use Rattle.lines.proofs.row_line.Goals as goal

pub returns : goal.returns
unfolding row_line
returns c =
    let columns = columns_as_opened _ _ c.args.register.now.opened in
    let codes = written_then (rw columns at c.put_cells.ensures.wrote) c.put-2.ensures in
    let number = written_then c.put_decimal.ensures.wrote (written_then c.put.ensures codes) in
    record { wrote = written_then c.put_word.ensures number; within = omega arith }
