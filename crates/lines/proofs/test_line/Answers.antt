-- `lines::test_line` meets its contract: its words and numbers, one behind the other. Assumes nothing.
use native.Mathlib.Omega.{arith}
use Rattle.lines.specs.Lines.{test_line}
use Rattle.pieces.proofs.Writing.{written_then}
use Rattle.lines.proofs.test_line.Goals as goal

pub returns : goal.returns
unfolding test_line
returns c =
    let most = written_then c.put_word-3.ensures (written_then c.put_decimal-3.ensures.wrote c.put.ensures) in
    let count = written_then c.put_word-2.ensures (written_then c.put_decimal-2.ensures.wrote most) in
    record {
      wrote = written_then c.put_word.ensures (written_then c.put_decimal.ensures.wrote count);
      within = omega arith;
    }
