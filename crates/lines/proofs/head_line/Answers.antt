-- `lines::head_line` meets its contract: its words and numbers, one behind the other. Assumes nothing.
use native.Mathlib.Omega.{arith}
use mathlib.Core.Path.{refl}
use Rattle.lines.specs.Lines.{head_line}
use Rattle.pieces.proofs.Writing.{written_then}
use Rattle.lines.proofs.head_line.Goals as goal

pub returns : goal.returns
unfolding head_line
returns c =
    let matches = written_then c.put_word-2.ensures (written_then c.put_decimal-2.ensures.wrote c.put.ensures) in
    record {
      wrote = record { begun = _; from_nothing = record { same_buffer = refl; same_bytes = refl; same_place = refl; first = refl }; wrote = written_then c.put_word.ensures (written_then c.put_decimal.ensures.wrote matches) };
      within = omega arith;
    }
