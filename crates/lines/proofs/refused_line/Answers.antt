-- `lines::refused_line` meets its contract: its words and numbers, one behind the other. Assumes nothing.
use mathlib.Core.Path.{refl}
use Rattle.lines.specs.Lines.{refused_line}
use Rattle.pieces.proofs.Writing.{written_then}
use Rattle.lines.proofs.refused_line.Goals as goal

pub returns : goal.returns
unfolding refused_line
returns c =
    let number = rw c.number.ensures at c.put_decimal.ensures.wrote in
    let place = rw c.place.ensures at c.put_decimal-2.ensures.wrote in
    record {
      begun = _;
      from_nothing = record { same_buffer = refl; same_bytes = refl; same_place = refl; first = refl };
      wrote = written_then c.put_word.ensures (written_then number (written_then c.put.ensures (written_then place c.put-2.ensures)));
    }
