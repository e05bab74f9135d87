-- `pieces::Piece::put_word` meets its contract: the bytes passed are written. Assumes nothing.
use native.Mathlib.Omega.{arith}
use Rattle.pieces.proofs.Writing.{wrote_nothing, written_on}
use Rattle.pieces.proofs.Piece.put_word.Goals as goal

pub loop-byte-init : goal.loop-byte-init
loop-byte-init c = (omega arith, wrote_nothing _)

pub loop-byte-preserved : goal.loop-byte-preserved
loop-byte-preserved c =
    (omega arith, written_on c.args.word.now c.loop-byte.byte-index (omega arith) c.loop-byte.invariant.1 c.put.ensures)
