-- What the loop of `put_word` keeps. Assumes nothing.
use Prim.Native.Nat.{◌+◌}
use mathlib.Core.Path.{◌≡◌}
use lib.ListN.{take}
use Rattle.pieces.specs.Pieces.{Wrote}
use Rattle.pieces.proofs.Piece.put_word.Given as goal

abbrev pub invariant-loop-byte : goal.invariant-loop-byte
invariant-loop-byte l =
    (l.self.at ≡ l.fn.self.at + l.byte-index) × Wrote (take l.byte-index l.word) l.fn.self l.self
