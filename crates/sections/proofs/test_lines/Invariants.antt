-- What the loop of `test_lines` keeps. Assumes nothing.
use Prim.Native.Nat.{◌+◌, ◌*◌, ◌≤◌}
use Rattle.limits.specs.Limits.{longest_line}
use Rattle.pieces.specs.Pieces.{Wrote}
use Rattle.sections.specs.Sections.{test_lines}
use Rattle.sections.proofs.test_lines.Given as goal

abbrev pub invariant-loop-t : goal.invariant-loop-t
invariant-loop-t l =
    (l.piece.at ≤ l.fn.piece.at + longest_line * l.t)
    × Wrote (test_lines l.register.file.now l.query.tests l.counts l.t) l.fn.piece l.piece
