-- What the loop of `row_lines` keeps. Assumes nothing.
use Prim.Native.Nat.{◌+◌, ◌*◌, ◌≤◌}
use Rattle.limits.specs.Limits.{longest_line}
use Rattle.bits.specs.Marked.{marked_below}
use Rattle.pieces.specs.Pieces.{Wrote}
use Rattle.sections.specs.Sections.{row_lines}
use Rattle.sections.proofs.row_lines.Given as goal

abbrev pub invariant-loop-row : goal.invariant-loop-row
invariant-loop-row l =
    (l.piece.at ≤ l.fn.piece.at + longest_line * l.row)
    × Wrote (row_lines l.register.file.now (marked_below l.row l.bits)) l.fn.piece l.piece
