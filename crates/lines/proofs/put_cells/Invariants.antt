-- What the loop of `put_cells` keeps. Assumes nothing.
use Prim.Native.Nat.{◌+◌, ◌*◌, ◌≤◌}
use Rattle.limits.specs.Limits.{longest_cell}
use Rattle.pieces.specs.Pieces.{Wrote}
use Rattle.lines.specs.Lines.{cells}
use Rattle.lines.proofs.put_cells.Given as goal

abbrev pub invariant-loop-column : goal.invariant-loop-column
invariant-loop-column l =
    (l.piece.at ≤ l.fn.piece.at + longest_cell * l.column) × Wrote (cells l.register.file.now l.row l.column) l.fn.piece l.piece
