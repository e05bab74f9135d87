-- `lines::put_cell` meets its contract: a space, and the code behind it. Assumes nothing.
use native.Mathlib.Omega.{arith}
use Rattle.pieces.proofs.Writing.{written_then}
use Rattle.lines.proofs.put_cell.Goals as goal

pub returns : goal.returns
returns c = record { wrote = written_then c.put.ensures c.put_decimal.ensures.wrote; within = omega arith }
