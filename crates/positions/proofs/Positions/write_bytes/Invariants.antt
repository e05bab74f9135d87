-- What the loop of `Positions::write_bytes` keeps: the rows of the bytes passed are written.
use Rattle.positions.proofs.Written.{Written}
use Rattle.positions.proofs.Positions.write_bytes.Given as goal

abbrev pub invariant-loop-i : goal.invariant-loop-i
invariant-loop-i l = Written l.bits l.all l.initial.out l.out l.at l.i
