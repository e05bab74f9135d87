-- What the loop of `Positions::write_places` keeps: the rows of the places passed stand there.
use Rattle.std.proofs.Common.{map}
use Rattle.basis.specs.Lists.{below}
use Rattle.basis.proofs.Buffers.{Filled}
use Rattle.positions.specs.Steps.{row_at}
use Rattle.positions.proofs.Positions.write_places.Given as goal

abbrev pub invariant-loop-k : goal.invariant-loop-k
invariant-loop-k l = Filled l.initial.out l.at (map (row_at l.byte l.first) (below l.k)) l.out
