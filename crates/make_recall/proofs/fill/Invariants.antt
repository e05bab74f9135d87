-- What the loop of `fill` keeps: the codes up to a place stand there. Assumes nothing.
use Rattle.std.proofs.Common.{map}
use Rattle.basis.specs.Lists.{below}
use Rattle.basis.proofs.Buffers.{Filled}
use Rattle.make_recall.specs.Pickups.{code_at}
use Rattle.make_recall.proofs.fill.Given as goal

abbrev pub invariant-loop-at : goal.invariant-loop-at
invariant-loop-at l = Filled l.initial.codes 0 (map code_at (below l.at)) l.codes
