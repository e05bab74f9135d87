-- `positions::Positions::place` meets its contract: the table's rule at the byte and the number. Assumes nothing.
use Rattle.std.proofs.Common.{arith}
use Rattle.positions.proofs.Positions.place.Goals as goal

pub returns : goal.returns
returns c = rw c.from.ensures (c.args.self.now.right c.args.byte c.args.k (omega arith) c.requires)
