-- What the loop of `Positions::write_words` keeps: the rows of the words passed are written.
use Rattle.std.proofs.Common.{◌*◌}
use Rattle.positions.proofs.Written.{Written}
use Rattle.positions.proofs.Positions.write_words.Given as goal

abbrev pub invariant-loop-w : goal.invariant-loop-w
invariant-loop-w l = Written l.bits l.all l.initial.out l.out l.at (8 * l.w)
