-- What the loop of `try_reading::make` keeps: the numbers passed made the elements that stand there. Assumes nothing.
use Rattle.try_reading.specs.Requests.{MadeBelow}
use Rattle.try_reading.proofs.make.Given as goal

abbrev pub invariant-loop-i : goal.invariant-loop-i
invariant-loop-i g l = MadeBelow g.T.TryFrom.try_from_gives l.i l.numbers l.out
