-- What the loop of `join_codes` keeps. Assumes nothing.
use Rattle.table.specs.ManyAtOnce.{Raised}
use Rattle.table.proofs.join_codes.Given as goal

abbrev pub invariant-loop-k : goal.invariant-loop-k
invariant-loop-k l = Raised l.codes l.at l.k l.initial.joined l.joined
