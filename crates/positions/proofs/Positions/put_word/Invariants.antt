-- What the loop of `Positions::put_word` keeps, and what each turn makes less.
use Rattle.positions.proofs.ByteOfWord.{Passed}
use Rattle.positions.proofs.Positions.put_word.Given as goal

abbrev pub invariant-loop-rest : goal.invariant-loop-rest
invariant-loop-rest l = Passed l.word l.first l.at l.all l.initial.out l.out l.next l.rest l.passed

abbrev pub decreases-loop-rest : goal.decreases-loop-rest
decreases-loop-rest l = l.rest
