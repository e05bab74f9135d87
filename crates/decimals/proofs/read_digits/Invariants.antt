-- What the loop of `read_digits` keeps.
use Prim.Native.Nat.{◌+◌}
use Rattle.decimals.proofs.Numbers.{Begun}
use Rattle.decimals.proofs.read_digits.Given as goal

abbrev pub invariant-loop-at : goal.invariant-loop-at
invariant-loop-at l = Begun (l.most + 1) l.text l.from l.number l.at
