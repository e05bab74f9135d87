-- What the loop of `step` keeps: the slice is taken up to a row. Assumes nothing.
use Prim.Native.Nat.{◌+◌}
use lib.ListN.{get_or}
use Rattle.standings.specs.Standings.{stepped_row}
use Rattle.basis.specs.Sweeps.{Swept}
use Rattle.standings.proofs.step.Given as goal

abbrev pub invariant-loop-r : goal.invariant-loop-r
invariant-loop-r l =
    Swept l.initial.standings l.standings l.base l.r
    (λ k. stepped_row (get_or l.initial.standings (l.base + k) 0) l.low l.high (get_or l.part k 0))
