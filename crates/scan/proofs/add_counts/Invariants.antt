-- What the loop of `add_counts` keeps. Assumes nothing.
use Prim.Native.Nat.{◌+◌}
use lib.ListN.{get_or}
use Rattle.basis.specs.Sweeps.{Swept}
use Rattle.scan.proofs.add_counts.Given as goal

abbrev pub invariant-loop-t : goal.invariant-loop-t
invariant-loop-t l =
    Swept l.initial.counts l.counts 0 l.t (λ k. get_or l.initial.counts k 0 + get_or l.read k 0)
