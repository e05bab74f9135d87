-- What the loop of `take_out` keeps: the rows up to one are taken out. Assumes nothing.
use Prim.Native.Nat.{◌+◌}
use lib.ListN.{get_or}
use Rattle.basis.specs.Sweeps.{Swept}
use Rattle.standings.specs.TakenOut.{taken_out_by}
use Rattle.standings.proofs.take_out.Given as goal

abbrev pub invariant-loop-r : goal.invariant-loop-r
invariant-loop-r l =
    Swept l.initial.inside l.inside 0 l.r (λ k. taken_out_by (get_or l.standings (l.base + k) 0) l.bad (get_or l.initial.inside k 0))
