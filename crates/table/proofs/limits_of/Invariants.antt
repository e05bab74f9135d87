-- What the loop of `limits_of` keeps. Assumes nothing.
use Prim.Native.Nat.{◌^◌}
use mathlib.Core.Path.{◌≡◌}
use lib.ListN.{length}
use Rattle.table.specs.Table.{width_of}
use Rattle.table.specs.ManyAtOnce.{Holds}
use Rattle.table.proofs.limits_of.Given as goal

abbrev pub invariant-loop-column : goal.invariant-loop-column
invariant-loop-column l =
    (length l.limits ≡ 32) × Holds (λ k. 2 ^ width_of l.widths k) l.column l.limits
