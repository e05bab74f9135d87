-- What the loop of `plan_column` keeps. Assumes nothing.
use mathlib.Core.Path.{◌≡◌}
use lib.ListN.{length}
use Rattle.limits.specs.Limits.{most_slices}
use Rattle.codes.specs.Width.{slices_of}
use Rattle.segment.specs.Steps.{BytesPlanned}
use Rattle.segment.proofs.plan_column.Given as goal

abbrev pub invariant-loop-j : goal.invariant-loop-j
invariant-loop-j l =
    (l.slices ≡ slices_of l.width) × (length l.bounds ≡ most_slices) × BytesPlanned l.width l.literal l.j l.bounds
