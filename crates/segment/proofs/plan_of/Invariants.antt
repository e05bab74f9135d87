-- What the loop of `plan_of` keeps. Assumes nothing.
use mathlib.Core.Path.{◌≡◌}
use lib.ListN.{length}
use Rattle.limits.specs.Limits.{most_tests}
use Rattle.segment.specs.Steps.{Planned}
use Rattle.segment.proofs.plan_of.Given as goal

abbrev pub invariant-loop-t : goal.invariant-loop-t
invariant-loop-t l = (length l.columns ≡ most_tests) × Planned l.register.file.now l.query.tests l.t (record { columns = l.columns })
