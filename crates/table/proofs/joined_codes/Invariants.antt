-- What the loop of `joined_codes` keeps. Assumes nothing.
use mathlib.Core.Path.{◌≡◌}
use lib.ListN.{length}
use Rattle.limits.specs.Limits.{longest_period}
use Rattle.table.specs.ManyAtOnce.{Covers}
use Rattle.table.proofs.joined_codes.Given as goal

abbrev pub invariant-loop-i : goal.invariant-loop-i
invariant-loop-i l =
    (length l.joined ≡ longest_period) × Covers l.codes l.period l.i l.joined
