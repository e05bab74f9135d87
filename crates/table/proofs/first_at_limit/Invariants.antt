-- What the loop of `first_at_limit` keeps. Assumes nothing.
use Prim.Native.Nat.{ℕ, ◌+◌, ◌<◌}
use mathlib.Core.Path.{◌≡◌}
use mathlib.Core.Bool.{not, false}
use lib.Dec.{ltb}
use lib.ListN.{get_or}
use Rattle.table.proofs.first_at_limit.Given as goal

abbrev pub invariant-loop-column : goal.invariant-loop-column
invariant-loop-column l =
    ((earlier : ℕ) → earlier < l.column → not (ltb (get_or l.codes (l.at + earlier) 0) (get_or l.limits earlier 0)) ≡ false)
